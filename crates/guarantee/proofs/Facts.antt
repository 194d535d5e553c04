-- What is known where a call is accepted.
use Rattle.std.proofs.Common.{◌≡◌, ℕ, ◌+◌, ◌-◌, ◌<◌, ◌≤◌, min, Bool, true, false, cond, ◌&&◌, eqb, ltb, leb, ◌⊎◌, List, length, is_some as option_is_some, Some, None, Err, Option, Result, refl, inl, inr, arith}
use Rattle.feasibility.proofs.Stores.{least_bound}
use Rattle.feasibility.specs.Contents.{numbered, least_told}
use Rattle.feasibility.specs.Limits.{max_store}
use Rattle.feasibility.specs.Tables.{row_at, least_period, Sound}
use Rattle.feasibility.specs.declared.row.Row.{Row}
use Rattle.guarantee.specs.Rules.{Ruled, known, too_early, lowered}
use Rattle.guarantee.specs.States.{State}
use Rattle.guarantee.specs.declared.refusal.Refusal.{Refusal}
use Rattle.std.proofs.lemmas.Bool.{cases_eq, ne_eqb, ltb-false}
use Rattle.std.proofs.lemmas.Bool.Decides.{nat_tests}

-- A call is accepted or refused.
pub data Outcome {A : Type 0} (o : Option Refusal) (s : State) (r : Result A Refusal) (t : State) (P : Type 0) : Type 0 where
  accepted : o ≡ None → P → Outcome o s r t P
  refused : (e : Refusal) → o ≡ Some e → r ≡ Err e → t ≡ s → Outcome o s r t P

pub outcome :
    {A : Type 0} (o : Option Refusal) (s : State) (r : Result A Refusal) (t : State) (P : Type 0) → Ruled o s r t P →
    Outcome o s r t P
outcome None s r t P p = accepted refl p
outcome (Some e) s r t P p = refused e refl p.0 p.1

-- a test that does not refuse, and the tests after it
pub passed :
    (b : Bool) (e : Refusal) (o : Option Refusal) → cond b (Some e) o ≡ None → (b ≡ false) × (o ≡ None)
passed true e o p = (cc, cc)
passed false e o p = (refl, p)

pub is_none : {X : Type 0} (o : Option X) → option_is_some o ≡ false → o ≡ None
is_none None p = refl
is_none (Some x) p = cc

pub is_some : {X : Type 0} (o : Option X) → option_is_some o ≡ true → (x : X) × (o ≡ Some x)
is_some None p = absurd (bad p)
  where
    bad : false ≡ true → ⊥
    bad q = let z : ◌≡◌ {A = ℕ} 0 1 = cc in omega arith
is_some (Some x) p = (x, refl)

-- a row of the table, by its number
pub in_table :
    (rows : List Row) (n : ℕ) → option_is_some (numbered rows n) ≡ true →
    (1 ≤ n) × (n ≤ length rows) × (known (numbered rows n) ≡ row_at rows (n - 1))
in_table rows n p = (grind (arith, nat_tests, p), grind (arith, nat_tests, p), named)
  where
    within : (ltb 0 n && leb n (length rows)) ≡ true
    within = grind (arith, nat_tests, p)

    named : known (numbered rows n) ≡ row_at rows (n - 1)
    named = rw within refl

pub numbered_in :
    (rows : List Row) (n : ℕ) → 1 ≤ n → n ≤ length rows → numbered rows n ≡ Some (row_at rows (n - 1))
numbered_in rows n low high =
    let within : (ltb 0 n && leb n (length rows)) ≡ true = grind (arith, nat_tests) in rw within refl

-- the clock is not below the next request
abbrev pub next_of : ℕ → Option ℕ → ℕ
next_of period None = 0
next_of period (Some last) = last + period

pub not_early :
    (clock period : ℕ) (last : Option ℕ) → too_early clock period last ≡ false → next_of period last ≤ clock
not_early clock period None p = omega arith
not_early clock period (Some last) p = ltb-false clock (last + period) p

-- the deadline of a job of the row at place i that begins now
pub lowered_is :
    (rows : List Row) (clock d i : ℕ) → Sound rows → i < length rows →
    lowered clock d (least_told rows (row_at rows i).store) ≡
    cond (eqb (row_at rows i).store 0) d (min d (clock + 1 + least_period rows (row_at rows i).store))
lowered_is rows clock d i sound l = at (cases_eq r 0)
  where
    r : ℕ
    r = (row_at rows i).store

    at :
        (r ≡ 0) ⊎ (r ≡ 0 → ⊥) →
        lowered clock d (least_told rows r) ≡ cond (eqb r 0) d (min d (clock + 1 + least_period rows r))
    at (inl z) = rw z refl
    at (inr nz) =
        let some = (least_bound rows r sound i l refl).0 in
        let inside : (ltb 0 r && leb r max_store) ≡ true = grind (arith, nat_tests, nz, (sound i l).3) in
        let used : eqb (least_period rows r) 0 ≡ false = ne_eqb (least_period rows r) 0 (λ z. omega (arith, some)) in
        rw (inside, used, ne_eqb r 0 nz) refl
