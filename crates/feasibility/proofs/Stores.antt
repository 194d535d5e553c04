-- The least period of a store's users.
use Rattle.std.proofs.Common.{◌≡◌, ℕ, zero, suc, ◌<◌, ◌≤◌, cond, eqb, ◌≢◌, ◌⊎◌, List, [], ◌∷◌, length, Some, None, Option, MatchOption, sym, ◌∙◌, subst, inl, inr, arith}
use Rattle.feasibility.specs.Tables.{row_at, Limited, Sound, lower, least_period, least_kept, Least, Unused}
use Rattle.feasibility.specs.declared.row.Row.{Row}
use Rattle.std.proofs.lemmas.Bool.{cases_eq, cond-true, cond-false, eq-eqb, ne_eqb}
use Rattle.std.proofs.lemmas.Bool.Decides.{nat_tests}

pub sound_rest : (x : Row) (xs : List Row) → Sound (x ∷ xs) → Sound xs
sound_rest x xs sound j l = sound (suc j) (omega arith)

-- the lower of two is at most each that there is, is one of them, and is there if one is
lower_bound : (p q k : ℕ) → p ≤ k → q ≤ k → lower p q ≤ k
lower_bound p q k a b = grind (arith, nat_tests)

lower_left : (p q : ℕ) → 1 ≤ p → (1 ≤ lower p q) × (lower p q ≤ p)
lower_left p q some = (grind (arith, nat_tests), grind (arith, nat_tests))

lower_right : (p q : ℕ) → 1 ≤ q → (1 ≤ lower p q) × (lower p q ≤ q)
lower_right p q some = (grind (arith, nat_tests), grind (arith, nat_tests))

lower_is : (p q : ℕ) → 1 ≤ lower p q → ((1 ≤ p) × (lower p q ≡ p)) ⊎ ((1 ≤ q) × (lower p q ≡ q))
lower_is p q some = grind (arith, nat_tests)

-- the period of a row, if it uses the store r
own : Row → ℕ → ℕ
own x r = cond (eqb x.store r) x.period 0

own_is : (x : Row) (r : ℕ) → x.store ≡ r → own x r ≡ x.period
unfolding own
own_is x r e = cond-true (eqb x.store r) x.period 0 (eq-eqb x.store r e)

own_uses : (x : Row) (r : ℕ) → 1 ≤ own x r → (x.store ≡ r) × (own x r ≡ x.period)
unfolding own
own_uses x r some = at (cases_eq x.store r)
  where
    at : (x.store ≡ r) ⊎ (x.store ≡ r → ⊥) → (x.store ≡ r) × (own x r ≡ x.period)
    at (inl e) = (e, own_is x r e)
    at (inr ne) = absurd (none (cond-false (eqb x.store r) x.period 0 (ne_eqb x.store r ne)))
      where
        none : own x r ≡ 0 → ⊥
        none z = omega arith

own_short : (x : Row) (r : ℕ) → Limited x → own x r ≤ 65535
unfolding own
own_short x r limited = grind (arith, nat_tests)

first : (x : Row) (xs : List Row) → Sound (x ∷ xs) → Limited x
first x xs sound = sound zero (omega arith)

-- it is a period, so within the limit of one
least_short : (rows : List Row) (r : ℕ) → Sound rows → least_period rows r ≤ 65535
unfolding own
least_short [] r sound = omega arith
least_short (x ∷ xs) r sound =
    lower_bound (own x r) (least_period xs r) 65535 (own_short x r (first x xs sound))
    (least_short xs r (sound_rest x xs sound))

-- a user of the store bounds it
pub least_bound :
    (rows : List Row) (r : ℕ) → Sound rows → (j : ℕ) → j < length rows → (row_at rows j).store ≡ r →
    (1 ≤ least_period rows r) × (least_period rows r ≤ (row_at rows j).period)
unfolding own
least_bound [] r sound j l e = omega arith
least_bound (x ∷ xs) r sound zero l e =
    let limited = first x xs sound in
    let is = own_is x r e in
    let here = lower_left (own x r) (least_period xs r) (omega (arith, is, limited)) in
    (here.0, omega (arith, here.1, is))
least_bound (x ∷ xs) r sound (suc j) l e =
    let rest = least_bound xs r (sound_rest x xs sound) j (omega arith) e in
    let here = lower_right (own x r) (least_period xs r) rest.0 in
    (here.0, omega (arith, here.1, rest.1))

-- it is the period of a user, if there is one
user :
    (rows : List Row) (r : ℕ) → 1 ≤ least_period rows r →
    (k : ℕ) × (k < length rows) × ((row_at rows k).store ≡ r) × ((row_at rows k).period ≡ least_period rows r)
unfolding own
user [] r some = absurd (none some)
  where
    none : 1 ≤ 0 → ⊥
    none h = omega arith
user (x ∷ xs) r some = at (user xs r) (lower_is (own x r) (least_period xs r) some)
  where
    at :
        (1 ≤ least_period xs r →
        (k : ℕ) × (k < length xs) × ((row_at xs k).store ≡ r) × ((row_at xs k).period ≡ least_period xs r)) →
        ((1 ≤ own x r) × (least_period (x ∷ xs) r ≡ own x r)) ⊎
        ((1 ≤ least_period xs r) × (least_period (x ∷ xs) r ≡ least_period xs r)) →
        (k : ℕ) × (k < length (x ∷ xs)) × ((row_at (x ∷ xs) k).store ≡ r) × ((row_at (x ∷ xs) k).period ≡ least_period (x ∷ xs) r)
    at rest (inl here) =
        let uses = own_uses x r here.0 in (0, omega arith, uses.0, sym uses.1 ∙ sym here.1)
    at rest (inr later) =
        let y = rest later.0 in (suc y.0, omega (arith, y.1), y.2, y.3 ∙ sym later.1)

pub least_law : (rows : List Row) (r : ℕ) → Sound rows → 1 ≤ least_period rows r → Least rows r (least_period rows r)
least_law rows r sound some =
    let k = user rows r some in
    record {
      user = k.0;
      within = k.1;
      uses = k.2;
      own = k.3;
      least = λ j l e. (least_bound rows r sound j l e).1;
    }

least_none :
    (rows : List Row) (r : ℕ) → Sound rows → least_period rows r ≡ 0 → (j : ℕ) → j < length rows → (row_at rows j).store ≢ r
least_none rows r sound none j l e = bad (least_bound rows r sound j l e).0
  where
    bad : 1 ≤ least_period rows r → ⊥
    bad some = omega arith

-- what is kept of a store: that it has no users, or the least of their periods
pub kept_law :
    (rows : List Row) (r : ℕ) (o : Option ℕ) → Sound rows → o ≡ least_kept rows r →
    MatchOption o (Unused rows r) (λ p. Least rows r p)
kept_law rows r o sound is = subst Law (sym is) (at (cases_eq (least_period rows r) 0))
  where
    Law : Option ℕ → Type 0
    Law o = MatchOption o (Unused rows r) (λ p. Least rows r p)

    at : (least_period rows r ≡ 0) ⊎ (least_period rows r ≡ 0 → ⊥) → Law (least_kept rows r)
    at (inl z) =
        subst Law (sym (cond-true (eqb (least_period rows r) 0) None (Some (least_period rows r)) (eq-eqb (least_period rows r) 0 z)))
        (λ _. least_none rows r sound z)
    at (inr nz) =
        subst Law (sym (cond-false (eqb (least_period rows r) 0) None (Some (least_period rows r)) (ne_eqb (least_period rows r) 0 nz)))
        (least_law rows r sound (omega arith))

-- within the limit of a period
pub kept_short : (rows : List Row) (r p : ℕ) → Sound rows → Some p ≡ least_kept rows r → p ≤ 65535
kept_short rows r p sound is = grind (arith, nat_tests, least_short rows r sound, is)
