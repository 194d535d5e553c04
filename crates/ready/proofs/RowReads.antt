-- Entries in any order, a row at a time: how many have it, and what is read of it.
use Rattle.std.proofs.Common.{◌≡◌, ℕ, ◌+◌, ◌≤◌, Bool, true, false, cond, eqb, List, [], ◌∷◌, Some, None, Option, sym, refl, ap, ◌∙◌, subst, inl, inr, arith}
use Rattle.ready.specs.ByRow.{count_of, RowsOnce, entry_of}
use Rattle.ready.specs.Entries.{slot, entry, outside}
use Rattle.ready.specs.declared.entry.Entry.{Entry}
use Rattle.ready.specs.declared.entry.Slot.{Slot}
use Rattle.std.proofs.ByRecursion.{all-has, All-weaker, has_append_right, has_shuffled}
use Rattle.std.proofs.lemmas.List.Sorted.{sum_by-IsPermutation}
use Rattle.std.proofs.lemmas.List.Sums.{sum_by-cons}
use Rattle.std.proofs.lemmas.Bool.{cases_eq, cond-true, cond-false, eqb-true, eqb-false, eq-eqb, ne_eqb}
use Rattle.std.proofs.lemmas.Bool.Decides.{nat_tests}
use Rattle.std.specs.List.Sorted.{IsPermutation}
use Rattle.std.specs.List.{ContainsAt, AllByRecursion}

-- What a list holds of an entry.
abbrev pub part : Entry → Slot
part e = slot e.deadline e.begun

count_cons :
    (e : Entry) (es : List Entry) (row : ℕ) →
    count_of (e ∷ es) row ≡ cond (eqb e.row row) 1 0 + count_of es row
count_cons e es row = sum_by-cons (λ x. cond (eqb x.row row) 1 0) e es

-- None has the row: by counting, by reading, and one by one.
apart : (b : Bool) (n : ℕ) → cond b 1 0 + n ≡ 0 → b ≡ false
apart b n z = grind (arith, nat_tests)

absent : (es : List Entry) (row : ℕ) → count_of es row ≡ 0 → entry_of es row ≡ None
absent [] row z = refl
absent (e ∷ es) row z =
    let c = count_cons e es row in
    cond-false (eqb e.row row) _ _ (apart (eqb e.row row) (count_of es row) (sym c ∙ z)) ∙
    absent es row (omega arith)

one_less :
    (b : Bool) (x : Slot) (o : Option Slot) (n : ℕ) → cond b (Some x) o ≡ None → (o ≡ None → n ≡ 0) →
    cond b 1 0 + n ≡ 0
one_less true x o n z f = absurd cc
one_less false x o n z f = omega (arith, f z)

unseen : (es : List Entry) (row : ℕ) → entry_of es row ≡ None → count_of es row ≡ 0
unseen [] row z = refl
unseen (e ∷ es) row z =
    count_cons e es row ∙
    one_less (eqb e.row row) (part e) (entry_of es row) (count_of es row) z (unseen es row)

none_of : (es : List Entry) (row : ℕ) → count_of es row ≡ 0 → AllByRecursion (λ x. x.row ≡ row → ⊥) es
none_of [] row z = tt
none_of (e ∷ es) row z =
    let c = count_cons e es row in
    let n = apart (eqb e.row row) (count_of es row) (sym c ∙ z) in (
      eqb-false e.row row n,
      none_of es row (omega arith),
    )

counted : (b : Bool) → 1 ≤ cond b 0 1 → b ≡ false
counted b h = grind (arith, nat_tests)

at_most_one : (b : Bool) → cond b 0 1 ≤ 1
at_most_one b = grind (arith, nat_tests)

most : (es : List Entry) (row : ℕ) → RowsOnce es → count_of es row ≤ 1
most es row once = omega (arith, once row, at_most_one (outside row))

-- Where no two have the row, any that has it is the one that is read.
each :
    (es : List Entry) (row : ℕ) → count_of es row ≤ 1 → AllByRecursion (λ x. x.row ≡ row → entry_of es row ≡ Some (part x)) es
each [] row h = tt
each (e ∷ es) row h =
    let c = count_cons e es row in (
      λ p. cond-true (eqb e.row row) _ _ (eq-eqb e.row row p),
      at (eqb e.row row) (omega arith) (each es row (omega arith)),
    )
  where
    at :
        (b : Bool) → cond b 1 0 + count_of es row ≤ 1 → AllByRecursion (λ x. x.row ≡ row → entry_of es row ≡ Some (part x)) es →
        AllByRecursion (λ x. x.row ≡ row → cond b (Some (part e)) (entry_of es row) ≡ Some (part x)) es
    at true h f = All-weaker _ _ (λ x n q. absurd (n q)) es (none_of es row (omega arith))
    at false h f = f

pub found : (es : List Entry) (row : ℕ) (s : Slot) → entry_of es row ≡ Some s → ContainsAt es (entry row s)
found [] row s z = absurd cc
found (e ∷ es) row s z = at (eqb e.row row) refl z (found es row s)
  where
    at :
        (b : Bool) → eqb e.row row ≡ b → cond b (Some (part e)) (entry_of es row) ≡ Some s →
        (entry_of es row ≡ Some s → ContainsAt es (entry row s)) → ContainsAt (e ∷ es) (entry row s)
    at true p z f =
        let q : part e ≡ s = cc in
        (0, omega arith, λ d. ap (λ r. entry r (part e)) (eqb-true e.row row p) ∙ ap (entry row) q)
    at false p z f = has_append_right (e ∷ []) es (entry row s) (f z)

-- One that is there is read at its row.
pub read : (es : List Entry) (x : Entry) → RowsOnce es → ContainsAt es x → entry_of es x.row ≡ Some (part x)
read es x once h =
    all-has (λ y. y.row ≡ x.row → entry_of es x.row ≡ Some (part y)) es x
    (each es x.row (most es x.row once)) h refl

-- What is read is at a row from 1 to 32.
pub read_inside :
    (es : List Entry) (row : ℕ) (s : Slot) → RowsOnce es → entry_of es row ≡ Some s → outside row ≡ false
read_inside es row s once e =
    elim (cases_eq (count_of es row) 0) [
      | inl z ↦ let n = absent es row z in cc
      | inr n ↦ counted (outside row) (omega (arith, once row))
    ]

-- What is read does not depend on the order.
pub same_entry : (es fs : List Entry) (row : ℕ) → IsPermutation es fs → RowsOnce fs → entry_of es row ≡ entry_of fs row
same_entry es fs row s once = at (entry_of es row) refl
  where
    at : (o : Option Slot) → entry_of es row ≡ o → entry_of es row ≡ entry_of fs row
    at None e = e ∙ sym (absent fs row (sum_by-IsPermutation _ es fs s ∙ unseen es row e))
    at (Some x) e = e ∙ sym (read fs (entry row x) once (has_shuffled es fs (entry row x) s (found es row x e)))

-- The order does not matter to the rows either.
pub once_shuffled : (es fs : List Entry) → IsPermutation es fs → RowsOnce es → RowsOnce fs
once_shuffled es fs s once row = subst (λ n. n ≤ cond (outside row) 0 1) (sym (sum_by-IsPermutation _ es fs s)) (once row)

pub inside : (row : ℕ) → outside row ≡ false → (1 ≤ row) × (row ≤ 32)
inside row h = grind (arith, nat_tests)

head_count : (e : Entry) (es : List Entry) → count_of (e ∷ es) e.row ≡ 1 + count_of es e.row
head_count e es =
    count_cons e es e.row ∙ ap (λ b. cond b 1 0 + count_of es e.row) (eq-eqb e.row e.row refl)

-- One that is there has a row from 1 to 32.
pub row_inside : (e : Entry) (es : List Entry) → RowsOnce (e ∷ es) → outside e.row ≡ false
row_inside e es once = counted (outside e.row) (omega (arith, head_count e es, once e.row))

pub tail_once : (e : Entry) (es : List Entry) → RowsOnce (e ∷ es) → RowsOnce es
tail_once e es once row = let c = count_cons e es row in let h = once row in omega arith

pub tail_none : (e : Entry) (es : List Entry) → RowsOnce (e ∷ es) → entry_of es e.row ≡ None
tail_none e es once = absent es e.row (omega (arith, head_count e es, most (e ∷ es) e.row once))

-- One more, of a row that had none.
pub more_once :
    (e : Entry) (es : List Entry) → RowsOnce es → outside e.row ≡ false → entry_of es e.row ≡ None →
    RowsOnce (e ∷ es)
more_once e es once low z row =
    elim (cases_eq e.row row) [
      | inl p ↦
          let c = head_count e es in
          let n = unseen es e.row z in
          let b = ap {B = ℕ} (λ b. cond b 0 1) low in
          let h : count_of (e ∷ es) e.row ≤ cond (outside e.row) 0 1 = omega (arith, b) in
          subst (λ r. count_of (e ∷ es) r ≤ cond (outside r) 0 1) p h
      | inr n ↦
          let b = ap {B = ℕ} (λ b. cond b 1 0) (ne_eqb e.row row n) in
          omega (arith, b, count_cons e es row, once row)
    ]
