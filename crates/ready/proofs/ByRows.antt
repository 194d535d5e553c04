-- Entries by row: what one more and one less makes of them, and that their order does not matter.
use Rattle.std.proofs.Common.{◌≡◌, ℕ, zero, suc, ◌+◌, ◌-◌, ◌<◌, ◌≤◌, false, cond, eqb, List, [], ◌∷◌, length, get_or, set, is_some, Some, None, sym, refl, ap, ◌∙◌, inl, inr, arith}
use Rattle.ready.proofs.RowReads.{part, inside, row_inside, tail_once, tail_none, same_entry}
use Rattle.ready.specs.ByRow.{RowsOnce, entry_of, by_row, length_by_row}
use Rattle.ready.specs.Entries.{Entries, has, filled, outside}
use Rattle.ready.specs.declared.entry.Entry.{Entry}
use Rattle.ready.specs.declared.entry.Slot.{Slot}
use Rattle.std.proofs.lemmas.List.FromFn.{get_or-map-range_with_len}
use Rattle.std.proofs.lemmas.List.{ext_get_or, length-set, get_or-set_same, get_or-set_other, set-set, set-get_or}
use Rattle.std.proofs.lemmas.Bool.{cases_eq, cond-true, cond-false, eq-eqb, ne_eqb}
use Rattle.std.specs.List.Sorted.{IsPermutation}

-- The entries by row, a row at a time.
row_is : (es : List Entry) (k : ℕ) → k < 32 → get_or (by_row es) k None ≡ entry_of es (k + 1)
unfolding by_row
row_is es k h = get_or-map-range_with_len (λ j. entry_of es (j + 1)) 0 32 k k None h (omega arith)

same_rows :
    (m : Entries) (es : List Entry) → length m ≡ 32 → ((k : ℕ) → k < 32 → get_or m k None ≡ entry_of es (k + 1)) →
    m ≡ by_row es
same_rows m es l f =
    ext_get_or None m (by_row es) (l ∙ sym (length_by_row es)) (λ k h. f k (omega arith) ∙ sym (row_is es k (omega arith)))

pub by_row_shuffled : (es fs : List Entry) → IsPermutation es fs → RowsOnce fs → by_row es ≡ by_row fs
by_row_shuffled es fs s once =
    same_rows (by_row es) fs (length_by_row es) (λ k h. row_is es k h ∙ same_entry es fs (k + 1) s once)

-- One more.
pub by_row_more :
    (e : Entry) (es : List Entry) → RowsOnce (e ∷ es) →
    set (by_row es) (e.row - 1) (Some (part e)) ≡ by_row (e ∷ es)
by_row_more e es once = same_rows _ (e ∷ es) (length-set (by_row es) (e.row - 1) (Some (part e)) ∙ length_by_row es) at
  where
    at :
        (k : ℕ) → k < 32 →
        get_or (set (by_row es) (e.row - 1) (Some (part e))) k None ≡
        cond (eqb e.row (k + 1)) (Some (part e)) (entry_of es (k + 1))
    at k h =
        let low = inside e.row (row_inside e es once) in
        let l = length_by_row es in
        elim (cases_eq k (e.row - 1)) [
          | inl p ↦
              ap (λ j. get_or (set (by_row es) (e.row - 1) (Some (part e))) j None) p ∙
              get_or-set_same (by_row es) (e.row - 1) (Some (part e)) None (omega arith) ∙
              sym (cond-true (eqb e.row (k + 1)) _ _ (eq-eqb e.row (k + 1) (omega arith)))
          | inr n ↦
              get_or-set_other (by_row es) (e.row - 1) k (Some (part e)) None n ∙ row_is es k h ∙
              sym (cond-false (eqb e.row (k + 1)) _ _ (ne_eqb e.row (k + 1) (omega arith)))
        ]

pub row_of : (es : List Entry) (row : ℕ) → outside row ≡ false → get_or (by_row es) (row - 1) None ≡ entry_of es row
row_of es row h =
    let low = inside row h in
    let e : row - 1 + 1 ≡ row = omega arith in row_is es (row - 1) (omega arith) ∙ ap (entry_of es) e

-- One less.
pub by_row_less :
    (e : Entry) (es : List Entry) → RowsOnce (e ∷ es) → by_row es ≡ set (by_row (e ∷ es)) (e.row - 1) None
by_row_less e es once =
    sym
    (ap (λ m. set m (e.row - 1) None) (sym (by_row_more e es once)) ∙
    set-set (by_row es) (e.row - 1) (Some (part e)) None ∙
    ap (set (by_row es) (e.row - 1)) (sym (row_of es e.row (row_inside e es once) ∙ tail_none e es once)) ∙
    set-get_or (by_row es) (e.row - 1) None)

filled_set :
    (m : Entries) (i : ℕ) (x : Slot) → i < length m → get_or m i None ≡ None → filled (set m i (Some x)) ≡ filled m + 1
filled_set [] i x h z = absurd (omega arith)
filled_set (None ∷ m) zero x h z = refl
filled_set (Some y ∷ m) zero x h z = absurd cc
filled_set (None ∷ m) (suc i) x h z = filled_set m i x (omega arith) z
filled_set (Some y ∷ m) (suc i) x h z = ap (λ n. n + 1) (filled_set m i x (omega arith) z)

filled_none : filled (by_row []) ≡ 0
unfolding by_row
filled_none = refl

-- There are as many by row as there are.
pub filled_by_row : (es : List Entry) → RowsOnce es → filled (by_row es) ≡ length es
filled_by_row [] once = filled_none
filled_by_row (e ∷ es) once =
    let low = inside e.row (row_inside e es once) in
    let l = length_by_row es in
    let more =
    filled_set (by_row es) (e.row - 1) (part e) (omega arith)
    (row_of es e.row (row_inside e es once) ∙ tail_none e es once) in
    omega
    (arith, ap filled (by_row_more e es once), more, filled_by_row es (tail_once e es once))

pub filled_most : (m : Entries) → filled m ≤ length m
filled_most [] = omega arith
filled_most (None ∷ m) = omega (arith, filled_most m)
filled_most (Some x ∷ m) = omega (arith, filled_most m)

-- Whether a row has an entry.
pub has_is : (es : List Entry) (row : ℕ) → outside row ≡ false → has (by_row es) row ≡ is_some (entry_of es row)
has_is es row h = ap is_some (row_of es row h)
