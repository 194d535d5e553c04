-- Entries in the cells of a list: which cell has a row's, and what a queue does to them.
use Rattle.std.proofs.Common.{◌≡◌, ℕ, zero, suc, ◌+◌, ◌-◌, ◌<◌, ◌≤◌, Bool, true, false, not, ◌&&◌, cond, eqb, List, [], ◌∷◌, length, get_or, set, position, is_some, is_ok, Some, None, Ok, Err, Option, Result, sym, refl, ap, ◌∙◌, inl, inr, arith}
use Rattle.queue.specs.Contents.{lent, contents, capacity, has_room, Added, Taken, Adds, Takes}
use Rattle.queue.specs.Heaps.{IsAt}
use Rattle.queue.specs.declared.full.Full.{Full}
use Rattle.queue.specs.declared.queue.Queue.{Queue}
use Rattle.ready.proofs.ByRows.{by_row_less, by_row_more, by_row_shuffled, filled_by_row, filled_most, has_is}
use Rattle.ready.proofs.RowReads.{more_once, once_shuffled, tail_once}
use Rattle.ready.specs.ByRow.{RowsOnce, entry_of, by_row, length_by_row, found_cell, capacity_of}
use Rattle.ready.specs.Entries.{Entries, slot, has, filled, outside, found_answer, after}
use Rattle.ready.specs.declared.entry.Entry.{Entry}
use Rattle.ready.specs.declared.entry.Slot.{Slot}
use Rattle.ready.specs.declared.refusal.ListRefusal.TheVariants.{RowOutside, NoEntry}
use Rattle.ready.specs.declared.refusal.ListRefusal.{ListRefusal}
use Rattle.std.proofs.lemmas.Bool.Decides.{nat_tests}
use Rattle.std.proofs.lemmas.Bool.{cases_lt, lt-ltb, eqb-true}
use Rattle.std.proofs.lemmas.Iterator.Adapters.{position_from-zero}
use Rattle.std.proofs.lemmas.List.Quantifiers.{position-Some}
use Rattle.std.proofs.lemmas.List.{length-take, set-set}
use Rattle.std.proofs.lemmas.Option.{get_or_from_slice_get}
use Rattle.std.specs.List.{position_from}
use Rattle.std.specs.Option.{ok_or}
use Rattle.std.specs.Result.{MatchResult}

free : (es : List Entry) (row : ℕ) → outside row ≡ false → has (by_row es) row ≡ false → entry_of es row ≡ None
free es row low z = at (entry_of es row) (sym (has_is es row low) ∙ z)
  where
    at : (o : Option Slot) → is_some o ≡ false → o ≡ None
    at None z = refl
    at (Some x) z = cc

-- Entries of different rows are at most 32, and at most as many as the cells.
few : (q : Queue Entry) → RowsOnce (contents q) → (length (contents q) ≤ 32) × (length (contents q) ≤ capacity q)
few q once =
    let es = contents q in
    let n = filled_by_row es once in
    let l = length_by_row es in
    (omega (arith, filled_most (by_row es)), omega (arith, length-take q.used (lent q)))

below : (k n : ℕ) → k ≤ 32 → k ≤ n → (k ≡ capacity_of n → ⊥) → k < n
below k n h l f = elim (cases_lt k n) [ inl p ↦ p | inr p ↦ absurd (f (grind (arith, nat_tests))) ]

at_most : (k n : ℕ) → k ≤ 32 → k ≤ n → k ≤ capacity_of n
at_most k n h l = grind (arith, nat_tests)

-- An entry of a row that has none is added where the list is not full.
module _ (q q' : Queue Entry) (e : Entry) (r : Result (Unit {0}) Full) (once : RowsOnce (contents q))
    (low : outside e.row ≡ false) (none : has (by_row (contents q)) e.row ≡ false)
    (room : filled (by_row (contents q)) ≡ capacity_of (capacity q) → ⊥) (answer : is_ok r ≡ has_room q)
    (adds : Adds e r q q') where
  room_there : has_room q ≡ true
  room_there =
      let f = few q once in
      let n = filled_by_row (contents q) once in
      lt-ltb (length (contents q)) (capacity q)
      (below (length (contents q)) (capacity q) f.0 f.1 (λ e. room (n ∙ e)))

  added : Added e q q'
  added = at r answer adds
    where
      at : (r : Result (Unit {0}) Full) → is_ok r ≡ has_room q → Adds e r q q' → Added e q q'
      at (Ok u) a f = f
      at (Err x) a f = absurd (cc room_there)

  one_more : RowsOnce (e ∷ contents q)
  one_more = more_once e (contents q) once low (free (contents q) e.row low none)

  pub added_once : RowsOnce (contents q')
  added_once = once_shuffled (e ∷ contents q) (contents q') added.more one_more

  pub added_rows :
      by_row (contents q') ≡ set (by_row (contents q)) (e.row - 1) (Some (slot e.deadline e.begun))
  added_rows =
      sym
      (by_row_more e (contents q) one_more ∙
      by_row_shuffled (e ∷ contents q) (contents q') added.more added_once)

pub ruleset additions = (added_once, added_rows)

-- A place that is emptied has nothing, and there is one less.
emptied : (m : Entries) (i : ℕ) → is_some (get_or (set m i None) i None) ≡ false
emptied [] i = refl
emptied (x ∷ m) zero = refl
emptied (x ∷ m) (suc i) = emptied m i

filled_less : (m : Entries) (i : ℕ) → is_some (get_or m i None) ≡ true → filled (set m i None) + 1 ≡ filled m
filled_less [] i h = absurd cc
filled_less (None ∷ m) zero h = absurd cc
filled_less (Some x ∷ m) zero h = refl
filled_less (None ∷ m) (suc i) h = filled_less m i h
filled_less (Some x ∷ m) (suc i) h = ap (λ n. n + 1) (filled_less m i h)

-- Whether a row is found says whether it has an entry.
found_from :
    (es : List Entry) (row i : ℕ) → is_some (position_from (λ e. eqb e.row row) i es) ≡ is_some (entry_of es row)
found_from [] row i = refl
found_from (e ∷ es) row i = at (eqb e.row row) (found_from es row (i + 1))
  where
    at :
        (b : Bool) → is_some (position_from (λ e. eqb e.row row) (i + 1) es) ≡ is_some (entry_of es row) →
        is_some (cond b (Some i) (position_from (λ e. eqb e.row row) (i + 1) es)) ≡
        is_some (cond b (Some (slot e.deadline e.begun)) (entry_of es row))
    at true h = refl
    at false h = h

module _ (es : List Entry) (row : ℕ) where
  abbrev first_cell : Option ℕ
  first_cell = position (λ e. eqb e.row row) es

  has_found : outside row ≡ false → has (by_row es) row ≡ is_some first_cell
  has_found low =
      has_is es row low ∙ sym (ap is_some (position_from-zero (λ e. eqb e.row row) es) ∙ found_from es row 0)

  answer_by :
      (b : Bool) (o : Option ℕ) (h : Bool) → (b ≡ false → h ≡ is_some o) →
      MatchResult (cond b (Err RowOutside) (ok_or o NoEntry))
      (λ cell. (b ≡ false) × (o ≡ Some cell) × (h ≡ true))
      (λ e. ◌≡◌ {A = Result (Unit {0}) ListRefusal} (cond b (Err RowOutside) (cond h (Ok tt) (Err NoEntry))) (Err e))
  answer_by true o h f = refl
  answer_by false None h f = rw (f refl) refl
  answer_by false (Some k) h f = (refl, refl, f refl)

  told_by :
      (told : Result ℕ ListRefusal) → told ≡ found_cell es row →
      MatchResult told (λ cell. (outside row ≡ false) × (first_cell ≡ Some cell) × (has (by_row es) row ≡ true))
      (λ e. found_answer (by_row es) row ≡ Err e)
  told_by told t = rw t (answer_by (outside row) first_cell (has (by_row es) row) has_found)

  pub has_told :
      (told : Result ℕ ListRefusal) → told ≡ found_cell es row →
      is_ok told ≡ not (outside row) && has (by_row es) row
  has_told told t = rw t (at (outside row) first_cell (has (by_row es) row) has_found)
    where
      at :
          (b : Bool) (o : Option ℕ) (h : Bool) → (b ≡ false → h ≡ is_some o) →
          is_ok (cond b (Err RowOutside) (ok_or o NoEntry)) ≡ not b && h
      at true o h f = refl
      at false None h f = sym (f refl)
      at false (Some k) h f = sym (f refl)

  pub refused_told :
      (told : Result ℕ ListRefusal) (e : ListRefusal) → told ≡ Err e → told ≡ found_cell es row →
      found_answer (by_row es) row ≡ Err e
  refused_told told e w t = rw w at (told_by told t)

  module _ (told : Result ℕ ListRefusal) (cell : ℕ) (w : told ≡ Ok cell) (t : told ≡ found_cell es row) where
    known : (outside row ≡ false) × (first_cell ≡ Some cell) × (has (by_row es) row ≡ true)
    known = rw w at (told_by told t)

    pub granted_told : ◌≡◌ {A = Result (Unit {0}) ListRefusal} (Ok tt) (found_answer (by_row es) row)
    granted_told = let k = known in rw (k.0, k.2) refl

-- What stands in the cell that was found is taken out.
module _ (q q' : Queue Entry) (row : ℕ) (told : Result ℕ ListRefusal) (cell : ℕ) (w : told ≡ Ok cell)
    (t : told ≡ found_cell (contents q) row) (once : RowsOnce (contents q)) (r : Option Entry)
    (at : IsAt (contents q) cell r) (takes : Takes r q q') where
  there : (x : Entry) × (x.row ≡ row) × Taken x q q'
  there = by r at takes
    where
      by : (r : Option Entry) → IsAt (contents q) cell r → Takes r q q' → (x : Entry) × (x.row ≡ row) × Taken x q q'
      by None a f =
          let k = known (contents q) row told cell w t in
          absurd
          (omega
          (arith, a, (position-Some (λ e. eqb e.row row) (contents q) cell (record { row = 0; deadline = 0; begun = false }) k.1).0))
      by (Some x) a f =
          let k = known (contents q) row told cell w t in
          let p = position-Some (λ e. eqb e.row row) (contents q) cell x k.1 in
          (x, eqb-true x.row row (rw (get_or_from_slice_get (contents q) cell x x a) at p.1), f)

  once_with : RowsOnce (there.0 ∷ contents q')
  once_with = once_shuffled (contents q) (there.0 ∷ contents q') there.2.less once

  pub taken_once : RowsOnce (contents q')
  taken_once = tail_once there.0 (contents q') once_with

  pub taken_rows : by_row (contents q') ≡ set (by_row (contents q)) (row - 1) None
  taken_rows =
      by_row_less there.0 (contents q') once_with ∙
      ap (λ m. set m (there.0.row - 1) None) (sym (by_row_shuffled (contents q) (there.0 ∷ contents q') there.2.less once_with)) ∙
      ap (λ row. set (by_row (contents q)) (row - 1) None) there.1

pub ruleset removals = (refused_told, granted_told, taken_once, taken_rows)

-- Where an entry was taken out there is room, and what is put in its place is all that changes.
module _ (q mid : Queue Entry) (row : ℕ) (told : Result (Unit {0}) ListRefusal) (u : Unit {0}) (w : told ≡ Ok u)
    (answer : told ≡ found_answer (by_row (contents q)) row)
    (out : by_row (contents mid) ≡ after told (by_row (contents q)) row None) where
  granted : (outside row ≡ false) × (has (by_row (contents q)) row ≡ true)
  granted = by (outside row) (has (by_row (contents q)) row) (sym answer ∙ w)
    where
      by :
          (b h : Bool) → ◌≡◌ {A = Result (Unit {0}) ListRefusal} (cond b (Err RowOutside) (cond h (Ok tt) (Err NoEntry))) (Ok u) →
          (b ≡ false) × (h ≡ true)
      by true h e = absurd cc
      by false true e = (refl, refl)
      by false false e = absurd cc

  taken_out : by_row (contents mid) ≡ set (by_row (contents q)) (row - 1) None
  taken_out = rw w at out

  pub vacated : has (by_row (contents mid)) row ≡ false
  vacated = ap (λ m. has m row) taken_out ∙ emptied (by_row (contents q)) (row - 1)

  pub room_again :
      RowsOnce (contents q) → capacity_of (capacity mid) ≡ capacity_of (capacity q) →
      filled (by_row (contents mid)) ≡ capacity_of (capacity mid) → ⊥
  room_again once same e =
      let f = few q once in
      let h : length (contents q) ≤ capacity_of (capacity q) = at_most (length (contents q)) (capacity q) f.0 f.1 in
      let l = length_by_row (contents q) in
      let less = filled_less (by_row (contents q)) (row - 1) granted.1 in
      omega (arith, filled_by_row (contents q) once, less, ap filled taken_out)

  pub replaced :
      (m : Entries) (x : Slot) → m ≡ set (by_row (contents mid)) (row - 1) (Some x) →
      m ≡ set (by_row (contents q)) (row - 1) (Some x)
  replaced m x e =
      e ∙ ap (λ l. set l (row - 1) (Some x)) taken_out ∙ set-set (by_row (contents q)) (row - 1) None (Some x)

pub ruleset replacements = (vacated, room_again, replaced)
