-- What holds of each unfinished job, and of any two in one store, whatever the table: each step keeps it.
use Rattle.std.proofs.lemmas.Option.{none-some}
use Rattle.std.proofs.Common.{◌≡◌, ℕ, ◌<◌, ◌≤◌, true, false, ◌≢◌, ◌⊎◌, List, length, Some, sym, refl, ap, ◌∙◌, subst, inl, inr, arith}
use Rattle.feasibility.proofs.Stores.{least_bound}
use Rattle.feasibility.specs.Tables.{row_at, Sound}
use Rattle.feasibility.specs.declared.row.Row.{Row}
use Rattle.guarantee.proofs.Marks.{some_same, marked_le, marked_held, rest, after_some}
use Rattle.guarantee.proofs.Views.{
  Task,
  View,
  Tended,
  AllTended,
  Exclusive,
  Started,
  new_task,
  Released,
  Idled,
  Worked,
}
use Rattle.std.proofs.lemmas.Bool.{both_ways, cases_Bool, cases_eq}

-- what holds of a job goes on to hold as the clock rises
tended_later :
    (rows : List Row) (x : Row) (clock clock' next next' : ℕ) (b : Task) → clock ≤ clock' → next' ≡ next →
    Tended rows x clock next b → Tended rows x clock' next' b
tended_later rows x clock clock' next next' b le e k =
    record {
      lacks = k.lacks;
      part = k.part;
      ranked = k.ranked;
      again = k.again ∙ sym e;
      soon = omega (arith, k.soon);
      fresh = k.fresh;
      held = λ t stored. omega (arith, k.held t stored);
    }

pub started_tended : (rows : List Row) (v : View) → Started rows v → AllTended rows v
started_tended rows v r j b l e = absurd (none-some b (sym (r.task j l) ∙ e))

-- the job of the row that is requested is the new one
pub released_is :
    (rows : List Row) (i j : ℕ) (b : Task) (v v' : View) → Released rows i v v' → j ≡ i → v'.task j ≡ Some b →
    new_task (row_at rows i) v.clock ≡ b
released_is rows i j b v v' r p e = some_same (sym r.task ∙ ap v'.task (sym p) ∙ e)

-- a job just requested lacks its whole cost and is ranked by its due time
pub released_tended :
    (rows : List Row) (i : ℕ) (v v' : View) → Sound rows → Released rows i v v' → AllTended rows v → AllTended rows v'
released_tended rows i v v' sound r tended j b l e = at (cases_eq j i)
  where
    fresh : Tended rows (row_at rows i) v'.clock (v'.next i) (new_task (row_at rows i) v.clock)
    fresh =
        record {
          lacks = (sound i r.within).0;
          part = omega arith;
          ranked = omega arith;
          again = sym r.next;
          soon = omega (arith, r.clock);
          fresh = λ _. (refl, refl);
          held = λ t _. absurd (both_ways false refl t);
        }

    at : (j ≡ i) ⊎ (j ≡ i → ⊥) → Tended rows (row_at rows j) v'.clock (v'.next j) b
    at (inl p) =
        subst (λ k. Tended rows (row_at rows k) v'.clock (v'.next k) b) (sym p)
        (subst (λ y. Tended rows (row_at rows i) v'.clock (v'.next i) y) (released_is rows i j b v v' r p e) fresh)
    at (inr ne) =
        tended_later rows (row_at rows j) v.clock v'.clock (v.next j) (v'.next j) b (omega (arith, r.clock))
        (r.next_else j l ne) (tended j b l (sym (r.task_else j l ne) ∙ e))

pub idled_tended : (rows : List Row) (v v' : View) → Idled rows v v' → AllTended rows v'
idled_tended rows v v' r j b l e = absurd (none-some b (sym (r.task j l ∙ r.none j l) ∙ e))

-- the job of the row that gets a tick is what is left of it, if anything is
pub worked_is :
    (rows : List Row) (i j : ℕ) (b a : Task) (v v' : View) → Worked rows i b v v' → j ≡ i → v'.task j ≡ Some a →
    (1 < b.left) × (rest rows (row_at rows i) v.clock b ≡ a)
worked_is rows i j b a v v' w p e =
    after_some rows (row_at rows i) v.clock b a (sym w.task ∙ ap v'.task (sym p) ∙ e)

-- a tick takes a unit from what the job lacks and marks it as begun
pub worked_tended :
    (rows : List Row) (i : ℕ) (b : Task) (v v' : View) → Worked rows i b v v' → AllTended rows v → AllTended rows v'
worked_tended rows i b v v' w tended j a l e = at (cases_eq j i)
  where
    x : Row
    x = row_at rows i

    mine : Tended rows x v.clock (v.next i) b
    mine = tended i b w.within w.has

    still : 1 < b.left → Tended rows x v'.clock (v'.next i) (rest rows x v.clock b)
    still more =
        record {
          lacks = omega arith;
          part = omega (arith, mine.part);
          ranked = omega (arith, mine.ranked, marked_le rows x v.clock b);
          again = mine.again ∙ sym (w.next i w.within);
          soon = omega (arith, mine.soon, w.clock);
          fresh = λ f. absurd (both_ways true f refl);
          held = λ _ stored. omega (arith, w.clock, marked_held rows x v.clock b stored (λ t. mine.held t stored));
        }

    at : (j ≡ i) ⊎ (j ≡ i → ⊥) → Tended rows (row_at rows j) v'.clock (v'.next j) a
    at (inl p) =
        let over = worked_is rows i j b a v v' w p e in
        subst (λ k. Tended rows (row_at rows k) v'.clock (v'.next k) a) (sym p)
        (subst (λ y. Tended rows x v'.clock (v'.next i) y) over.1 (still over.0))
    at (inr ne) =
        tended_later rows (row_at rows j) v.clock v'.clock (v.next j) (v'.next j) a (omega (arith, w.clock))
        (w.next j l) (tended j a l (sym (w.task_else j l ne) ∙ e))

pub started_exclusive : (rows : List Row) (v : View) → Started rows v → Exclusive rows v
started_exclusive rows v r i j a b li lj ne stored same ea eb t = absurd (none-some a (sym (r.task i li) ∙ ea))

pub idled_exclusive : (rows : List Row) (v v' : View) → Idled rows v v' → Exclusive rows v'
idled_exclusive rows v v' r i j a b li lj ne stored same ea eb t =
    absurd (none-some a (sym (r.task i li ∙ r.none i li) ∙ ea))

-- a job just requested is ranked by its period, so not above one that has begun in its store
pub released_exclusive :
    (rows : List Row) (k : ℕ) (v v' : View) → Sound rows → AllTended rows v → Released rows k v v' → Exclusive rows v →
    Exclusive rows v'
released_exclusive rows k v v' sound tended r ex i j a b li lj ne stored same ea eb t =
    at (cases_eq i k) (cases_eq j k)
  where
    at : (i ≡ k) ⊎ (i ≡ k → ⊥) → (j ≡ k) ⊎ (j ≡ k → ⊥) → (b.begun ≡ false) × (a.deadline ≤ b.deadline)
    at (inl p) _ =
        absurd (both_ways a.begun (sym (ap (λ y. y.begun) (released_is rows k i a v v' r p ea))) t)
    at (inr p) (inl q) =
        let is = released_is rows k j b v v' r q eb in (
          sym (ap (λ y. y.begun) is),
          omega (
            arith,
            (tended i a li (sym (r.task_else i li p) ∙ ea)).held t stored,
            (least_bound rows (row_at rows i).store sound j lj (sym same)).1,
            ap (λ y. y.deadline) is,
            ap (λ m. (row_at rows m).period) q,
          ),
        )
    at (inr p) (inr q) =
        ex i j a b li lj ne stored same (sym (r.task_else i li p) ∙ ea) (sym (r.task_else j lj q) ∙ eb) t

-- where a job gets a tick, no other in its store has begun
pub others_fresh :
    (rows : List Row) (k : ℕ) (c : Task) (v v' : View) → Worked rows k c v v' → Exclusive rows v →
    (i : ℕ) (a : Task) → i < length rows → i ≢ k → (row_at rows i).store ≢ 0 →
    (row_at rows i).store ≡ (row_at rows k).store → v.task i ≡ Some a → a.begun ≡ false
others_fresh rows k c v v' w ex i a li ne stored same e = at (cases_Bool a.begun)
  where
    at : (a.begun ≡ true) ⊎ (a.begun ≡ false) → a.begun ≡ false
    at (inr f) = f
    at (inl t) =
        let both = ex i k a c li w.within ne stored same e w.has t in
        absurd
        (both_ways c.begun both.0 (w.ties i a li e (omega (arith, both.1, w.first i a li e)) t))

-- a job that begins is alone in its store, and goes on to be ranked first in it
pub worked_exclusive :
    (rows : List Row) (k : ℕ) (c : Task) (v v' : View) → Worked rows k c v v' → Exclusive rows v → Exclusive rows v'
worked_exclusive rows k c v v' w ex i j a b li lj ne stored same ea eb t = at (cases_eq i k) (cases_eq j k)
  where
    at : (i ≡ k) ⊎ (i ≡ k → ⊥) → (j ≡ k) ⊎ (j ≡ k → ⊥) → (b.begun ≡ false) × (a.deadline ≤ b.deadline)
    at (inl p) (inl q) = absurd (ne (p ∙ sym q))
    -- the tick went to i: no other job in its store has begun, and none is ranked above it
    at (inl p) (inr q) =
        let was : v.task j ≡ Some b = sym (w.task_else j lj q) ∙ eb in
        let is = (worked_is rows k i c a v v' w p ea).1 in (
          others_fresh rows k c v v' w ex j b lj q (λ z. stored (same ∙ z))
              (sym same ∙ ap (λ m. (row_at rows m).store) p) was,
          omega
              (arith, w.first j b lj was, ap (λ y. y.deadline) is, marked_le rows (row_at rows k) v.clock c),
        )
    -- the tick went to j, so no other job in its store has begun
    at (inr p) (inl q) =
        let was : v.task i ≡ Some a = sym (w.task_else i li p) ∙ ea in
        let no = others_fresh rows k c v v' w ex i a li p stored (same ∙ ap (λ m. (row_at rows m).store) q) was in
        absurd (both_ways a.begun no t)
    at (inr p) (inr q) =
        ex i j a b li lj ne stored same (sym (w.task_else i li p) ∙ ea) (sym (w.task_else j lj q) ∙ eb) t
