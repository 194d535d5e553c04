-- What a history says of the view: each step keeps it.
use Rattle.std.proofs.lemmas.Option.{none-some}
use Rattle.std.proofs.Common.{◌≡◌, ℕ, ◌+◌, ◌<◌, ◌≤◌, true, false, ◌≢◌, ◌⊎◌, List, length, Some, None, sym, refl, ap, ◌∙◌, subst, ap₂, inl, inr, le_trans, arith}
use Rattle.feasibility.proofs.Counting.{job, some_unit, units_later}
use Rattle.feasibility.proofs.Demands.{positive}
use Rattle.feasibility.specs.Schedules.{Job, due, units, Requested, Finished, Unfinished}
use Rattle.feasibility.specs.Tables.{row_at, Sound}
use Rattle.feasibility.specs.declared.row.Row.{Row}
use Rattle.guarantee.proofs.HistorySteps.{
  asked_cases,
  asked_more,
  asked_now,
  last_now,
  last_else,
  last_later,
  given_now,
  given_old,
  units_old,
  units_now,
  units_else,
}
use Rattle.guarantee.proofs.Marks.{some_same, after_none}
use Rattle.guarantee.proofs.Tendings.{released_is, worked_is}
use Rattle.guarantee.proofs.Views.{Task, View, AllTended, Linked, Started, new_task, Released, Idled, Worked}
use Rattle.guarantee.specs.Histories.{History, unwritten, last_job, asked, idled, worked}
use Rattle.std.proofs.lemmas.Bool.{both_ways, cases_eq, cases_lt}

-- a job that was not requested has had nothing
pub unserved :
    (rows : List Row) (h : History) (v : View) → Linked rows h v → (b : Job) (t : ℕ) →
    (Requested rows h.asks b → ⊥) → units h.plan b t ≡ 0
unserved rows h v link b t no_request = at (cases_lt 0 (units h.plan b t))
  where
    at : (0 < units h.plan b t) ⊎ (units h.plan b t ≤ 0) → units h.plan b t ≡ 0
    at (inl more) = let x = some_unit h.plan b t more in absurd (no_request (link.served x.0 b x.2).1)
    at (inr none) = omega arith

-- no request is later than the clock, so the last ones stay as a tick ends
pub last_stays :
    (rows : List Row) (h : History) (v : View) → Linked rows h v → (j : ℕ) → (last_job (idled h) j).at ≡ (last_job h j).at
last_stays rows h v link j = last_later h.asks j h.clock none
  where
    none : h.asks j (h.clock + 1) ≡ true → ⊥
    none e = omega (arith, (link.past j (h.clock + 1) e).1)

-- The task b is the job of row j requested at a.
abbrev IsJob : List Row → History → ℕ → Task → ℕ → Type 0
IsJob rows h j b a =
    (h.asks j a ≡ true) × (b.due_at ≡ due rows (job j a)) ×
    (units h.plan (job j a) h.clock + b.left ≡ (row_at rows j).cost)

pub started_linked : (rows : List Row) (v : View) → Started rows v → Linked rows unwritten v
started_linked rows v r =
    record {
      clock = r.clock;
      past = λ j a e. absurd (both_ways false refl e);
      current = λ j b l e. absurd (none-some b (sym (r.task j l) ∙ e));
      done = λ b e _. absurd (both_ways false refl e.1);
      served = λ t b e. absurd (none-some b e);
    }

-- the job just requested is the last of its row and has had nothing; the one before it was finished
pub released_linked :
    (rows : List Row) (i : ℕ) (h : History) (v v' : View) → Sound rows → Released rows i v v' → Linked rows h v →
    Linked rows (asked i h) v'
released_linked rows i h v v' sound r link =
    record { clock = r.clock ∙ link.clock; past = past; current = current; done = done; served = served }
  where
    n : ℕ
    n = length rows

    h' : History
    h' = asked i h

    past : (j a : ℕ) → h'.asks j a ≡ true → (j < n) × (a ≤ h.clock) × (a + (row_at rows j).period ≤ v'.next j)
    past j a e = at (asked_cases i h j a e) (cases_eq j i)
      where
        at :
            ((j ≡ i) × (a ≡ h.clock)) ⊎ (h.asks j a ≡ true) → (j ≡ i) ⊎ (j ≡ i → ⊥) →
            (j < n) × (a ≤ h.clock) × (a + (row_at rows j).period ≤ v'.next j)
        at (inl x) _ =
            omega (
              arith,
              r.within,
              x.0,
              x.1,
              link.clock,
              r.next,
              ap v'.next x.0,
              ap (λ k. (row_at rows k).period) x.0,
            )
        at (inr old) (inl p) =
            omega (arith, link.past j a old, r.lawful, r.next, ap v'.next p, ap v.next p)
        at (inr old) (inr ne) =
            let was = link.past j a old in omega (arith, was, r.next_else j was.0 ne)

    unasked : Requested rows h.asks (job i h.clock) → ⊥
    unasked e =
        omega
        (arith, link.past i h.clock e.1, r.lawful, link.clock, positive rows sound i r.within)

    current : (j : ℕ) (b : Task) → j < n → v'.task j ≡ Some b → IsJob rows h' j b (last_job h' j).at
    current j b l e = at (cases_eq j i)
      where
        at : (j ≡ i) ⊎ (j ≡ i → ⊥) → IsJob rows h' j b (last_job h' j).at
        at (inl p) =
            let is = released_is rows i j b v v' r p e in
            subst (λ k. IsJob rows h' k b (last_job h' k).at) (sym p)
            (subst (IsJob rows h' i b) (sym (last_now i h)) (
              asked_now i h,
              omega (arith, ap (λ y. y.due_at) is, link.clock),
              omega (arith, ap (λ y. y.left) is, unserved rows h v link (job i h.clock) h.clock unasked),
            ))
        at (inr ne) =
            let was = link.current j b l (sym (r.task_else j l ne) ∙ e) in
            subst (IsJob rows h' j b) (sym (last_else i h j ne))
            (asked_more i h j (last_job h j).at was.0, was.1, was.2)

    done :
        (b : Job) → Requested rows h'.asks b → (v'.task b.of ≡ None) ⊎ (b.at ≢ (last_job h' b.of).at) →
        Finished rows h.plan b h.clock
    done b e f = at (asked_cases i h b.of b.at e.1) (cases_eq b.of i) f
      where
        at :
            ((b.of ≡ i) × (b.at ≡ h.clock)) ⊎ (h.asks b.of b.at ≡ true) →
            (b.of ≡ i) ⊎ (b.of ≡ i → ⊥) → (v'.task b.of ≡ None) ⊎ (b.at ≢ (last_job h' b.of).at) →
            Finished rows h.plan b h.clock
        at (inl x) _ (inl none) =
            absurd
            (none-some (new_task (row_at rows i) v.clock) (sym none ∙ ap v'.task x.0 ∙ r.task))
        at (inl x) _ (inr other) =
            absurd (other (x.1 ∙ sym (last_now i h) ∙ ap (λ k. (last_job h' k).at) (sym x.0)))
        at (inr old) (inl p) _ = link.done b (e.0, old) (inl (ap v.task p ∙ r.free))
        at (inr old) (inr ne) (inl none) =
            link.done b (e.0, old) (inl (sym (r.task_else b.of e.0 ne) ∙ none))
        at (inr old) (inr ne) (inr other) =
            link.done b (e.0, old) (inr (λ z. other (z ∙ sym (last_else i h b.of ne))))

    served :
        (t : ℕ) (b : Job) → h.plan t ≡ Some b →
        (t < h.clock) × Requested rows h'.asks b × (b.at ≤ t) × Unfinished rows h.plan b t
    served t b e =
        let was = link.served t b e in
        (was.0, (was.1.0, asked_more i h b.of b.at was.1.1), was.2, was.3)

-- a tick given to none changes no units
pub idled_linked :
    (rows : List Row) (h : History) (v v' : View) → Idled rows v v' → Linked rows h v → Linked rows (idled h) v'
idled_linked rows h v v' r link =
    record {
      clock = omega (arith, r.clock, link.clock);
      past = λ j a e. let was = link.past j a e in omega (arith, was, r.next j was.0);
      current = λ j b l e. absurd (none-some b (sym (r.task j l ∙ r.none j l) ∙ e));
      done =
          λ b e _. le_trans (link.done b e (inl (r.none b.of e.0)))
          (units_later h.plan b h.clock (h.clock + 1) (omega arith));
      served = λ t b e. let was = link.served t b e in (omega (arith, was.0), was.1, was.2, was.3);
    }

-- the tick is a unit for the last job of the row, which lacks one less
pub worked_linked :
    (rows : List Row) (i : ℕ) (b : Task) (h : History) (v v' : View) → AllTended rows v → Worked rows i b v v' →
    Linked rows h v → Linked rows (worked i h) v'
worked_linked rows i b h v v' tended w link =
    record {
      clock = omega (arith, w.clock, link.clock);
      past = λ j a e. let was = link.past j a e in omega (arith, was, w.next j was.0);
      current = current;
      done = done;
      served = served;
    }
  where
    n : ℕ
    n = length rows

    h' : History
    h' = worked i h

    mine : IsJob rows h i b (last_job h i).at
    mine = link.current i b w.within w.has

    current : (j : ℕ) (c : Task) → j < n → v'.task j ≡ Some c → IsJob rows h' j c (last_job h' j).at
    current j c l e = subst (IsJob rows h' j c) (sym (last_stays rows h v link j)) (at (cases_eq j i))
      where
        at : (j ≡ i) ⊎ (j ≡ i → ⊥) → IsJob rows h' j c (last_job h j).at
        at (inl p) =
            let over = worked_is rows i j b c v v' w p e in
            subst (λ k. IsJob rows h' k c (last_job h k).at) (sym p) (
              mine.0,
              omega (arith, mine.1, ap (λ y. y.due_at) over.1),
              omega (arith, mine.2, units_now i h, over.0, ap (λ y. y.left) over.1),
            )
        at (inr ne) =
            let was = link.current j c l (sym (w.task_else j l ne) ∙ e) in
            (was.0, was.1, omega (arith, was.2, units_else i h (last_job h j) (λ z. ne (sym (ap (λ y. y.of) z)))))

    done :
        (c : Job) → Requested rows h.asks c → (v'.task c.of ≡ None) ⊎ (c.at ≢ (last_job h' c.of).at) →
        Finished rows h'.plan c (h.clock + 1)
    done c e f = at (cases_eq c.of i) (cases_eq c.at (last_job h c.of).at) f
      where
        -- what was finished stays so
        still : (v.task c.of ≡ None) ⊎ (c.at ≢ (last_job h c.of).at) → Finished rows h'.plan c (h.clock + 1)
        still g =
            omega (
              arith,
              link.done c e g,
              units_old i h c h.clock (omega arith),
              units_later h'.plan c h.clock (h.clock + 1) (omega arith),
            )

        at :
            (c.of ≡ i) ⊎ (c.of ≡ i → ⊥) →
            (c.at ≡ (last_job h c.of).at) ⊎ (c.at ≡ (last_job h c.of).at → ⊥) →
            (v'.task c.of ≡ None) ⊎ (c.at ≢ (last_job h' c.of).at) → Finished rows h'.plan c (h.clock + 1)
        at _ (inr q) _ = still (inr q)
        at _ (inl q) (inr other) = absurd (other (q ∙ sym (last_stays rows h v link c.of)))
        at (inr ne) (inl q) (inl none) = still (inl (sym (w.task_else c.of e.0 ne) ∙ none))
        at (inl p) (inl q) (inl none) =
            let one = after_none rows (row_at rows i) v.clock b (sym w.task ∙ ap v'.task (sym p) ∙ none) in
            let is : last_job h i ≡ c = sym (ap₂ job p (q ∙ ap (λ k. (last_job h k).at) p)) in
            subst (λ y. Finished rows h'.plan y (h.clock + 1)) is (omega (arith, mine.2, one, units_now i h))

    served :
        (t : ℕ) (c : Job) → h'.plan t ≡ Some c →
        (t < h.clock + 1) × Requested rows h.asks c × (c.at ≤ t) × Unfinished rows h'.plan c t
    served t c e = at (cases_eq t h.clock)
      where
        Goal : Job → Type 0
        Goal y = (t < h.clock + 1) × Requested rows h.asks y × (y.at ≤ t) × Unfinished rows h'.plan y t

        at : (t ≡ h.clock) ⊎ (t ≡ h.clock → ⊥) → Goal c
        at (inl p) =
            subst Goal (some_same (sym (given_now i h) ∙ ap h'.plan (sym p) ∙ e)) (
              omega arith,
              (w.within, mine.0),
              omega (arith, (link.past i (last_job h i).at mine.0).1),
              omega (
                arith,
                mine.2,
                (tended i b w.within w.has).lacks,
                ap (units h'.plan (last_job h i)) p,
                units_old i h (last_job h i) h.clock (omega arith),
              ),
            )
        at (inr ne) =
            let was = link.served t c (sym (given_old i h t ne) ∙ e) in (
              omega (arith, was.0),
              was.1,
              was.2,
              omega (arith, was.3, units_old i h c t (omega (arith, was.0))),
            )
