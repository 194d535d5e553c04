-- What is promised of a history: each step keeps it.
use Rattle.std.proofs.lemmas.Option.{none-some}
use Rattle.std.proofs.Common.{◌≡◌, ℕ, ◌+◌, ◌<◌, ◌≤◌, true, false, ◌≢◌, ◌⊎◌, List, length, Some, None, Option, sym, refl, ap, ◌∙◌, subst, ap₂, inl, inr, arith}
use Rattle.feasibility.proofs.Counting.{job}
use Rattle.feasibility.proofs.Demands.{positive}
use Rattle.feasibility.specs.Schedules.{Job, Schedule, due, Lawful, Requested, units, Finished, Serves, Busy, Unshared}
use Rattle.feasibility.specs.Tables.{row_at, Sound}
use Rattle.feasibility.specs.declared.row.Row.{Row}
use Rattle.guarantee.proofs.HistorySteps.{asked_cases, given_now, given_old, units_old}
use Rattle.guarantee.proofs.Links.{unserved}
use Rattle.guarantee.proofs.Marks.{some_same}
use Rattle.guarantee.proofs.Slacks.{slack_in_time}
use Rattle.guarantee.proofs.Tendings.{others_fresh}
use Rattle.guarantee.proofs.Views.{Task, View, Slack, AllTended, Exclusive, Linked, Released, Idled, Worked}
use Rattle.guarantee.specs.Histories.{History, unwritten, last_job, asked, idled, worked}
use Rattle.guarantee.specs.Promises.{Orderly, IsInTime}
use Rattle.std.proofs.lemmas.Bool.{both_ways, cases_Bool, cases_eq, cases_lt}

-- what the history says of each tick given is that the schedule serves
linked_serves :
    (rows : List Row) (h : History) (v : View) → Linked rows h v → Serves rows h.asks h.plan h.clock
linked_serves rows h v link t b l e = let x = link.served t b e in (x.1, x.2, x.3)

pub started_orderly : (rows : List Row) → Orderly rows unwritten
started_orderly rows =
    record {
      lawful = λ j a b l ea eb lt. absurd (both_ways false refl ea);
      serves = λ t b l e. absurd (none-some b e);
      busy = λ t b l e ask le. absurd (both_ways false refl ask.1);
      unshared = λ t b other l e ne stored same. absurd (none-some b e);
    }

-- a request is accepted no sooner than a period after the one before it
pub released_orderly :
    (rows : List Row) (i : ℕ) (h : History) (v v' : View) → Released rows i v v' → Linked rows h v →
    Linked rows (asked i h) v' → Orderly rows h → Orderly rows (asked i h)
released_orderly rows i h v v' r link link' order =
    record {
      lawful = lawful;
      serves = linked_serves rows (asked i h) v' link';
      busy = busy;
      unshared = order.unshared;
    }
  where
    lawful : Lawful rows (asked i h).asks
    lawful j a b l ea eb lt = at (asked_cases i h j a ea) (asked_cases i h j b eb)
      where
        at :
            ((j ≡ i) × (a ≡ h.clock)) ⊎ (h.asks j a ≡ true) → ((j ≡ i) × (b ≡ h.clock)) ⊎ (h.asks j b ≡ true) →
            a + (row_at rows j).period ≤ b
        at (inr oa) (inr ob) = order.lawful j a b l oa ob lt
        at (inr oa) (inl nb) =
            omega (arith, link.past j a oa, r.lawful, link.clock, nb.1, ap v.next nb.0)
        at (inl na) (inr ob) = omega (arith, (link.past j b ob).1, na.1)
        at (inl na) (inl nb) = omega (arith, na.1, nb.1)

    busy : Busy rows (asked i h).asks h.plan h.clock
    busy t b l e ask le = at (asked_cases i h b.of b.at ask.1)
      where
        at :
            ((b.of ≡ i) × (b.at ≡ h.clock)) ⊎ (h.asks b.of b.at ≡ true) → Finished rows h.plan b t
        at (inl now) = omega (arith, now.1)
        at (inr old) = order.busy t b l e (ask.0, old) le

-- a tick is given to none only where no job is unfinished
pub idled_orderly :
    (rows : List Row) (h : History) (v v' : View) → Idled rows v v' → Linked rows h v → Linked rows (idled h) v' →
    Orderly rows h → Orderly rows (idled h)
idled_orderly rows h v v' r link link' order =
    record {
      lawful = order.lawful;
      serves = linked_serves rows (idled h) v' link';
      busy = busy;
      unshared = λ t b other l e. order.unshared t b other (link.served t b e).0 e;
    }
  where
    busy : Busy rows h.asks h.plan (h.clock + 1)
    busy t b l e ask le = at (cases_lt t h.clock)
      where
        at : (t < h.clock) ⊎ (h.clock ≤ t) → Finished rows h.plan b t
        at (inl lt) = order.busy t b lt e ask le
        at (inr ge) =
            let now : h.clock ≡ t = omega arith in
            subst (Finished rows h.plan b) now (link.done b ask (inl (r.none b.of ask.0)))

-- a tick is given to an unfinished job, and to none whose store another holds
pub worked_orderly :
    (rows : List Row) (k : ℕ) (c : Task) (h : History) (v v' : View) → Worked rows k c v v' → AllTended rows v →
    Exclusive rows v → Linked rows h v → Linked rows (worked k h) v' → Orderly rows h → Orderly rows (worked k h)
worked_orderly rows k c h v v' w tended ex link link' order =
    record {
      lawful = order.lawful;
      serves = linked_serves rows (worked k h) v' link';
      busy = busy;
      unshared = unshared;
    }
  where
    h' : History
    h' = worked k h

    busy : Busy rows h.asks h'.plan (h.clock + 1)
    busy t b l e ask le = at (cases_eq t h.clock)
      where
        at : (t ≡ h.clock) ⊎ (t ≡ h.clock → ⊥) → Finished rows h'.plan b t
        at (inl now) = absurd (none-some (last_job h k) (sym e ∙ ap h'.plan now ∙ given_now k h))
        at (inr ne) =
            let lt : t < h.clock = omega arith in
            omega (
              arith,
              order.busy t b lt (sym (given_old k h t ne) ∙ e) ask le,
              units_old k h b t (omega arith),
            )

    -- what is said of each other job in the store
    Free : Job → ℕ → Type 0
    Free b m = (m ≡ 0) ⊎ ((row_at rows b.of).cost ≤ m)

    -- the tick that is just over, given to the last job of row k: any other in its store has not begun or is finished
    now :
        (b : Job) → b ≢ last_job h k → (row_at rows k).store ≢ 0 → (row_at rows b.of).store ≡ (row_at rows k).store →
        Free b (units h.plan b h.clock)
    now b ne stored same = which (cases_lt b.of (length rows)) (cases_Bool (h.asks b.of b.at))
      where
        unasked : (Requested rows h.asks b → ⊥) → Free b (units h.plan b h.clock)
        unasked none = inl (unserved rows h v link b h.clock none)

        asked_for :
            Requested rows h.asks b → (o : Option Task) → v.task b.of ≡ o →
            Free b (units h.plan b h.clock)
        asked_for ask None e = inr (link.done b ask (inl e))
        asked_for ask (Some d) e = at (cases_eq b.at (last_job h b.of).at)
          where
            at :
                (b.at ≡ (last_job h b.of).at) ⊎ (b.at ≡ (last_job h b.of).at → ⊥) →
                Free b (units h.plan b h.clock)
            at (inr older) = inr (link.done b ask (inr older))
            at (inl last) =
                let apart : b.of ≢ k = λ p. ne (ap₂ job p (last ∙ ap (λ j. (last_job h j).at) p)) in
                let fresh =
                others_fresh rows k c v v' w ex b.of d ask.0 apart (λ z. stored (sym same ∙ z)) same e in
                inl
                (omega (
                  arith,
                  (link.current b.of d ask.0 e).2,
                  ((tended b.of d ask.0 e).fresh fresh).0,
                  ap (λ a. units h.plan (job b.of a) h.clock) last,
                ))

        which :
            (b.of < length rows) ⊎ (length rows ≤ b.of) →
            (h.asks b.of b.at ≡ true) ⊎ (h.asks b.of b.at ≡ false) → Free b (units h.plan b h.clock)
        which (inr past) _ = unasked (λ ask. outside ask.0)
          where
            outside : b.of < length rows → ⊥
            outside l = omega arith
        which (inl l) (inr f) = unasked (λ ask. both_ways (h.asks b.of b.at) f ask.1)
        which (inl l) (inl t) = asked_for (l, t) (v.task b.of) refl

    unshared : Unshared rows h'.plan (h.clock + 1)
    unshared t b other l e ne stored same = at (cases_eq t h.clock)
      where
        at : (t ≡ h.clock) ⊎ (t ≡ h.clock → ⊥) → Free other (units h'.plan other t)
        at (inl p) =
            let is : last_job h k ≡ b = some_same (sym (given_now k h) ∙ ap h'.plan (sym p) ∙ e) in
            let here : (row_at rows k).store ≡ (row_at rows b.of).store = ap (λ y. (row_at rows y.of).store) is in
            let m : units h.plan other h.clock ≡ units h'.plan other t
            = sym (ap (units h'.plan other) p ∙ units_old k h other h.clock (omega arith)) in
            subst (Free other) m (now other (λ z. ne (z ∙ is)) (λ z. stored (sym here ∙ z)) (same ∙ sym here))
        at (inr p) =
            let was : h.plan t ≡ Some b = sym (given_old k h t p) ∙ e in
            let before : t < h.clock = (link.served t b was).0 in
            subst (Free other) (sym (units_old k h other t (omega arith)))
            (order.unshared t b other before was ne stored same)

-- with slack, a job whose due time has come is finished
in_time_now :
    (rows : List Row) (h : History) (v : View) → Linked rows h v → AllTended rows v → Slack rows v →
    (b : Job) → Requested rows h.asks b → due rows b ≤ h.clock → Finished rows h.plan b h.clock
in_time_now rows h v link tended slack b ask by = at (v.task b.of) refl (cases_eq b.at (last_job h b.of).at)
  where
    at :
        (o : Option Task) → v.task b.of ≡ o →
        (b.at ≡ (last_job h b.of).at) ⊎ (b.at ≡ (last_job h b.of).at → ⊥) → Finished rows h.plan b h.clock
    at None e _ = link.done b ask (inl e)
    at (Some d) e (inr older) = link.done b ask (inr older)
    at (Some d) e (inl last) =
        omega (
          arith,
          slack_in_time rows v slack tended b.of d ask.0 e,
          (link.current b.of d ask.0 e).1,
          (tended b.of d ask.0 e).lacks,
          link.clock,
        )

pub started_in_time : (rows : List Row) → IsInTime rows unwritten
started_in_time rows late = both_ways false refl late.requested.1

-- a job just requested is not due yet
pub released_in_time :
    (rows : List Row) (i : ℕ) (h : History) → Sound rows → IsInTime rows h → IsInTime rows (asked i h)
released_in_time rows i h sound in_time late =
    at (asked_cases i h late.job.of late.job.at late.requested.1)
  where
    b : Job
    b = late.job

    at : ((b.of ≡ i) × (b.at ≡ h.clock)) ⊎ (h.asks b.of b.at ≡ true) → ⊥
    at (inl now) = omega (arith, now.1, late.due_by, positive rows sound b.of late.requested.0)
    at (inr old) =
        in_time (record { job = b; requested = (late.requested.0, old); due_by = late.due_by; lacks = late.lacks })

-- A tick is over, with what was given before it as it was: a job whose due time comes now is finished, and one that was
-- due before is as it was.
pub ticked_in_time :
    (rows : List Row) (h : History) (plan : Schedule) (v' : View) →
    ((b : Job) (t : ℕ) → t ≤ h.clock → units plan b t ≡ units h.plan b t) →
    Linked rows (record { clock = h.clock + 1; asks = h.asks; plan = plan }) v' → AllTended rows v' → Slack rows v' →
    IsInTime rows h → IsInTime rows (record { clock = h.clock + 1; asks = h.asks; plan = plan })
ticked_in_time rows h plan v' same link tended slack in_time late = at (cases_lt h.clock (due rows b))
  where
    b : Job
    b = late.job

    h' : History
    h' = record { clock = h.clock + 1; asks = h.asks; plan = plan }

    at : (h.clock < due rows b) ⊎ (due rows b ≤ h.clock) → ⊥
    at (inl lt) =
        let now : due rows b ≡ h.clock + 1 = omega (arith, late.due_by) in
        omega (
          arith,
          late.lacks,
          ap (units plan b) now,
          in_time_now rows h' v' link tended slack b late.requested late.due_by,
        )
    at (inr le) =
        in_time (record {
          job = b;
          requested = late.requested;
          due_by = le;
          lacks = omega (arith, late.lacks, same b (due rows b) le);
        })
