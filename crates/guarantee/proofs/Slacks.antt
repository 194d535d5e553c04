-- Slack: on a fit table each step keeps it, and with it no job is past its due time.
use Rattle.std.proofs.Common.{◌≡◌, ℕ, ◌+◌, ◌-◌, ◌<◌, ◌≤◌, min, max, false, leb, ◌≢◌, ◌⊎◌, List, length, Some, None, Option, sym, refl, ap, ◌∙◌, ap₂, inl, inr, arith}
use Rattle.feasibility.proofs.Demands.{positive, demand_none, demand_one, demand_rise, demands_fit}
use Rattle.feasibility.proofs.Totals.{sum_le, sum_le_at, sum_split, term_le_sum}
use Rattle.feasibility.specs.Sums.{Σ<}
use Rattle.feasibility.specs.Tables.{row_at, Sound, least_period}
use Rattle.feasibility.specs.Verdicts.{demand, needed}
use Rattle.feasibility.specs.declared.row.Row.{Row}
use Rattle.guarantee.proofs.Marks.{marked_cases, rest}
use Rattle.guarantee.proofs.Views.{
  Task,
  View,
  owed,
  coming,
  need,
  Slack,
  Tended,
  AllTended,
  Started,
  Released,
  Idled,
  marked,
  after,
  Worked,
}
use Rattle.guarantee.specs.Promises.{IsJudgedFit}
use Rattle.std.proofs.lemmas.Bool.{cases_eq, cases_lt, cond_both, cond-false, cond-true, le-leb, lt-leb}

-- a job counts up to d if it is ranked by d, and only then
owed_in : (o : Option Task) (b : Task) (d : ℕ) → o ≡ Some b → b.deadline ≤ d → owed o d ≡ b.left
owed_in o b d e le = ap (λ x. owed x d) e ∙ cond-true (leb b.deadline d) b.left 0 (le-leb b.deadline d le)

owed_out : (o : Option Task) (b : Task) (d : ℕ) → o ≡ Some b → d < b.deadline → owed o d ≡ 0
owed_out o b d e lt = ap (λ x. owed x d) e ∙ cond-false (leb b.deadline d) b.left 0 (lt-leb b.deadline d lt)

owed_none : (o : Option Task) (d : ℕ) → o ≡ None → owed o d ≡ 0
owed_none o d e = ap (λ x. owed x d) e

owed_late : (o : Option Task) (d : ℕ) → ((b : Task) → o ≡ Some b → d < b.deadline) → owed o d ≡ 0
owed_late None d late = refl
owed_late (Some b) d late = owed_out (Some b) b d refl (late b refl)

-- what is left of a job lacks a unit less, at any d
after_owed : (rows : List Row) (x : Row) (clock : ℕ) (b : Task) (d : ℕ) → owed (after rows x clock b) d ≤ b.left - 1
after_owed rows x clock b d =
    cond_both (leb b.left 1) None (Some (rest rows x clock b)) (λ o. owed o d ≤ b.left - 1) (λ _. omega arith)
    (λ _. cond_both (leb (marked rows x clock b) d) (b.left - 1) 0 (λ n. n ≤ b.left - 1) (λ _. omega arith)
    (λ _. omega arith))

-- and nothing, at a d before its new deadline
after_out :
    (rows : List Row) (x : Row) (clock : ℕ) (b : Task) (d : ℕ) → d < marked rows x clock b →
    owed (after rows x clock b) d ≡ 0
after_out rows x clock b d lt =
    cond_both (leb b.left 1) None (Some (rest rows x clock b)) (λ o. owed o d ≡ 0) (λ _. refl)
    (λ _. owed_out (Some (rest rows x clock b)) (rest rows x clock b) d refl lt)

-- a later clock asks no more
coming_later : (x : Row) (next clock d : ℕ) → 0 < x.period → coming x next (clock + 1) d ≤ coming x next clock d
coming_later x next clock d some = demand_rise x (d - max next (clock + 1)) (d - max next clock) some (omega arith)

-- what can still come is at most what a row can ask for from the clock on
coming_demand : (x : Row) (next clock d : ℕ) → 0 < x.period → coming x next clock d ≤ demand x (d - clock)
coming_demand x next clock d some = demand_rise x (d - max next clock) (d - clock) some (omega arith)

coming_same :
    (x : Row) (next next' clock clock' d : ℕ) → next' ≡ next → clock' ≡ clock →
    coming x next' clock' d ≡ coming x next clock d
coming_same x next next' clock clock' d e f = ap₂ (λ a b. coming x a b d) e f

-- where no job is ranked by d, what can still come fits
quiet :
    (rows : List Row) (v : View) (d : ℕ) → Sound rows → IsJudgedFit rows → v.clock ≤ d →
    ((j : ℕ) → j < length rows → owed (v.task j) d ≡ 0) → Σ< (length rows) (need rows v d) + v.clock ≤ d
quiet rows v d sound fit le none = omega (arith, all, each)
  where
    all : Σ< (length rows) (λ j. demand (row_at rows j) (d - v.clock)) ≤ d - v.clock
    all =
        demands_fit rows fit.hyperperiod (d - v.clock) fit.exact.0 fit.exact.1 fit.judged.load_fits

    each : Σ< (length rows) (need rows v d) ≤ Σ< (length rows) (λ j. demand (row_at rows j) (d - v.clock))
    each =
        sum_le (length rows) (need rows v d) (λ j. demand (row_at rows j) (d - v.clock))
        (λ j l.
        omega (arith, none j l, coming_demand (row_at rows j) (v.next j) v.clock d (positive rows sound j l)))

-- with slack there is time for all that a job lacks before its due time
pub slack_in_time :
    (rows : List Row) (v : View) → Slack rows v → AllTended rows v → (j : ℕ) (b : Task) → j < length rows →
    v.task j ≡ Some b → v.clock + b.left ≤ b.due_at
slack_in_time rows v slack tended j b l e =
    let d : ℕ = max b.deadline v.clock in
    omega (
      arith,
      (tended j b l e).lacks,
      (tended j b l e).ranked,
      slack d (omega arith),
      term_le_sum (length rows) j (need rows v d) l,
      owed_in (v.task j) b d e (omega arith),
    )

-- where no job is unfinished, only what may come counts
pub started_slack : (rows : List Row) (v : View) → Sound rows → Started rows v → IsJudgedFit rows → Slack rows v
started_slack rows v sound start fit d le =
    quiet rows v d sound fit le (λ j l. owed_none (v.task j) d (start.task j l))

pub idled_slack : (rows : List Row) (v v' : View) → Sound rows → Idled rows v v' → IsJudgedFit rows → Slack rows v'
idled_slack rows v v' sound idle fit d le =
    quiet rows v' d sound fit le (λ j l. owed_none (v'.task j) d (idle.task j l ∙ idle.none j l))

-- a request was counted before as one that may come
pub released_slack :
    (rows : List Row) (i : ℕ) (v v' : View) → Sound rows → Released rows i v v' → Slack rows v → Slack rows v'
released_slack rows i v v' sound r slack d le =
    omega (
      arith,
      r.clock,
      slack d (omega (arith, r.clock)),
      sum_le_at (length rows) i 0 0 (need rows v' d) (need rows v d) r.within others here,
    )
  where
    x : Row
    x = row_at rows i

    p : ℕ
    p = (row_at rows i).period

    others : (j : ℕ) → j < length rows → j ≢ i → need rows v' d j ≤ need rows v d j
    others j l ne =
        omega (
          arith,
          ap (λ o. owed o d) (r.task_else j l ne),
          coming_same (row_at rows j) (v.next j) (v'.next j) v.clock v'.clock d (r.next_else j l ne)
              r.clock,
        )

    later : coming x (v'.next i) v'.clock d ≡ demand x (d - (v.clock + p))
    later =
        let m : max (v'.next i) v'.clock ≡ v.clock + p = omega (arith, r.next, r.clock) in
        ap (λ t. demand x (d - t)) m

    now_on : coming x (v.next i) v.clock d ≡ demand x (d - v.clock)
    now_on =
        let m : max (v.next i) v.clock ≡ v.clock = omega (arith, r.lawful) in ap (λ t. demand x (d - t)) m

    here : need rows v' d i + 0 ≤ need rows v d i + 0
    here = at (cases_lt d (v.clock + p))
      where
        at : (d < v.clock + p) ⊎ (v.clock + p ≤ d) → need rows v' d i + 0 ≤ need rows v d i + 0
        at (inl lt) =
            omega (
              arith,
              later,
              owed_out (v'.task i) _ d r.task lt,
              demand_none x (d - (v.clock + p)) (omega (arith, positive rows sound i r.within)),
            )
        at (inr ge) =
            let same : demand x (d - v.clock - p) ≡ demand x (d - (v.clock + p)) = ap (demand x) (omega arith) in
            omega (
              arith,
              later,
              now_on,
              owed_in (v'.task i) _ d r.task ge,
              demand_one x (d - v.clock) (positive rows sound i r.within) (omega arith),
              same,
            )

-- A tick is given to the job b of row i, which is ranked first. Up to a time d from b's deadline on, a unit less is
-- lacked. Before the deadline that b has after the tick, no job counts. Between the two, b has just begun and is alone,
-- and d is as far off as a length at which its row is tried.
pub worked_slack :
    (rows : List Row) (i : ℕ) (b : Task) (v v' : View) → Sound rows → AllTended rows v → Worked rows i b v v' →
    IsJudgedFit rows → Slack rows v → Slack rows v'
worked_slack rows i b v v' sound tended w fit slack d le =
    at (cases_lt d b.deadline) (cases_lt d new) (marked_cases rows (row_at rows i) v.clock b)
  where
    n : ℕ
    n = length rows

    new : ℕ
    new = marked rows (row_at rows i) v.clock b

    pos : (j : ℕ) → j < n → 0 < (row_at rows j).period
    pos = positive rows sound

    mine : Tended rows (row_at rows i) v.clock (v.next i) b
    mine = tended i b w.within w.has

    -- what the row i lacks after the tick
    left_over : owed (v'.task i) d ≡ owed (after rows (row_at rows i) v.clock b) d
    left_over = ap (λ o. owed o d) w.task

    less :
        (j : ℕ) → j < n →
        coming (row_at rows j) (v'.next j) v'.clock d ≤ coming (row_at rows j) (v.next j) v.clock d
    less j l =
        omega (
          arith,
          coming_later (row_at rows j) (v.next j) v.clock d (pos j l),
          coming_same (row_at rows j) (v.next j) (v'.next j) (v.clock + 1) v'.clock d (w.next j l) w.clock,
        )

    -- the jobs of the other rows are ranked after b
    others_late : d < b.deadline → (j : ℕ) → j < n → j ≢ i → owed (v'.task j) d ≡ 0
    others_late lt j l ne =
        owed_late (v'.task j) d
        (λ a e. omega (arith, w.first j a l (sym (w.task_else j l ne) ∙ e)))

    -- d is at least b's deadline: the tick was given to what d counts
    counted : b.deadline ≤ d → Σ< n (need rows v' d) + v'.clock ≤ d
    counted ge =
        omega (
          arith,
          w.clock,
          slack d (omega (arith, w.clock)),
          sum_le_at n i 1 0 (need rows v' d) (need rows v d) w.within
              (λ j l ne. omega (arith, less j l, ap (λ o. owed o d) (w.task_else j l ne)))
              (omega (
                arith,
                mine.lacks,
                left_over,
                after_owed rows (row_at rows i) v.clock b d,
                less i w.within,
                owed_in (v.task i) b d w.has ge,
              )),
        )

    -- d is below the new deadline: no job counts
    not_counted : d < b.deadline → d < new → Σ< n (need rows v' d) + v'.clock ≤ d
    not_counted lt lt' = quiet rows v' d sound fit le each
      where
        each : (j : ℕ) → j < n → owed (v'.task j) d ≡ 0
        each j l = at_j (cases_eq j i)
          where
            at_j : (j ≡ i) ⊎ (j ≡ i → ⊥) → owed (v'.task j) d ≡ 0
            at_j (inl e) =
                ap (λ k. owed (v'.task k) d) e ∙ left_over ∙ after_out rows (row_at rows i) v.clock b d lt'
            at_j (inr ne) = others_late lt j l ne

    -- between the two: b has just begun, and nothing else is ranked by d
    blocked :
        d < b.deadline → new ≤ d → (row_at rows i).store ≢ 0 →
        new ≡ min b.deadline (v.clock + 1 + least_period rows (row_at rows i).store) →
        Σ< n (need rows v' d) + v'.clock ≤ d
    blocked lt ge stored is =
        omega (
          arith,
          w.clock,
          room,
          none_left,
          sound i w.within,
          sum_split n i (λ j. demand (row_at rows j) (l - 1)) w.within,
          sum_le_at n i 0 ((row_at rows i).cost - 1) (need rows v' d) (λ j. demand (row_at rows j) (l - 1)) w.within
              others here,
        )
      where
        l : ℕ
        l = d - v.clock

        room : needed rows i l ≤ l
        room =
            fit.judged.unblocked i l (record {
              within = w.within;
              stored = stored;
              above = omega arith;
              below = omega (arith, mine.soon, mine.ranked);
            })

        same : d - v'.clock ≡ l - 1
        same = omega (arith, w.clock)

        none_left : demand (row_at rows i) (l - 1) ≡ 0
        none_left = demand_none (row_at rows i) (l - 1) (omega (arith, mine.soon, mine.ranked))

        others : (j : ℕ) → j < n → j ≢ i → need rows v' d j ≤ demand (row_at rows j) (l - 1)
        others j lj ne =
            omega (
              arith,
              others_late lt j lj ne,
              coming_demand (row_at rows j) (v'.next j) v'.clock d (pos j lj),
              ap {B = ℕ} (demand (row_at rows j)) same,
            )

        here : need rows v' d i + 0 ≤ demand (row_at rows i) (l - 1) + ((row_at rows i).cost - 1)
        here =
            omega (
              arith,
              left_over,
              after_owed rows (row_at rows i) v.clock b d,
              mine.part,
              demand_none (row_at rows i) (d - max (v'.next i) v'.clock)
                  (omega (arith, pos i w.within, w.next i w.within, mine.again, mine.ranked)),
            )

    at :
        (d < b.deadline) ⊎ (b.deadline ≤ d) → (d < new) ⊎ (new ≤ d) →
        (new ≡ b.deadline) ⊎
        ((b.begun ≡ false) × ((row_at rows i).store ≢ 0) ×
        (new ≡ min b.deadline (v.clock + 1 + least_period rows (row_at rows i).store))) →
        Σ< n (need rows v' d) + v'.clock ≤ d
    at (inr ge) _ _ = counted ge
    at (inl lt) (inl lt') _ = not_counted lt lt'
    at (inl lt) (inr ge) (inl same) = absurd (bad same)
      where
        bad : new ≡ b.deadline → ⊥
        bad e = omega arith
    at (inl lt) (inr ge) (inr m) = blocked lt ge m.1 m.2
