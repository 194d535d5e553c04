-- A dispatcher between two ticks, as the proof sees it: for each place, the unfinished job of its row with the deadline
-- that it is ranked by.
use Rattle.std.proofs.Common.{◌≡◌, ℕ, ◌+◌, ◌-◌, ◌<◌, ◌≤◌, min, max, Bool, true, false, cond, eqb, leb, ◌≢◌, ◌⊎◌, List, length, Some, None, Option}
use Rattle.feasibility.specs.Sums.{Σ<}
use Rattle.feasibility.specs.Tables.{row_at, least_period}
use Rattle.feasibility.specs.Verdicts.{demand}
use Rattle.feasibility.specs.declared.row.Row.{Row}
use Rattle.guarantee.specs.Histories.{History, last_job}
use Rattle.guarantee.specs.Promises.{Orderly, IsJudgedFit, IsInTime}
use Rattle.feasibility.specs.Schedules.{Job, relative_deadline, due, Requested, units, Finished, Unfinished}

-- An unfinished job: the deadline that it is ranked by, its due time, the units that it lacks, and whether it has begun.
pub record Task : Type 0 where
  pub deadline : ℕ
  pub due_at : ℕ
  pub left : ℕ
  pub begun : Bool

-- The clock, the unfinished job of each row, and the earliest time at which each row may be requested next (0 before
-- its first request).
pub record View : Type 0 where
  pub clock : ℕ
  pub task : ℕ → Option Task
  pub next : ℕ → ℕ

-- What a job lacks, if it is ranked at most at d.
abbrev pub owed : Option Task → ℕ → ℕ
owed None d = 0
owed (Some b) d = cond (leb b.deadline d) b.left 0

-- What jobs can still ask for that are requested at the clock or later and due by d.
abbrev pub coming : Row → ℕ → ℕ → ℕ → ℕ
coming x next clock d = demand x (d - max next clock)

abbrev pub need : List Row → View → ℕ → ℕ → ℕ
need rows v d j = owed (v.task j) d + coming (row_at rows j) (v.next j) v.clock d

-- Whatever must be done by a time d, now or by any lawful requests from now on, there is time for it.
abbrev pub Slack : List Row → View → Type 0
Slack rows v = (d : ℕ) → v.clock ≤ d → Σ< (length rows) (need rows v d) + v.clock ≤ d

-- What holds of each unfinished job, whatever the table.
pub record Tended (rows : List Row) (x : Row) (clock next : ℕ) (b : Task) : Type 0 where
  pub lacks : 1 ≤ b.left
  pub part : b.left ≤ x.cost
  pub ranked : b.deadline ≤ b.due_at
  pub again : b.due_at ≡ next
  pub soon : b.due_at ≤ clock + x.period
  pub fresh : b.begun ≡ false → (b.left ≡ x.cost) × (b.deadline ≡ b.due_at)
  pub held : b.begun ≡ true → x.store ≢ 0 → b.deadline ≤ clock + least_period rows x.store

abbrev pub AllTended : List Row → View → Type 0
AllTended rows v =
    (j : ℕ) (b : Task) → j < length rows → v.task j ≡ Some b → Tended rows (row_at rows j) v.clock (v.next j) b

-- While a job in a store is begun and unfinished, any other in that store is not begun and is not ranked above it.
abbrev pub Exclusive : List Row → View → Type 0
Exclusive rows v =
    (i j : ℕ) (a b : Task) → i < length rows → j < length rows → i ≢ j → (row_at rows i).store ≢ 0 →
    (row_at rows i).store ≡ (row_at rows j).store → v.task i ≡ Some a → v.task j ≡ Some b → a.begun ≡ true →
    (b.begun ≡ false) × (a.deadline ≤ b.deadline)

-- What the history says of the view: an unfinished job is the last of its row and lacks what it has not had; any other
-- that was requested is finished.
pub record Linked (rows : List Row) (h : History) (v : View) : Type 0 where
  pub clock : v.clock ≡ h.clock
  pub past :
      (j a : ℕ) → h.asks j a ≡ true → (j < length rows) × (a ≤ h.clock) × (a + (row_at rows j).period ≤ v.next j)
  pub current :
      (j : ℕ) (b : Task) → j < length rows → v.task j ≡ Some b →
      (h.asks j (last_job h j).at ≡ true) × (b.due_at ≡ due rows (last_job h j)) ×
      (units h.plan (last_job h j) h.clock + b.left ≡ (row_at rows j).cost)
  pub done :
      (b : Job) → Requested rows h.asks b → (v.task b.of ≡ None) ⊎ (b.at ≢ (last_job h b.of).at) →
      Finished rows h.plan b h.clock
  pub served :
      (t : ℕ) (b : Job) → h.plan t ≡ Some b →
      (t < h.clock) × Requested rows h.asks b × (b.at ≤ t) × Unfinished rows h.plan b t

-- All that holds of a life between two ticks.
pub record Invariant (rows : List Row) (h : History) (v : View) : Type 0 where
  pub tended : AllTended rows v
  pub exclusive : Exclusive rows v
  pub linked : Linked rows h v
  pub orderly : Orderly rows h
  pub slack : IsJudgedFit rows → Slack rows v
  pub in_time : IsJudgedFit rows → IsInTime rows h

-- Nothing has happened yet.
pub record Started (rows : List Row) (v : View) : Type 0 where
  pub clock : v.clock ≡ 0
  pub task : (j : ℕ) → j < length rows → v.task j ≡ None
  pub next : (j : ℕ) → j < length rows → v.next j ≡ 0

-- A job just requested.
abbrev pub new_task : Row → ℕ → Task
new_task x clock =
    record {
      deadline = clock + relative_deadline x;
      due_at = clock + relative_deadline x;
      left = x.cost;
      begun = false;
    }

-- The row at place i is requested.
pub record Released (rows : List Row) (i : ℕ) (v v' : View) : Type 0 where
  pub within : i < length rows
  pub free : v.task i ≡ None
  pub lawful : v.next i ≤ v.clock
  pub clock : v'.clock ≡ v.clock
  pub task : v'.task i ≡ Some (new_task (row_at rows i) v.clock)
  pub next : v'.next i ≡ v.clock + (row_at rows i).period
  pub task_else : (j : ℕ) → j < length rows → j ≢ i → v'.task j ≡ v.task j
  pub next_else : (j : ℕ) → j < length rows → j ≢ i → v'.next j ≡ v.next j

-- A tick with no job to give it to.
pub record Idled (rows : List Row) (v v' : View) : Type 0 where
  pub clock : v'.clock ≡ v.clock + 1
  pub none : (j : ℕ) → j < length rows → v.task j ≡ None
  pub task : (j : ℕ) → j < length rows → v'.task j ≡ v.task j
  pub next : (j : ℕ) → j < length rows → v'.next j ≡ v.next j

-- The deadline of a job that gets the tick that begins at the clock.
abbrev pub marked : List Row → Row → ℕ → Task → ℕ
marked rows x clock b =
    cond b.begun b.deadline
    (cond (eqb x.store 0) b.deadline (min b.deadline (clock + 1 + least_period rows x.store)))

-- What is left of it after the tick.
abbrev pub after : List Row → Row → ℕ → Task → Option Task
after rows x clock b =
    cond (leb b.left 1) None
    (Some (record { deadline = marked rows x clock b; due_at = b.due_at; left = b.left - 1; begun = true }))

-- A tick given to the row at place i, whose job b is ranked first.
pub record Worked (rows : List Row) (i : ℕ) (b : Task) (v v' : View) : Type 0 where
  pub within : i < length rows
  pub has : v.task i ≡ Some b
  pub first : (j : ℕ) (a : Task) → j < length rows → v.task j ≡ Some a → b.deadline ≤ a.deadline
  pub ties :
      (j : ℕ) (a : Task) → j < length rows → v.task j ≡ Some a → b.deadline ≡ a.deadline → a.begun ≡ true →
      b.begun ≡ true
  pub clock : v'.clock ≡ v.clock + 1
  pub task : v'.task i ≡ after rows (row_at rows i) v.clock b
  pub task_else : (j : ℕ) → j < length rows → j ≢ i → v'.task j ≡ v.task j
  pub next : (j : ℕ) → j < length rows → v'.next j ≡ v.next j
