-- Requests, jobs and schedules on one processor. Time is counted in ticks; tick t begins at time t and ends at t + 1.
use Rattle.std.specs.Prelude.{◌≡◌, ℕ, ◌+◌, ◌<◌, ◌≤◌, Bool, true, cond, ◌≢◌, ◌⊎◌, List, length, Some, None, Option, ◌==◌}
use Rattle.feasibility.specs.Sums.{Σ<}
use Rattle.feasibility.specs.Tables.{row_at}
use Rattle.feasibility.specs.declared.row.Row.{Row}

-- Whether the row at a place is requested at a time.
abbrev pub Requests : Type 0
Requests = ℕ → ℕ → Bool

-- A job is one request of a row: the row's place and the time of the request.
pub record Job : Type 0 where
  pub of : ℕ
  pub at : ℕ

-- The job, if any, that each tick is given to, as a unit.
abbrev pub Schedule : Type 0
Schedule = ℕ → Option Job

-- How long after its request a job of a row is due.
abbrev pub relative_deadline : Row → ℕ
relative_deadline x = x.period

abbrev pub due : List Row → Job → ℕ
due rows b = b.at + relative_deadline (row_at rows b.of)

-- The requests of each row are at least its period apart.
abbrev pub Lawful : List Row → Requests → Type 0
Lawful rows asks =
    (j a b : ℕ) → j < length rows → asks j a ≡ true → asks j b ≡ true → a < b → a + (row_at rows j).period ≤ b

abbrev pub Requested : List Row → Requests → Job → Type 0
Requested rows asks b = (b.of < length rows) × (asks b.of b.at ≡ true)

-- 1 if a tick is given to the job b, else 0.
abbrev pub unit : Option Job → Job → ℕ
unit None b = 0
unit (Some x) b = cond (x.of == b.of) (cond (x.at == b.at) 1 0) 0

-- The units that a job has had before time t.
abbrev pub units : Schedule → Job → ℕ → ℕ
units s b t = Σ< t (λ u. unit (s u) b)

-- A job lacks a unit at time t, or has all that it costs.
abbrev pub Unfinished : List Row → Schedule → Job → ℕ → Type 0
Unfinished rows s b t = units s b t < (row_at rows b.of).cost

abbrev pub Finished : List Row → Schedule → Job → ℕ → Type 0
Finished rows s b t = (row_at rows b.of).cost ≤ units s b t

-- What a schedule does before time l. A schedule without end does it before every time.

-- Each tick goes to a requested, unfinished job or to none.
abbrev pub Serves : List Row → Requests → Schedule → ℕ → Type 0
Serves rows asks s l =
    (t : ℕ) (b : Job) → t < l → s t ≡ Some b → Requested rows asks b × (b.at ≤ t) × Unfinished rows s b t

-- A tick goes to none only when no requested job is unfinished.
abbrev pub Busy : List Row → Requests → Schedule → ℕ → Type 0
Busy rows asks s l =
    (t : ℕ) (b : Job) → t < l → s t ≡ None → Requested rows asks b → b.at ≤ t → Finished rows s b t

-- From the first unit of a job that uses a store until it is finished, no other job on that store gets one.
abbrev pub Unshared : List Row → Schedule → ℕ → Type 0
Unshared rows s l =
    (t : ℕ) (b other : Job) → t < l → s t ≡ Some b → other ≢ b → (row_at rows b.of).store ≢ 0 →
    (row_at rows other.of).store ≡ (row_at rows b.of).store →
    (units s other t ≡ 0) ⊎ Finished rows s other t

-- Some requested job with a due time of at most l lacks a unit at its due time.
pub record LateBy (rows : List Row) (asks : Requests) (s : Schedule) (l : ℕ) : Type 0 where
  pub job : Job
  pub requested : Requested rows asks job
  pub due_by : due rows job ≤ l
  pub lacks : Unfinished rows s job (due rows job)
