-- What an answer says is true of the history, in the words of scheduling.
use Rattle.std.specs.Prelude.{◌≡◌, ℕ, ◌+◌, ◌-◌, ◌<◌, ◌≤◌, List, ℤ, pos, ◌-ℤ◌, Ok, Err, MatchBool, MatchOption, ◌==◌}
use Rattle.feasibility.specs.Schedules.{Job, due, units, Requested, Finished, Unfinished as Lacking}
use Rattle.feasibility.specs.Tables.{row_at}
use Rattle.feasibility.specs.declared.row.Row.{Row}
use Rattle.guarantee.specs.Histories.{History, last_job, worked}
use Rattle.guarantee.specs.Numbers.{refusal_number}
use Rattle.guarantee.specs.Rules.{Call, Take, Release, Begin, End, Spare, Reply}
use Rattle.guarantee.specs.declared.refusal.Refusal.{Refusal}
use Rattle.guarantee.specs.declared.state.JobState.{JobState}
use Rattle.guarantee.specs.declared.state.JobState.TheVariants.{Unfinished, InTime, Late}

-- The job b at the clock: it lacks a unit; it is finished and its due time is not past; it is finished later.
abbrev pub IsTold : List Row → History → Job → JobState → Type 0
IsTold rows h b Unfinished = Lacking rows h.plan b h.clock
IsTold rows h b InTime = Finished rows h.plan b h.clock × (h.clock ≤ due rows b)
IsTold rows h b Late = Finished rows h.plan b h.clock × (due rows b < h.clock)

-- The last request of a row, if there was one, is at least its period ago, and its job is finished.
abbrev pub Free : List Row → History → ℕ → Type 0
Free rows h i =
    Requested rows h.asks (last_job h i) →
    ((last_job h i).at + (row_at rows i).period ≤ h.clock) × Finished rows h.plan (last_job h i) h.clock

-- The last request of a row is less than its period ago.
abbrev pub Early : List Row → History → ℕ → Type 0
Early rows h i = Requested rows h.asks (last_job h i) × (h.clock < (last_job h i).at + (row_at rows i).period)

-- The job of a row's last request lacks a unit.
abbrev pub PendingJob : List Row → History → ℕ → Type 0
PendingJob rows h i = Requested rows h.asks (last_job h i) × Lacking rows h.plan (last_job h i) h.clock

-- Every job of a row is finished.
abbrev pub AtRest : List Row → History → ℕ → Type 0
AtRest rows h i = Requested rows h.asks (last_job h i) → Finished rows h.plan (last_job h i) h.clock

-- z is the due time of the row's job less the clock less the units that it lacks.
pub record IsSpare (rows : List Row) (h : History) (i : ℕ) (z : ℤ) : Type 0 where
  pub pending : PendingJob rows h i
  pub is :
      z ≡ pos (due rows (last_job h i)) -ℤ pos h.clock -ℤ
      pos ((row_at rows i).cost - units h.plan (last_job h i) h.clock)

-- A release is refused as too early, or as the earlier job is unfinished, only if that is so.
abbrev pub RefusedRightly : List Row → History → ℕ → Refusal → Type 0
RefusedRightly rows h i e =
    MatchBool (refusal_number e == 14) (Early rows h i)
    (MatchBool (refusal_number e == 15) (PendingJob rows h i) (Unit {0}))

-- The answer r to the call c, by the table taken and the history before the call.
abbrev pub TrueAnswer : List Row → (c : Call) → Reply c → History → Type 0
TrueAnswer rows (Take new) r h = Unit {0}
TrueAnswer rows (Release row) (Ok u) h = Free rows h (row - 1)
TrueAnswer rows (Release row) (Err e) h = RefusedRightly rows h (row - 1) e
TrueAnswer rows Begin r h = Unit {0}
TrueAnswer rows End (Ok x) h =
    MatchBool (x.0 == 0) (x.1 ≡ Unfinished) (IsTold rows (worked (x.0 - 1) h) (last_job h (x.0 - 1)) x.1)
TrueAnswer rows End (Err e) h = Unit {0}
TrueAnswer rows (Spare row) (Ok o) h = MatchOption o (AtRest rows h (row - 1)) (IsSpare rows h (row - 1))
TrueAnswer rows (Spare row) (Err e) h = Unit {0}
