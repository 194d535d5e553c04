-- What a dispatcher promises of the history that it makes.
use Rattle.std.specs.Prelude.{ℕ, List}
use Rattle.feasibility.specs.Schedules.{Lawful, Serves, Busy, Unshared, LateBy}
use Rattle.feasibility.specs.Tables.{Hyperperiod}
use Rattle.feasibility.specs.Told.{told}
use Rattle.feasibility.specs.Verdicts.{Judged}
use Rattle.feasibility.specs.declared.row.Row.{Row}
use Rattle.feasibility.specs.declared.verdict.Verdict.TheVariants.{Fit}
use Rattle.guarantee.specs.Histories.{History}

-- On every table: the requests are lawful, and the schedule serves them, is busy and shares no store.
pub record Orderly (rows : List Row) (h : History) : Type 0 where
  pub lawful : Lawful rows h.asks
  pub serves : Serves rows h.asks h.plan h.clock
  pub busy : Busy rows h.asks h.plan h.clock
  pub unshared : Unshared rows h.plan h.clock

-- The table is judged fit.
pub record IsJudgedFit (rows : List Row) : Type 0 where
  pub hyperperiod : ℕ
  pub exact : Hyperperiod rows hyperperiod
  pub judged : Judged rows hyperperiod (told Fit)

-- No request was unfinished when the clock read its due time.
abbrev pub IsInTime : List Row → History → Type 0
IsInTime rows h = LateBy rows h.asks h.plan h.clock → ⊥

pub record Kept (rows : List Row) (h : History) : Type 0 where
  pub orderly : Orderly rows h
  pub in_time : IsJudgedFit rows → IsInTime rows h
