-- The example session as the record of a life.
use Rattle.std.specs.Prelude.{◌≡◌, ℕ, List, [], ◌∷◌, Ok, Err}
use Rattle.feasibility.specs.Cases.{Stands, case_j}
use Rattle.guarantee.specs.Lives.{Event, event, Lived}
use Rattle.guarantee.specs.Rules.{Take, Release, Begin, End}
use Rattle.guarantee.specs.States.{State}
use Rattle.guarantee.specs.declared.refusal.Refusal.TheVariants.{TooEarly}
use Rattle.guarantee.specs.declared.state.JobState.TheVariants.{Unfinished, InTime}
use Rattle.ready.specs.Entries.{filled}
use Rattle.ready.specs.Limits.{max_row}

-- Events in the order in which they came, as a record, the latest first.
abbrev pub recorded : List Event → List Event → List Event
recorded log [] = log
recorded log (e ∷ es) = recorded (e ∷ log) es

abbrev pub session_j : List Event
session_j =
    recorded []
    (event (Take case_j.rows) (Ok tt)
    ∷ event (Release 3) (Ok tt)
    ∷ event Begin (Ok 3)
    ∷ event End (Ok (3, Unfinished))
    ∷ event (Release 1) (Ok tt)
    ∷ event (Release 2) (Ok tt)
    ∷ event Begin (Ok 1)
    ∷ event End (Ok (1, InTime))
    ∷ event Begin (Ok 3)
    ∷ event End (Ok (3, InTime))
    ∷ event (Release 1) (Err TooEarly)
    ∷ event Begin (Ok 2)
    ∷ event End (Ok (2, Unfinished))
    ∷ event Begin (Ok 2)
    ∷ event End (Ok (2, InTime))
    ∷ event Begin (Ok 0)
    ∷ event End (Ok (0, Unfinished))
    ∷ event Begin (Ok 0)
    ∷ event End (Ok (0, Unfinished))
    ∷ [])

-- The record of a life over a list of 32 cells, one for each row, that was empty at first: its clock and its ready list
-- at the end.
pub record LivedOver32 (log : List Event) (clock left : ℕ) : Type 0 where
  pub state : State
  pub lived : Lived log state
  pub clock_reads : state.clock ≡ clock
  pub capacity : state.cells ≡ max_row
  pub unfinished : filled state.entries ≡ left

-- The table of the session is fit, and its calls with the answers that it prints are the record of a life.
pub record CaseJStands : Type 0 where
  pub table : Stands case_j
  pub lived : LivedOver32 session_j 7 0
