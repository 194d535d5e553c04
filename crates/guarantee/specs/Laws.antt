-- The guarantee as one law, over every life.
use Rattle.std.specs.Prelude.{◌≡◌, ℕ, List, Some}
use Rattle.feasibility.specs.Hopeless.{Deserved}
use Rattle.feasibility.specs.Told.{told}
use Rattle.feasibility.specs.Verdicts.{Judged}
use Rattle.feasibility.specs.declared.row.Row.{Row}
use Rattle.feasibility.specs.declared.verdict.Verdict.{Verdict}
use Rattle.guarantee.specs.Lives.{Event, Lived, table_taken, Throughout}
use Rattle.guarantee.specs.States.{State}

-- What is promised holds throughout: on a fit table nobody is late, and on every table no store is shared and no tick
-- wasted. And where the table taken is refused, the dispatcher is not to blame: under requests that the verdict names,
-- every busy schedule that shares no store is late.
pub record Guaranteed (log : List Event) : Type 0 where
  pub promised : Throughout log
  pub hopeless :
      (rows : List Row) (h : ℕ) (v : Verdict) → table_taken log ≡ Some rows → Judged rows h (told v) →
      Deserved rows (told v)

abbrev pub LivesAreGuaranteed : Type 0
LivesAreGuaranteed = (log : List Event) (s : State) → Lived log s → Guaranteed log
