-- What the host is told of a file: the number of its verdict or of its fault.
use Rattle.std.specs.Prelude.{◌≡◌, ℕ, ◌⊎◌, List}
use Rattle.feasibility.specs.Tables.{Hyperperiod}
use Rattle.feasibility.specs.Told.{Told}
use Rattle.feasibility.specs.Verdicts.{Judged}
use Rattle.feasibility.specs.declared.row.Row.{Row}
use Rattle.session.specs.Faults.{told_fault}
use Rattle.session.specs.Sessions.{IsSession, IsFault}
use Rattle.session.specs.declared.arrival.Arrival.{Arrival}
use Rattle.session.specs.declared.fault.Fault.{Fault}

-- n is the number of the verdict on the table of the session that the file is.
pub record VerdictNumber (bs : List ℕ) (n : ℕ) : Type 0 where
  pub rows : List Row
  pub ticks : ℕ
  pub arrivals : List Arrival
  pub hyperperiod : ℕ
  pub verdict : Told
  pub session : IsSession bs rows ticks arrivals
  pub exact : Hyperperiod rows hyperperiod
  pub judged : Judged rows hyperperiod verdict
  pub number : n ≡ verdict.number

-- n is the number of its fault.
pub record FaultNumber (bs : List ℕ) (n : ℕ) : Type 0 where
  pub fault : Fault
  pub first : IsFault bs fault
  pub number : n ≡ (told_fault fault).number

abbrev pub HostNumber : List ℕ → ℕ → Type 0
HostNumber bs n = VerdictNumber bs n ⊎ FaultNumber bs n
