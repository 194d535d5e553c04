-- The numbers by which refusals and the states of jobs are told.
use Rattle.std.specs.Prelude.{ℕ}
use Rattle.guarantee.specs.declared.refusal.Refusal.{Refusal}
use Rattle.guarantee.specs.declared.refusal.Refusal.TheVariants.{TableTaken, ListNotEmpty, CapacityBelowRows, NoTable, UnknownRow, TickOpen, TooEarly, EarlierUnfinished, NoTickOpen, ClockAtLimit}
use Rattle.guarantee.specs.declared.state.JobState.{JobState}
use Rattle.guarantee.specs.declared.state.JobState.TheVariants.{Unfinished, InTime, Late}

abbrev pub refusal_number : Refusal → ℕ
refusal_number TableTaken = 8
refusal_number ListNotEmpty = 9
refusal_number CapacityBelowRows = 10
refusal_number NoTable = 11
refusal_number UnknownRow = 12
refusal_number TickOpen = 13
refusal_number TooEarly = 14
refusal_number EarlierUnfinished = 15
refusal_number NoTickOpen = 16
refusal_number ClockAtLimit = 17

abbrev pub state_number : JobState → ℕ
state_number Unfinished = 0
state_number InTime = 1
state_number Late = 2
