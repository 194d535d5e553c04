-- What the tick admits.
use Rattle.std.specs.Prelude.{ℕ, Ok, Err, Result}
use Rattle.dispatch.specs.declared.dispatcher.steps.Act.{Act}
use Rattle.dispatch.specs.declared.dispatcher.steps.Act.TheVariants.{Release, Begin, End}
use Rattle.guarantee.specs.declared.refusal.Refusal.{Refusal}
use Rattle.guarantee.specs.declared.refusal.Refusal.TheVariants.{TickOpen, NoTickOpen}
use Rattle.guarantee.specs.declared.state.Tick.{Tick}
use Rattle.guarantee.specs.declared.state.Tick.TheVariants.{Closed, Open}

-- A release and a begin want the tick closed; an end wants it open, and gets its row.
abbrev pub admission : Tick → Act → Result ℕ Refusal
admission Closed Release = Ok 0
admission Closed Begin = Ok 0
admission Closed End = Err NoTickOpen
admission (Open row) Release = Err TickOpen
admission (Open row) Begin = Err TickOpen
admission (Open row) End = Ok row
