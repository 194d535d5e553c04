-- How many ticks are open: none or one.
use Rattle.std.specs.Prelude.{ℕ}
use Rattle.guarantee.specs.declared.state.Tick.{Tick}
use Rattle.guarantee.specs.declared.state.Tick.TheVariants.{Closed, Open}

abbrev pub ticks_open : Tick → ℕ
ticks_open Closed = 0
ticks_open (Open row) = 1
