-- The limit of a dispatcher.
use Rattle.std.specs.Prelude.{ℕ}

abbrev pub max_clock : ℕ
max_clock = 1000000000
