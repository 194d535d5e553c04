-- The limits of a table.
use Rattle.std.specs.Prelude.{ℕ}

abbrev pub max_rows : ℕ
max_rows = 32

abbrev pub max_period : ℕ
max_period = 65535

abbrev pub max_store : ℕ
max_store = 8

abbrev pub max_hyperperiod : ℕ
max_hyperperiod = 1000000000
