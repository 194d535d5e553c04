-- The limit of a ready list.
use Rattle.std.specs.Prelude.{ℕ}

-- Rows are numbered from 1 to this.
abbrev pub max_row : ℕ
max_row = 32
