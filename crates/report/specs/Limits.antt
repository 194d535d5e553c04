-- The least space that a line is written into, and the number by which the want of space is told.
use Rattle.std.specs.Prelude.{ℕ}

abbrev pub min_space : ℕ
min_space = 40

abbrev pub no_space_number : ℕ
no_space_number = 27
