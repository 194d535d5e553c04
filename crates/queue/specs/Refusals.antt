-- The number by which a queue's refusal is told.
use Rattle.std.specs.Prelude.{ℕ}

abbrev pub full_number : ℕ
full_number = 21
