-- The numbers by which refusals are told.
use Rattle.std.specs.Prelude.{ℕ}
use Rattle.feasibility.specs.declared.row.RowRefusal.{RowRefusal}
use Rattle.feasibility.specs.declared.row.RowRefusal.TheVariants.{Cost, Period, Store, Full, Hyperperiod}

abbrev pub refusal_number : RowRefusal → ℕ
refusal_number Cost = 1
refusal_number Period = 2
refusal_number Store = 3
refusal_number Full = 4
refusal_number Hyperperiod = 5
