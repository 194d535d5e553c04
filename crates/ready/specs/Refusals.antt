-- The numbers by which a ready list's refusals are told.
use Rattle.std.specs.Prelude.{ℕ}
use Rattle.ready.specs.declared.refusal.ListRefusal.{ListRefusal}
use Rattle.ready.specs.declared.refusal.ListRefusal.TheVariants.{RowOutside, HasEntry, NoEntry, Full}

abbrev pub list_refusal_number : ListRefusal → ℕ
list_refusal_number RowOutside = 18
list_refusal_number HasEntry = 19
list_refusal_number NoEntry = 20
list_refusal_number Full = 21
