-- How many entries there are, by the library's word for it.
use Rattle.std.proofs.Common.{◌≡◌, ◌+◌, cond, ◌∷◌, is_some, count_by, Some, None, Option, refl, arith}
use Rattle.ready.specs.Entries.{Entries, filled}
use Rattle.ready.specs.declared.entry.Slot.{Slot}
use Rattle.std.proofs.lemmas.List.Recursion.{is_count_by}

one_more : (x : Option Slot) (m : Entries) → filled (x ∷ m) ≡ cond (is_some x) (1 + filled m) (filled m)
one_more None m = refl
one_more (Some x) m = omega arith

pub filled_is : (m : Entries) → filled m ≡ count_by is_some m
filled_is = is_count_by filled is_some refl one_more
