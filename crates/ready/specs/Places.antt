-- What stands at which place.
use Rattle.std.specs.Prelude.{ℕ, ◌+◌, ◌-◌, cond, fold, None, Option, option_map, Ok, Err, Result}
use Rattle.ready.specs.Entries.{Entries, entry, has, outside}
use Rattle.ready.specs.Order.{sooner}
use Rattle.ready.specs.declared.entry.Entry.{Entry}
use Rattle.ready.specs.declared.refusal.ListRefusal.TheVariants.{RowOutside, NoEntry}
use Rattle.ready.specs.declared.refusal.ListRefusal.{ListRefusal}
use Rattle.std.specs.List.{enumerate_from, filter_map}

-- The place of a row's slot, if the row is from 1 to 32.
abbrev pub place_of : ℕ → Result ℕ ListRefusal
place_of row = cond (outside row) (Err RowOutside) (Ok (row - 1))

-- The same for a row that has an entry.
abbrev pub found_place : Entries → ℕ → Result ℕ ListRefusal
found_place m row = cond (outside row) (Err RowOutside) (cond (has m row) (Ok (row - 1)) (Err NoEntry))

-- The earliest entry, as a search from the first place on comes to it.
abbrev pub earliest : Entries → Option Entry
earliest m = fold sooner None (filter_map (λ p. option_map (entry (p.0 + 1)) p.1) (enumerate_from 0 m))
