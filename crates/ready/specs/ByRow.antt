-- Entries in any order, as a queue holds them, and what they say of each row.
use Rattle.std.specs.Prelude.{◌≡◌, ℕ, ◌+◌, ◌≤◌, cond, List, [], ◌∷◌, map, length, Some, None, count_by, Option, Result, Err, position, ◌==◌, nat_eq, nat_lt, refl}
use Rattle.ready.specs.Entries.{Entries, slot, outside}
use Rattle.ready.specs.Limits.{max_row}
use Rattle.ready.specs.declared.entry.Entry.{Entry}
use Rattle.ready.specs.declared.entry.Slot.{Slot}
use Rattle.ready.specs.declared.refusal.ListRefusal.TheVariants.{RowOutside, NoEntry}
use Rattle.ready.specs.declared.refusal.ListRefusal.{ListRefusal}
use Rattle.std.specs.List.{range_with_len}
use Rattle.std.specs.Option.{ok_or}

-- How many have the row.
abbrev pub count_of : List Entry → ℕ → ℕ
count_of es row = count_by (λ e. nat_eq e.row row) es

-- Every row is from 1 to 32, and no two have the same.
abbrev pub RowsOnce : List Entry → Type 0
RowsOnce es = (row : ℕ) → count_of es row ≤ cond (outside row) 0 1

-- The deadline and the mark of the first that has the row.
abbrev pub entry_of : List Entry → ℕ → Option Slot
entry_of [] row = None
entry_of (e ∷ es) row = cond (e.row == row) (Some (slot e.deadline e.begun)) (entry_of es row)

-- The same for each row from 1 to 32.
unfoldable pub by_row : List Entry → Entries
by_row es = map (λ k. entry_of es (k + 1)) (range_with_len 0 max_row)

pub length_by_row : (es : List Entry) → length (by_row es) ≡ max_row
unfolding by_row
length_by_row es = refl

-- The cell of the first entry that has the row, or why there is none.
abbrev pub found_cell : List Entry → ℕ → Result ℕ ListRefusal
found_cell es row = cond (outside row) (Err RowOutside) (ok_or (position (λ e. e.row == row) es) NoEntry)

-- The capacity of a list that has n cells.
abbrev pub capacity_of : ℕ → ℕ
capacity_of n = cond (nat_lt n max_row) n max_row
