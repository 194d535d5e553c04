-- The meaning of a ready list: its entries, at most one for each row, and a fixed capacity.
use Rattle.std.specs.Prelude.{◌≡◌, ℕ, ◌+◌, ◌-◌, ◌≤◌, Bool, false, cond, ◌||◌, List, [], ◌∷◌, is_some, Some, None, Ok, Err, Option, Result, MatchOption, ◌==◌, nat_lt, slice_index_or, slice_set}
use Rattle.ready.specs.Limits.{max_row}
use Rattle.ready.specs.Order.{before}
use Rattle.ready.specs.declared.entry.Entry.{Entry}
use Rattle.ready.specs.declared.entry.Slot.{Slot}
use Rattle.ready.specs.declared.refusal.ListRefusal.{ListRefusal}
use Rattle.ready.specs.declared.refusal.ListRefusal.TheVariants.{RowOutside, HasEntry, NoEntry, Full}

-- For each row from 1 to 32 the deadline and the mark of its entry, if it has one: row k stands at place k - 1.
abbrev pub Entries : Type 0
Entries = List (Option Slot)

abbrev pub slot : ℕ → Bool → Slot
slot d b = record { deadline = d; begun = b }

abbrev pub held : Entries → ℕ → Option Slot
held m row = slice_index_or m (row - 1) None

abbrev pub has : Entries → ℕ → Bool
has m row = is_some (held m row)

abbrev pub outside : ℕ → Bool
outside row = nat_lt row 1 || nat_lt max_row row

-- How many entries there are.
abbrev pub filled : Entries → ℕ
filled [] = 0
filled (None ∷ m) = filled m
filled (Some x ∷ m) = filled m + 1

-- Put refuses a row outside 1 to 32, a row that has an entry, and any row if the count equals the capacity.
abbrev pub put_answer : ℕ → Entries → ℕ → Result (Unit {0}) ListRefusal
put_answer cells m row =
    cond (outside row) (Err RowOutside)
    (cond (has m row) (Err HasEntry) (cond (filled m == cells) (Err Full) (Ok tt)))

-- Mark and remove refuse a row outside 1 to 32 and a row that has no entry.
abbrev pub found_answer : Entries → ℕ → Result (Unit {0}) ListRefusal
found_answer m row = cond (outside row) (Err RowOutside) (cond (has m row) (Ok tt) (Err NoEntry))

-- The entries after a call that answers r: with x for the row, or as they were if it is refused.
abbrev pub after : Result (Unit {0}) ListRefusal → Entries → ℕ → Option Slot → Entries
after (Ok u) m row x = slice_set m (row - 1) x
after (Err e) m row x = m

-- The entry of a row.
abbrev pub entry : ℕ → Slot → Entry
entry row x = record { row = row; deadline = x.deadline; begun = x.begun }

-- e is an entry, and none comes before it.
pub record First (m : Entries) (e : Entry) : Type 0 where
  pub low : 1 ≤ e.row
  pub high : e.row ≤ max_row
  pub is : held m e.row ≡ Some (slot e.deadline e.begun)
  pub least : (row : ℕ) (x : Slot) → 1 ≤ row → row ≤ max_row → held m row ≡ Some x → before (entry row x) e ≡ false

-- The first entry is told, or that there is none.
abbrev pub IsFirst : Entries → Option Entry → Type 0
IsFirst m r = MatchOption r (filled m ≡ 0) (First m)
