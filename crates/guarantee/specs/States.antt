-- A dispatcher, by what it stands for.
use Rattle.std.specs.Prelude.{ℕ, ◌-◌, Bool, true, false, List, [], replicate, Some, None, Option, slice_index_or}
use Rattle.feasibility.specs.declared.row.Row.{Row}
use Rattle.guarantee.specs.declared.state.RowState.{RowState}
use Rattle.guarantee.specs.declared.state.Tick.{Tick}
use Rattle.guarantee.specs.declared.state.Tick.TheVariants.{Closed, Open}
use Rattle.ready.specs.Entries.{Entries}
use Rattle.ready.specs.Limits.{max_row}

-- The clock; the rows of the table, if one is taken; the tick; what is kept of each row, of row k at place k - 1; and
-- the ready list's entries and capacity.
pub record State : Type 0 where
  pub clock : ℕ
  pub table : Option (List Row)
  pub tick : Tick
  pub states : List RowState
  pub entries : Entries
  pub cells : ℕ

-- Of a row that was never requested.
abbrev pub unasked : RowState
unasked = record { last = None; job = None }

-- A dispatcher just made over a list in any state.
abbrev pub fresh : Entries → ℕ → State
fresh m cells = record {
  clock = 0;
  table = None;
  tick = Closed;
  states = replicate max_row unasked;
  entries = m;
  cells = cells;
}

abbrev pub state_of : State → ℕ → RowState
state_of s row = slice_index_or s.states (row - 1) unasked

-- The rows of the table, none if there is none.
abbrev pub rows_taken : Option (List Row) → List Row
rows_taken None = []
rows_taken (Some rows) = rows

-- The row of an open tick.
abbrev pub tick_row : Tick → ℕ
tick_row Closed = 0
tick_row (Open row) = row

abbrev pub is_open : Tick → Bool
is_open Closed = false
is_open (Open row) = true
