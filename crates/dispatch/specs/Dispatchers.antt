-- What a dispatcher stands for.
use Rattle.std.specs.Prelude.{ℕ, List}
use Rattle.dispatch.specs.declared.dispatcher.Dispatcher.{Dispatcher}
use Rattle.feasibility.specs.Contents.{rows_of}
use Rattle.feasibility.specs.declared.row.Row.{Row}
use Rattle.feasibility.specs.declared.table.Table.{Table}
use Rattle.guarantee.specs.States.{State}
use Rattle.ready.specs.Entries.{Entries}
use Rattle.ready.specs.declared.list.ReadyList.{Ghosts}
use Rattle.std.specs.Option.{option_map}

-- The rows that a table holds.
abbrev pub table_rows : Table → List Row
table_rows t = rows_of t.rows

-- The state of a dispatcher over a list of the kind L, by the list's meaning.
abbrev pub state : {L : Type 0} {g : Ghosts L} → (L → Entries) → (L → ℕ) → Dispatcher L g → State
state entries cells d = record {
  clock = d.clock;
  table = option_map table_rows d.table;
  tick = d.tick;
  states = d.states;
  entries = entries d.list;
  cells = cells d.list;
}
