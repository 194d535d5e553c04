-- The life of a dispatcher, and what is promised of it.
use Rattle.std.specs.Prelude.{◌≡◌, ℕ, ◌-◌, cond, List, [], ◌∷◌, length, IfSome, Some, None, Ok, Err, Option, MatchOption, ◌==◌}
use Rattle.feasibility.specs.declared.row.Row.{Row}
use Rattle.guarantee.specs.Histories.{History, unwritten, asked, worked, idled}
use Rattle.guarantee.specs.Promises.{Kept}
use Rattle.guarantee.specs.Rules.{Call, Take, Release, Begin, End, Spare, Reply, Proper, Step}
use Rattle.guarantee.specs.States.{State, fresh}
use Rattle.guarantee.specs.Truths.{TrueAnswer}
use Rattle.ready.specs.Entries.{Entries}
use Rattle.ready.specs.Limits.{max_row}

-- A call and its answer.
pub record Event : Type 0 where
  pub call : Call
  pub reply : Reply call

abbrev pub event : (c : Call) → Reply c → Event
event c r = record { call = c; reply = r }

-- The record of calls, the latest first, and the state that it leads to: a dispatcher is made over a list in any state,
-- and then one call comes after another.
pub data Lived : List Event → State → Type 0 where
  made : (m : Entries) (cells : ℕ) → length m ≡ max_row → Lived [] (fresh m cells)
  more :
      {log : List Event} {s : State} (c : Call) (r : Reply c) (t : State) → Lived log s → Proper c → Step s c r t →
      Lived (event c r ∷ log) t

-- What one call and its answer add to the history: an accepted release is a request of the row that it names, and an
-- accepted end is a tick, given to the last job of the row that it answers or, if it answers 0, to none.
abbrev pub heard : (c : Call) → Reply c → History → History
heard (Take rows) r h = h
heard (Release row) (Ok u) h = asked (row - 1) h
heard (Release row) (Err e) h = h
heard Begin r h = h
heard End (Ok x) h = cond (x.0 == 0) (idled h) (worked (x.0 - 1) h)
heard End (Err e) h = h
heard (Spare row) r h = h

abbrev pub history : List Event → History
history [] = unwritten
history (e ∷ log) = heard e.call e.reply (history log)

-- The table taken.
abbrev pub took : (c : Call) → Reply c → Option (List Row) → Option (List Row)
took (Take rows) (Ok u) table = Some rows
took (Take rows) (Err e) table = table
took (Release row) r table = table
took Begin r table = table
took End r table = table
took (Spare row) r table = table

abbrev pub table_taken : List Event → Option (List Row)
table_taken [] = None
table_taken (e ∷ log) = took e.call e.reply (table_taken log)

-- Before a table is taken nothing happens; from then on the promises are kept.
abbrev pub Promised : List Event → Type 0
Promised log = MatchOption (table_taken log) (history log ≡ unwritten) (λ rows. Kept rows (history log))

-- What the latest answer says is true.
abbrev pub Answered : Event → List Event → Type 0
Answered e log = IfSome (table_taken log) (λ rows. TrueAnswer rows e.call e.reply (history log))

-- At the end of the record and at every moment before.
abbrev pub Throughout : List Event → Type 0
Throughout [] = Promised []
Throughout (e ∷ log) = Promised (e ∷ log) × Answered e log × Throughout log

-- Whatever record led to the state before a call, the record with this call and its answer leads to the state after it,
-- and what is promised holds throughout.
abbrev pub LivesOn : State → (c : Call) → Reply c → State → Type 0
LivesOn s c r t = (log : List Event) → Lived log s → Lived (event c r ∷ log) t × Throughout (event c r ∷ log)
