-- The calls of a dispatcher: what each answers, when it is refused, and what it does.
use Rattle.std.specs.Prelude.{◌≡◌, ℕ, ◌+◌, ◌-◌, ◌≤◌, min, Bool, true, false, cond, not, List, length, ℤ, pos, ◌-ℤ◌, is_some, Some, None, Ok, Err, Option, Result, ◌==◌, nat_le, nat_lt, slice_set}
use Rattle.feasibility.specs.Contents.{numbered, least_told}
use Rattle.feasibility.specs.Limits.{max_rows}
use Rattle.feasibility.specs.Schedules.{relative_deadline}
use Rattle.feasibility.specs.Tables.{blank, Sound}
use Rattle.feasibility.specs.declared.row.Row.{Row}
use Rattle.guarantee.specs.Limits.{max_clock}
use Rattle.guarantee.specs.States.{State, state_of, rows_taken, tick_row, is_open}
use Rattle.guarantee.specs.declared.refusal.Refusal.{Refusal}
use Rattle.guarantee.specs.declared.refusal.Refusal.TheVariants.{TableTaken, ListNotEmpty, CapacityBelowRows, NoTable, UnknownRow, TickOpen, TooEarly, EarlierUnfinished, NoTickOpen, ClockAtLimit}
use Rattle.guarantee.specs.declared.state.JobState.{JobState}
use Rattle.guarantee.specs.declared.state.JobState.TheVariants.{Unfinished, InTime, Late}
use Rattle.guarantee.specs.declared.state.Pending.{Pending}
use Rattle.guarantee.specs.declared.state.RowState.{RowState}
use Rattle.guarantee.specs.declared.state.Tick.TheVariants.{Closed, Open}
use Rattle.ready.specs.Entries.{Entries, put_answer, found_answer, after, slot, IsFirst, filled}
use Rattle.ready.specs.declared.entry.Entry.{Entry}

pub data Call : Type 0 where
  Take : List Row → Call
  Release : ℕ → Call
  Begin : Call
  End : Call
  Spare : ℕ → Call

-- What a call answers.
abbrev pub Reply : Call → Type 0
Reply (Take rows) = Result (Unit {0}) Refusal
Reply (Release row) = Result (Unit {0}) Refusal
Reply Begin = Result ℕ Refusal
Reply End = Result (ℕ × JobState) Refusal
Reply (Spare row) = Result (Option ℤ) Refusal

-- What every table that can be taken keeps.
abbrev pub Proper : Call → Type 0
Proper (Take rows) = (length rows ≤ max_rows) × Sound rows
Proper (Release row) = Unit {0}
Proper Begin = Unit {0}
Proper End = Unit {0}
Proper (Spare row) = Unit {0}

-- The row of a number in the table taken, if there is one.
abbrev pub row_in : State → ℕ → Option Row
row_in s row = numbered (rows_taken s.table) row

abbrev pub known : Option Row → Row
known None = blank
known (Some x) = x

-- When a call is refused, in the order of the tests.

abbrev pub take_refusal : State → List Row → Option Refusal
take_refusal s rows =
    cond (is_some s.table) (Some TableTaken)
    (cond (not (filled s.entries == 0)) (Some ListNotEmpty)
    (cond (nat_lt s.cells (length rows)) (Some CapacityBelowRows) None))

-- The clock is below the last request + period.
abbrev pub too_early : ℕ → ℕ → Option ℕ → Bool
too_early clock period None = false
too_early clock period (Some last) = nat_lt clock (last + period)

abbrev pub release_refusal : State → ℕ → Option Refusal
release_refusal s row =
    cond (not (is_some s.table)) (Some NoTable)
    (cond (not (is_some (row_in s row))) (Some UnknownRow)
    (cond (is_open s.tick) (Some TickOpen)
    (cond (too_early s.clock (known (row_in s row)).period (state_of s row).last) (Some TooEarly)
    (cond (is_some (state_of s row).job) (Some EarlierUnfinished) None))))

abbrev pub begin_refusal : State → Option Refusal
begin_refusal s =
    cond (not (is_some s.table)) (Some NoTable)
    (cond (is_open s.tick) (Some TickOpen) (cond (s.clock == max_clock) (Some ClockAtLimit) None))

abbrev pub end_refusal : State → Option Refusal
end_refusal s =
    cond (not (is_some s.table)) (Some NoTable) (cond (not (is_open s.tick)) (Some NoTickOpen) None)

abbrev pub spare_refusal : State → ℕ → Option Refusal
spare_refusal s row =
    cond (not (is_some s.table)) (Some NoTable) (cond (not (is_some (row_in s row))) (Some UnknownRow) None)

-- What an accepted call does.

abbrev pub taken : State → List Row → State
taken s rows = record {
  clock = s.clock;
  table = Some rows;
  tick = s.tick;
  states = s.states;
  entries = s.entries;
  cells = s.cells;
}

-- A new job: due its relative deadline after the clock, with its whole cost left; its entry is put with the due time.
abbrev pub released : State → ℕ → Row → State
released s row x =
    let due = s.clock + relative_deadline x in
    record {
      clock = s.clock;
      table = s.table;
      tick = s.tick;
      states =
          slice_set s.states (row - 1)
          (record { last = Some s.clock; job = Some (record { due = due; left = x.cost }) });
      entries = after (put_answer s.cells s.entries row) s.entries row (Some (slot due false));
      cells = s.cells;
    }

-- The lower of a deadline and clock + 1 + the least period of the store's users, if there is a store.
abbrev pub lowered : ℕ → ℕ → Option ℕ → ℕ
lowered clock d None = d
lowered clock d (Some period) = min d (clock + 1 + period)

-- The deadline of an entry that is begun now.
abbrev pub begun_deadline : State → Entry → ℕ
begun_deadline s e =
    lowered s.clock e.deadline (least_told (rows_taken s.table) (known (row_in s e.row)).store)

-- An entry that is not begun is marked.
abbrev pub marked : State → Entry → Entries
marked s e =
    cond e.begun s.entries
    (after (found_answer s.entries e.row) s.entries e.row (Some (slot (begun_deadline s e) true)))

abbrev pub first_row : Option Entry → ℕ
first_row None = 0
first_row (Some e) = e.row

abbrev pub first_marked : State → Option Entry → Entries
first_marked s None = s.entries
first_marked s (Some e) = marked s e

-- A tick is opened on the first entry's row.
abbrev pub begun : State → Option Entry → State
begun s e = record {
  clock = s.clock;
  table = s.table;
  tick = Open (first_row e);
  states = s.states;
  entries = first_marked s e;
  cells = s.cells;
}

-- The tick is closed and the clock goes on.
abbrev pub closed : State → List RowState → Entries → State
closed s states m = record {
  clock = s.clock + 1;
  table = s.table;
  tick = Closed;
  states = states;
  entries = m;
  cells = s.cells;
}

abbrev pub with_job : State → ℕ → Option Pending → List RowState
with_job s row b = slice_set s.states (row - 1) (record { last = (state_of s row).last; job = b })

-- A unit less is left of the row's job; at none left it is finished and its entry removed.
abbrev pub unit_given : State → ℕ → Option Pending → State
unit_given s row None = closed s s.states s.entries
unit_given s row (Some b) =
    cond (nat_le b.left 1)
    (closed s (with_job s row None) (after (found_answer s.entries row) s.entries row None))
    (closed s (with_job s row (Some (record { due = b.due; left = b.left - 1 }))) s.entries)

abbrev pub ended : State → ℕ → State
ended s row = cond (row == 0) (closed s s.states s.entries) (unit_given s row (state_of s row).job)

-- What is told of the job that got the unit.
abbrev pub unit_told : ℕ → Option Pending → JobState
unit_told clock None = Unfinished
unit_told clock (Some b) = cond (nat_le b.left 1) (cond (nat_le clock b.due) InTime Late) Unfinished

abbrev pub end_told : State → ℕ → JobState
end_told s row = cond (row == 0) Unfinished (unit_told (s.clock + 1) (state_of s row).job)

-- The due time less the clock less the units left.
abbrev pub slack : ℕ → Option Pending → Option ℤ
slack clock None = None
slack clock (Some b) = Some (pos b.due -ℤ pos clock -ℤ pos b.left)

-- A refusal is answered and leaves all as it was; if there is none, what is accepted holds.
abbrev pub Ruled : {A : Type 0} → Option Refusal → State → Result A Refusal → State → Type 0 → Type 0
Ruled None s r t accepted = accepted
Ruled (Some e) s r t accepted = (r ≡ Err e) × (t ≡ s)

-- The call c in the state s is answered r and leads to the state t.
abbrev pub Step : State → (c : Call) → Reply c → State → Type 0
Step s (Take rows) r t = Ruled (take_refusal s rows) s r t ((r ≡ Ok tt) × (t ≡ taken s rows))
Step s (Release row) r t =
    Ruled (release_refusal s row) s r t ((r ≡ Ok tt) × (t ≡ released s row (known (row_in s row))))
Step s Begin r t =
    Ruled (begin_refusal s) s r t
    ((e : Option Entry) × IsFirst s.entries e × (r ≡ Ok (first_row e)) × (t ≡ begun s e))
Step s End r t =
    let row = tick_row s.tick in
    Ruled (end_refusal s) s r t ((r ≡ Ok (row, end_told s row)) × (t ≡ ended s row))
Step s (Spare row) r t =
    Ruled (spare_refusal s row) s r t ((r ≡ Ok (slack s.clock (state_of s row).job)) × (t ≡ s))
