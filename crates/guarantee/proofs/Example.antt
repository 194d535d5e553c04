-- The example session, call by call.
use Rattle.std.proofs.Common.{◌≡◌, ℕ, ◌+◌, ◌-◌, ◌≤◌, Bool, true, false, not, get_or, replicate, Some, None, Ok, Err, Option, refl, arith}
use Rattle.feasibility.proofs.CaseTests.{all<, all<_at, example_stands_lem}
use Rattle.feasibility.specs.Cases.{Stands, case_j}
use Rattle.guarantee.specs.Cases.{session_j, CaseJStands}
use Rattle.guarantee.specs.Lives.{Lived, made, more}
use Rattle.guarantee.specs.Rules.{Take, Release, Begin, End, taken, released, begun, ended, known, row_in}
use Rattle.guarantee.specs.States.{State, fresh}
use Rattle.guarantee.specs.declared.refusal.Refusal.TheVariants.{TooEarly}
use Rattle.guarantee.specs.declared.state.JobState.TheVariants.{Unfinished, InTime}
use Rattle.ready.specs.Entries.{Entries, First, entry, held, slot}
use Rattle.ready.specs.Limits.{max_row}
use Rattle.ready.specs.Order.{before}
use Rattle.ready.specs.declared.entry.Entry.{Entry}
use Rattle.ready.specs.declared.entry.Slot.{Slot}
use Rattle.std.proofs.lemmas.Bool.{not-true}

-- whether an entry, if there is one, does not come before e
abbrev behind : Option Slot → ℕ → Entry → Bool
behind None row e = true
behind (Some x) row e = not (before (entry row x) e)

abbrev leads : Entries → Entry → Bool
leads m e = all< max_row (λ k. behind (get_or m k None) (k + 1) e)

-- a first entry, by a test
first_shows :
    (m : Entries) (e : Entry) → 1 ≤ e.row → e.row ≤ max_row → held m e.row ≡ Some (slot e.deadline e.begun) →
    leads m e ≡ true → First m e
first_shows m e low high is test =
    record {
      low = low;
      high = high;
      is = is;
      least = λ row x l h at. not-true (before (entry row x) e) (shown row x l h at);
    }
  where
    shown :
        (row : ℕ) (x : Slot) → 1 ≤ row → row ≤ max_row → held m row ≡ Some x → not (before (entry row x) e) ≡ true
    shown row x l h at =
        let z : row - 1 + 1 ≡ row = omega arith in
        let t : behind (held m row) (row - 1 + 1) e ≡ true
        = (all<_at max_row (λ k. behind (get_or m k None) (k + 1) e)).0 test (row - 1) (omega arith) in
        rw z at (rw at at t)

abbrev start : State
start = fresh (replicate max_row None) max_row

-- the first entries, as the ticks begin
abbrev ranked : ℕ → ℕ → Bool → Entry
ranked row d b = record { row = row; deadline = d; begun = b }

-- the states, one after each call that changed something
abbrev s₀ : State
s₀ = taken start case_j.rows

abbrev s₁ : State
s₁ = released s₀ 3 (known (row_in s₀ 3))

abbrev s₂ : State
s₂ = begun s₁ (Some (ranked 3 12 false))

abbrev s₃ : State
s₃ = ended s₂ 3

abbrev s₄ : State
s₄ = released s₃ 1 (known (row_in s₃ 1))

abbrev s₅ : State
s₅ = released s₄ 2 (known (row_in s₄ 2))

abbrev s₆ : State
s₆ = begun s₅ (Some (ranked 1 5 false))

abbrev s₇ : State
s₇ = ended s₆ 1

abbrev s₈ : State
s₈ = begun s₇ (Some (ranked 3 7 true))

abbrev s₉ : State
s₉ = ended s₈ 3

abbrev s₁₀ : State
s₁₀ = begun s₉ (Some (ranked 2 7 false))

abbrev s₁₁ : State
s₁₁ = ended s₁₀ 2

abbrev s₁₂ : State
s₁₂ = begun s₁₁ (Some (ranked 2 7 true))

abbrev s₁₃ : State
s₁₃ = ended s₁₂ 2

abbrev s₁₄ : State
s₁₄ = begun s₁₃ None

abbrev s₁₅ : State
s₁₅ = ended s₁₄ 0

abbrev s₁₆ : State
s₁₆ = begun s₁₅ None

abbrev s₁₇ : State
s₁₇ = ended s₁₆ 0

table : Stands case_j
table = example_stands_lem

life : Lived session_j s₁₇
life =
    more (End) (Ok (0, Unfinished)) s₁₇ (
    more (Begin) (Ok 0) s₁₆ (
    more (End) (Ok (0, Unfinished)) s₁₅ (
    more (Begin) (Ok 0) s₁₄ (
    more (End) (Ok (2, InTime)) s₁₃ (
    more (Begin) (Ok 2) s₁₂ (
    more (End) (Ok (2, Unfinished)) s₁₁ (
    more (Begin) (Ok 2) s₁₀ (
    more (Release 1) (Err TooEarly) s₉ (
    more (End) (Ok (3, InTime)) s₉ (
    more (Begin) (Ok 3) s₈ (
    more (End) (Ok (1, InTime)) s₇ (
    more (Begin) (Ok 1) s₆ (
    more (Release 2) (Ok tt) s₅ (
    more (Release 1) (Ok tt) s₄ (
    more (End) (Ok (3, Unfinished)) s₃ (
    more (Begin) (Ok 3) s₂ (
    more (Release 3) (Ok tt) s₁ (
    more (Take case_j.rows) (Ok tt) s₀ (made (replicate max_row None) max_row refl) (table.room, table.sound) (refl, refl)
    ) tt (refl, refl)
    ) tt (Some (ranked 3 12 false), first_shows s₁.entries (ranked 3 12 false) (omega arith) (omega arith) refl refl, refl, refl)
    ) tt (refl, refl)
    ) tt (refl, refl)
    ) tt (refl, refl)
    ) tt (Some (ranked 1 5 false), first_shows s₅.entries (ranked 1 5 false) (omega arith) (omega arith) refl refl, refl, refl)
    ) tt (refl, refl)
    ) tt (Some (ranked 3 7 true), first_shows s₇.entries (ranked 3 7 true) (omega arith) (omega arith) refl refl, refl, refl)
    ) tt (refl, refl)
    ) tt (refl, refl)
    ) tt (Some (ranked 2 7 false), first_shows s₉.entries (ranked 2 7 false) (omega arith) (omega arith) refl refl, refl, refl)
    ) tt (refl, refl)
    ) tt (Some (ranked 2 7 true), first_shows s₁₁.entries (ranked 2 7 true) (omega arith) (omega arith) refl refl, refl, refl)
    ) tt (refl, refl)
    ) tt (None, refl, refl, refl)
    ) tt (refl, refl)
    ) tt (None, refl, refl, refl)
    ) tt (refl, refl)

pub case_j_stands_lem : CaseJStands
case_j_stands_lem =
    record {
      table = table;
      lived = record { state = s₁₇; lived = life; clock_reads = refl; capacity = refl; unfinished = refl };
    }
