-- Laws above the definitions, over every file.
use Rattle.std.specs.Prelude.{◌≡◌, ℕ, List, drop, Some}
use Rattle.feasibility.specs.declared.row.Row.{Row}
use Rattle.session.specs.Faults.{told_fault}
use Rattle.session.specs.Lines.{next_line}
use Rattle.session.specs.Places.{LineAt}
use Rattle.session.specs.Sessions.{IsSession, IsFault}
use Rattle.session.specs.declared.arrival.Arrival.{Arrival}
use Rattle.session.specs.declared.fault.Fault.{Fault}

-- A file has at most one answer: it is not two sessions, not both a session and faulty, and its faults are told alike.
abbrev pub OneAnswer : Type 0
OneAnswer =
    (bs : List ℕ) →
    ((rows rows' : List Row) (t t' : ℕ) (xs xs' : List Arrival) → IsSession bs rows t xs →
    IsSession bs rows' t' xs' → (rows ≡ rows') × (t ≡ t') × (xs ≡ xs')) ×
    ((rows : List Row) (t : ℕ) (xs : List Arrival) (f : Fault) → IsSession bs rows t xs → IsFault bs f → ⊥) ×
    ((f f' : Fault) → IsFault bs f → IsFault bs f' → told_fault f ≡ told_fault f')

-- What can be answered of a file, and that the answer is right.
pub data Answer : Type 0 where
  session : List Row → ℕ → List Arrival → Answer
  faulty : Fault → Answer

abbrev pub Answers : List ℕ → Answer → Type 0
Answers bs (session rows ticks arrivals) = IsSession bs rows ticks arrivals
Answers bs (faulty f) = IsFault bs f

-- Of every list of bytes exactly one answer is right.
abbrev pub ExactlyOneAnswer : Type 0
ExactlyOneAnswer = (bs : List ℕ) → (a : Answer) × Answers bs a × ((b : Answer) → Answers bs b → b ≡ a)

-- From place i on stands a line with these fields, and rest follows it.
pub record Stands (bs : List ℕ) (i : ℕ) (fields : List (List ℕ)) (rest : List ℕ) : Type 0 where
  pub places : List ℕ
  pub end : ℕ
  pub line : LineAt bs i fields places end
  pub after : rest ≡ drop end bs

-- The fields of a line are parts of the file at their places: in any file and from any place on, `next_line` tells
-- these fields exactly if they stand there.
abbrev pub FieldsAreParts : Type 0
FieldsAreParts =
    (bs : List ℕ) (i : ℕ) (fields : List (List ℕ)) (rest : List ℕ) →
    (next_line (drop i bs) ≡ Some (fields, rest) → Stands bs i fields rest) ×
    (Stands bs i fields rest → next_line (drop i bs) ≡ Some (fields, rest))
