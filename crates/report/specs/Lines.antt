-- The lines as bytes.
use Rattle.std.specs.Prelude.{ℕ, cond, List, [], ◌∷◌, ◌++◌, codes, decimal, ◌==◌}
use Rattle.feasibility.specs.Told.{Told}
use Rattle.std.specs.List.{flat_map}

-- A space and the number, in decimal without leading zeros.
abbrev pub spaced : ℕ → List ℕ
spaced n = 32 ∷ decimal n

-- A word, its numbers, and a line feed.
abbrev pub line_of : List ℕ → List ℕ → List ℕ
line_of word numbers = word ++ flat_map spaced numbers ++ 10 ∷ []

-- A verdict: its number and, unless that is 0, the two values that are told with it.
abbrev pub verdict_text : Told → List ℕ
verdict_text t =
    line_of (codes "verdict") (cond (t.number == 0) (0 ∷ []) (t.number ∷ t.first ∷ t.second ∷ []))

-- A fault: its number, the line of the input and the cause.
abbrev pub fault_text : ℕ → ℕ → ℕ → List ℕ
fault_text number line cause = line_of (codes "fault") (number ∷ line ∷ cause ∷ [])

-- A tick: the clock, the row and the state.
abbrev pub tick_text : ℕ → ℕ → ℕ → List ℕ
tick_text clock row state = line_of (codes "t") (clock ∷ row ∷ state ∷ [])

-- A refusal: the time, the row and the number of the refusal.
abbrev pub refusal_text : ℕ → ℕ → ℕ → List ℕ
refusal_text time row refusal = line_of (codes "no") (time ∷ row ∷ refusal ∷ [])
