use Rattle.std.proofs.Common.{◌≡◌, ℕ, ◌<◌, ◌≤◌, None}
use Rattle.feasibility.proofs.rows.Rows.first_failing.Given as goal
use Rattle.feasibility.specs.Contents.{rows_of}
use Rattle.feasibility.specs.Verdicts.{Tried, needed}

-- no row before this one fails at any length
abbrev pub invariant-search : goal.invariant-search
invariant-search l =
    (l.found ≡ None) × ((k m : ℕ) → k < l.place → Tried (rows_of l.self) k m → needed (rows_of l.self) k m ≤ m)

-- and this one at no length before this
abbrev pub invariant-loop-length : goal.invariant-loop-length
invariant-loop-length l =
    (l.found ≡ None) × ((m : ℕ) → m < l.length → Tried (rows_of l.self) l.place m → needed (rows_of l.self) l.place m ≤ m)
