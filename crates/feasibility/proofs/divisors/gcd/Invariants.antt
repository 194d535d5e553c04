use Rattle.std.proofs.Common.{◌≡◌, ℕ, ◌%◌, ◌<◌}
use Rattle.feasibility.proofs.divisors.gcd.Given as goal
use Rattle.feasibility.specs.Divisors.{Cancels}

-- what divides and what cancels at this turn's numbers does so at the first
abbrev pub invariant-loop-rest : goal.invariant-loop-rest
invariant-loop-rest l =
    (0 < l.b) × (l.rest ≡ l.a % l.b) ×
    ((g : ℕ) → l.a % g ≡ 0 → l.b % g ≡ 0 → (l.initial.a % g ≡ 0) × (l.initial.b % g ≡ 0)) ×
    ((g : ℕ) → Cancels l.a l.b g → Cancels l.initial.a l.initial.b g)

abbrev pub decreases-loop-rest : goal.decreases-loop-rest
decreases-loop-rest l = l.rest
