-- Sums over the numbers below n.
use Rattle.std.specs.Prelude.{ℕ, zero, suc, ◌+◌, cond, ◌==◌}

-- f 0 + f 1 + .. + f (n - 1)
abbrev pub Σ< : ℕ → (ℕ → ℕ) → ℕ
Σ< zero f = 0
Σ< (suc n) f = Σ< n f + f n

-- The same without f i.
abbrev pub Σ<_but : ℕ → ℕ → (ℕ → ℕ) → ℕ
Σ<_but n i f = Σ< n (λ j. cond (j == i) 0 (f j))
