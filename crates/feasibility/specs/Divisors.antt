-- Divisors and multiples of two numbers. d divides n exactly when n % d is 0.
use Rattle.std.specs.Prelude.{◌≡◌, ℕ, ◌*◌, ◌%◌, ◌<◌, ◌≤◌}

-- Where b divides a multiple of a, it divides the same multiple of g: g has all that a and b share.
abbrev pub Cancels : ℕ → ℕ → ℕ → Type 0
Cancels a b g = (s : ℕ) → (a * s) % b ≡ 0 → (g * s) % b ≡ 0

-- g is the greatest common divisor of a and b, put as the least common multiple needs it.
pub record GreatestCommonDivisor (a b g : ℕ) : Type 0 where
  pub positive : 0 < g
  pub first : a % g ≡ 0
  pub second : b % g ≡ 0
  pub greatest : Cancels a b g

-- n is the least positive number that a and b divide.
pub record LeastCommonMultiple (a b n : ℕ) : Type 0 where
  pub positive : 0 < n
  pub first : n % a ≡ 0
  pub second : n % b ≡ 0
  pub least : (m : ℕ) → 0 < m → m % a ≡ 0 → m % b ≡ 0 → n ≤ m
