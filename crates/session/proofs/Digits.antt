-- Steps of the loop that reads a number.
use Rattle.std.proofs.Common.{ℕ, ◌+◌, ◌*◌, ◌^◌, ◌<◌, ◌≤◌, arith}
use Rattle.session.specs.Limits.{max_number}
use native.Mathlib.Nat.{pow-le-pow_right}

-- nine digits fit 32 bits
pub room : (n i : ℕ) → n < 10 ^ i → i < 9 → n * 10 + 9 < 2 ^ 32
room n i h l = omega (arith, pow-le-pow_right {n = 10} (omega arith) {i = i} {j = 8} (omega arith))

pub nine : (n i : ℕ) → n < 10 ^ i → i ≤ 9 → n ≤ max_number
nine n i h l = omega (arith, pow-le-pow_right {n = 10} (omega arith) {i = i} {j = 9} l)
