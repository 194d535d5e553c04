-- Euclid's step, and the least common multiple that it gives.
use Rattle.std.proofs.Common.{◌≡◌, ℕ, ◌+◌, ◌*◌, ◌/◌, ◌%◌, ◌<◌, ◌≤◌, ◌⊎◌, sym, ap, ◌∙◌, inl, inr, mul-le-mul_left, mul-pos, arith}
use Rattle.feasibility.specs.Divisors.{Cancels, GreatestCommonDivisor, LeastCommonMultiple}
use Rattle.std.proofs.lemmas.Bool.{cases_eq}
use native.Mathlib.Nat.{div-add-mod, dvd_of_mod-eq-zero, le_of_mul-le-mul_left, mul-add-mod_self_left, mul-div_cancel', mul-mod_right}

-- a divisor times the quotient is the whole
pub whole : (d n : ℕ) → n % d ≡ 0 → d * (n / d) ≡ n
whole d n e = mul-div_cancel' d (dvd_of_mod-eq-zero d e)

-- a number that is d times another is divided by d
pub divided : (d k n : ℕ) → n ≡ d * k → n % d ≡ 0
divided d k n e = ap (λ x. x % d) e ∙ mul-mod_right d k

-- what divides b and what a leaves after b, divides a
pub divides_more : (d a b r : ℕ) → r ≡ a % b → b % d ≡ 0 → r % d ≡ 0 → a % d ≡ 0
divides_more d a b r is e rest =
    let below = whole d r rest in
    let times = ap (λ x. x * (a / b)) (whole d b e) in
    divided d (b / d * (a / b) + r / d) a (omega (arith, div-add-mod a b))

same : (k m n : ℕ) → 0 < k → k * m ≡ k * n → m ≡ n
same k m n pos e =
    let up : m ≤ n = le_of_mul-le-mul_left {k = k} (omega arith) pos in
    let down : n ≤ m = le_of_mul-le-mul_left {k = k} (omega arith) pos in
    omega arith

-- Euclid's step keeps what cancels
pub cancels_more : (a b r g : ℕ) → r ≡ a % b → 0 < r → Cancels b r g → Cancels a b g
cancels_more a b r g is pos below s e =
    let t : ℕ = (r * s) / b in
    let a_is : b * (a / b) + r ≡ a = omega (arith, div-add-mod a b) in
    let split : a * s ≡ b * (a / b * s) + r * s = let w = ap (λ x. x * s) a_is in omega arith in
    let left : (r * s) % b ≡ 0 = sym (mul-add-mod_self_left b (a / b * s) (r * s)) ∙ ap (λ x. x % b) (sym split) ∙ e in
    let at : b * t ≡ r * s = whole b (r * s) left in
    let next : (g * t) % r ≡ 0 = below t (divided r s (b * t) at) in
    let u : ℕ = (g * t) / r in
    let up : r * u ≡ g * t = whole r (g * t) next in
    let one = ap (λ x. g * x) at in
    let two = ap (λ x. b * x) up in
    divided b u (g * s) (same r (g * s) (b * u) pos (omega arith))

-- a over the greatest common divisor, times b, is the least common multiple
pub least_common : (a b g : ℕ) → 0 < a → 0 < b → GreatestCommonDivisor a b g → LeastCommonMultiple a b (a / g * b)
least_common a b g a_pos b_pos gcd = record {
  positive = mul-pos over (b_pos);
  first = divided a (b / g) n (omega (arith, ap (λ x. a / g * x) b_is, ap (λ x. x * (b / g)) a_is));
  second = divided b (a / g) n (omega arith);
  least = lowest;
}
  where
    n : ℕ
    n = a / g * b

    a_is : g * (a / g) ≡ a
    a_is = whole g a gcd.first

    b_is : g * (b / g) ≡ b
    b_is = whole g b gcd.second

    over : 0 < a / g
    over = at (cases_eq (a / g) 0)
      where
        at : (a / g ≡ 0) ⊎ (a / g ≡ 0 → ⊥) → 0 < a / g
        at (inl z) = omega (arith, ap (λ x. g * x) z, a_is)
        at (inr nz) = omega arith

    lowest : (m : ℕ) → 0 < m → m % a ≡ 0 → m % b ≡ 0 → n ≤ m
    lowest m pos by_a by_b =
        let s : ℕ = m / a in
        let m_is : a * s ≡ m = whole a m by_a in
        let cut : (g * s) % b ≡ 0 = gcd.greatest s (ap (λ x. x % b) m_is ∙ by_b) in
        let u : ℕ = (g * s) / b in
        let u_is : b * u ≡ g * s = whole b (g * s) cut in
        let one = ap (λ x. x * s) a_is in
        let two = ap (λ x. a / g * x) u_is in
        times u (omega arith)
      where
        times : (u : ℕ) → n * u ≡ m → n ≤ m
        times u e = at (cases_eq u 0)
          where
            at : (u ≡ 0) ⊎ (u ≡ 0 → ⊥) → n ≤ m
            at (inl z) = omega (arith, ap (λ x. n * x) z)
            at (inr nz) = omega (arith, mul-le-mul_left n (let one : 1 ≤ u = omega arith in one))
