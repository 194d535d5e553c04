-- Numbers: 1 to 9 digits, leading zeros allowed.
use Rattle.std.specs.Prelude.{◌≡◌, ℕ, ◌+◌, ◌-◌, ◌*◌, ◌≤◌, Bool, true, cond, ◌&&◌, List, [], ◌∷◌, length, Some, None, Option, nat_le}
use Rattle.session.specs.Bytes.{is_digit}
use Rattle.session.specs.Limits.{max_number}

abbrev pub all_digits : List ℕ → Bool
all_digits [] = true
all_digits (b ∷ bs) = is_digit b && all_digits bs

abbrev pub is_number : List ℕ → Bool
is_number bs = nat_le 1 (length bs) && (nat_le (length bs) 9 && all_digits bs)

-- The value of n followed by some digits.
abbrev pub value_after : ℕ → List ℕ → ℕ
value_after n [] = n
value_after n (b ∷ bs) = value_after (n * 10 + (b - 48)) bs

-- The number that a field is, if it is one.
abbrev pub number_in : List ℕ → Option ℕ
number_in bs = cond (is_number bs) (Some (value_after 0 bs)) None

-- A field is the number n, and so within the limit.
abbrev pub NumberOf : List ℕ → ℕ → Type 0
NumberOf bs n = (number_in bs ≡ Some n) × (n ≤ max_number)
