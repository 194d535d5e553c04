-- What a byte of a session file is.
use Rattle.std.specs.Prelude.{ℕ, Bool, cond, not, ◌&&◌, ◌||◌, ◌==◌, nat_le}
use Rattle.session.specs.declared.bytes.Kind.{Kind}
use Rattle.session.specs.declared.bytes.Kind.TheVariants.{Digit, Space, Feed, Letter, Foreign}

abbrev pub is_space : ℕ → Bool
is_space b = b == 32

abbrev pub is_feed : ℕ → Bool
is_feed b = b == 10

abbrev pub is_digit : ℕ → Bool
is_digit b = nat_le 48 b && nat_le b 57

abbrev pub is_letter : ℕ → Bool
is_letter b = nat_le 97 b && nat_le b 122

abbrev pub kind_of : ℕ → Kind
kind_of b =
    cond (is_digit b) Digit
    (cond (is_space b) Space (cond (is_feed b) Feed (cond (is_letter b) Letter Foreign)))

-- A byte of a field: any but a space and a line feed.
abbrev pub in_field : ℕ → Bool
in_field b = not (is_space b || is_feed b)
