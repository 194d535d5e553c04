-- The bytes that a reader has left, cut at the next field. What this has to do with lines and their fields is said by
-- the clause `line` of `Reader::next_field`.
use Rattle.std.specs.Prelude.{ℕ, Bool, true, cond, List, [], ◌∷◌}
use Rattle.session.specs.Bytes.{is_space, is_feed, in_field}

-- What follows the spaces at the front.
abbrev pub past_spaces : List ℕ → List ℕ
past_spaces [] = []
past_spaces (b ∷ bs) = cond (is_space b) (past_spaces bs) (b ∷ bs)

-- The longest front that can be in one field, and what follows it.
abbrev pub front_field : List ℕ → List ℕ
front_field [] = []
front_field (b ∷ bs) = cond (in_field b) (b ∷ front_field bs) []

abbrev pub past_field : List ℕ → List ℕ
past_field [] = []
past_field (b ∷ bs) = cond (in_field b) (past_field bs) (b ∷ bs)

-- Nothing is left of the line but perhaps its line feed.
abbrev pub line_over : List ℕ → Bool
line_over [] = true
line_over (b ∷ bs) = is_feed b
