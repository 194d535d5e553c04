-- What a call promises that writes a text at the front of the caller's bytes.
use Rattle.std.specs.Prelude.{◌≡◌, ℕ, ◌≤◌, ◌<◌, max, List, length, take, slice_index, Result, MatchResult}
use Rattle.report.specs.Limits.{min_space}
use Rattle.report.specs.declared.space.NoSpace.{NoSpace}

-- From place n on, `after` is as `before` was.
abbrev pub SameFrom : ℕ → List ℕ → List ℕ → Type 0
SameFrom n before after = (k : ℕ) → n ≤ k → slice_index after k ≡ slice_index before k

-- The bytes that a text needs: its length, but not below the least space.
abbrev pub space_for : List ℕ → ℕ
space_for text = max min_space (length text)

-- There was the space that it needs: n is the text's length, the text stands at the front, and every byte after it is as
-- it was.
pub record Written (space : ℕ) (text before after : List ℕ) (n : ℕ) : Type 0 where
  pub enough : space ≤ length before
  pub answer : n ≡ length text
  pub within : n ≤ length before
  pub bytes : take n after ≡ text
  pub rest : SameFrom n before after

-- There was less, and every byte is as it was.
pub record Refused (space : ℕ) (before after : List ℕ) : Type 0 where
  pub short : length before < space
  pub unchanged : after ≡ before

abbrev pub Writes : ℕ → List ℕ → List ℕ → List ℕ → Result ℕ NoSpace → Type 0
Writes space text before after r = MatchResult r (λ n. Written space text before after n) (λ _. Refused space before after)
