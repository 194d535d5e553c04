-- The kinds of line that a session has, and what can be wrong with one: some words and then so many numbers.
use Rattle.std.specs.Prelude.{◌≡◌, ℕ, ◌≢◌, List, [], ◌∷◌, ◌++◌, length, Some}
use Rattle.session.specs.Lines.{next_line}
use Rattle.session.specs.Numbers.{number_in}
use Rattle.session.specs.declared.fault.LineFault.{LineFault}
use Rattle.session.specs.declared.fault.LineFault.TheVariants.{Shape, Field, Row, Limit}

-- The fields are these numbers, one by one.
abbrev pub AreNumbers : List (List ℕ) → List ℕ → Type 0
AreNumbers [] [] = Unit {0}
AreNumbers [] (n ∷ ns) = ⊥
AreNumbers (f ∷ fs) [] = ⊥
AreNumbers (f ∷ fs) (n ∷ ns) = (number_in f ≡ Some n) × AreNumbers fs ns

-- The first line of bs is these words and then these numbers; rest is what follows the line.
pub record LineOf (words : List (List ℕ)) (bs ns rest : List ℕ) : Type 0 where
  pub fields : List (List ℕ)
  pub line : next_line bs ≡ Some (words ++ fields, rest)
  pub numbers : AreNumbers fields ns

-- The first line of bs, if there is one, is not these words and n fields more.
abbrev pub Misshapen : List (List ℕ) → ℕ → List ℕ → Type 0
Misshapen words n bs =
    (fields : List (List ℕ)) (rest : List ℕ) → next_line bs ≡ Some (words ++ fields, rest) → length fields ≢ n

-- The first line of bs is these words and n fields more, and not all of these fields are numbers.
pub record NoNumbers (words : List (List ℕ)) (n : ℕ) (bs : List ℕ) : Type 0 where
  pub fields : List (List ℕ)
  pub rest : List ℕ
  pub line : next_line bs ≡ Some (words ++ fields, rest)
  pub count : length fields ≡ n
  pub not_all : (ns : List ℕ) → AreNumbers fields ns → ⊥

-- The fault of a line where these words and n numbers belong: its shape is tested first.
abbrev pub WrongLine : List (List ℕ) → ℕ → List ℕ → LineFault → Type 0
WrongLine words n bs Shape = Misshapen words n bs
WrongLine words n bs (Field e) = NoNumbers words n bs
WrongLine words n bs (Row e) = ⊥
WrongLine words n bs Limit = ⊥
