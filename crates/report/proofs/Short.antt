-- A line of three numbers of 32 bits fits the least space.
use Rattle.std.proofs.Common.{◌≡◌, ℕ, ◌^◌, ◌<◌, ◌≤◌, List, [], ◌∷◌, length, decimal, slice_index_or, arith, length-append}
use Rattle.report.specs.Limits.{min_space}
use Rattle.report.specs.Lines.{line_of}
use Rattle.report.specs.Writes.{space_for}
use Rattle.std.proofs.lemmas.Fmt.{length-decimal-le}

at_most_ten : (n : ℕ) → n < 2 ^ 32 → length (decimal n) ≤ 10
at_most_ten n f = length-decimal-le 10 n (omega arith) (omega arith) (omega arith)

short_length :
    (word : List ℕ) (a b d : ℕ) → length word ≤ 5 → a < 2 ^ 32 → b < 2 ^ 32 → d < 2 ^ 32 →
    length (line_of word (a ∷ b ∷ d ∷ [])) ≤ min_space
short_length word a b d h ha hb hd =
    simp length-append (omega (arith, at_most_ten a ha, at_most_ten b hb, at_most_ten d hd))

pub short_line :
    (word : List ℕ) (a b d : ℕ) → length word ≤ 5 → a < 2 ^ 32 → b < 2 ^ 32 → d < 2 ^ 32 →
    space_for (line_of word (a ∷ b ∷ d ∷ [])) ≡ min_space
short_line word a b d h ha hb hd = omega (arith, short_length word a b d h ha hb hd)

pub three :
    (ns : List ℕ) (a b d : ℕ) → length ns ≡ 3 → a ≡ slice_index_or ns 0 0 → b ≡ slice_index_or ns 1 0 →
    d ≡ slice_index_or ns 2 0 → a ∷ b ∷ d ∷ [] ≡ ns
three [] a b d e ea eb ed = grind arith
three (x ∷ []) a b d e ea eb ed = grind arith
three (x ∷ y ∷ []) a b d e ea eb ed = grind arith
three (x ∷ y ∷ z ∷ []) a b d e ea eb ed = grind arith
three (x ∷ y ∷ z ∷ u ∷ ns) a b d e ea eb ed = grind arith
