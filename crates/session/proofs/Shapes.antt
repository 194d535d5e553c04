-- What the fields of a line make of it.
use Rattle.std.proofs.Common.{◌≡◌, ℕ, suc, ◌+◌, false, ◌≢◌, List, [], ◌∷◌, ◌++◌, length, Some, None, Option, sym, refl, ap, ◌∙◌, ap₂, arith}
use Rattle.session.proofs.Scanning.{same_parts}
use Rattle.session.specs.LineKinds.{AreNumbers, Misshapen}
use Rattle.session.specs.Lines.{has, NoField, next_line, with_field}
use Rattle.session.specs.Numbers.{number_in}
use Rattle.std.proofs.lemmas.List.{append_cancel_left}
use Rattle.std.proofs.lemmas.Option.{none-some}
use Rattle.std.proofs.lemmas.Bool.{eqb-false}
use Rattle.std.proofs.lemmas.Bool.Decides.{nat_tests}

-- a line that has not n fields
pub count_wrong :
    (n : ℕ) (bs : List ℕ) → has n (next_line bs) ≡ false → (fields : List (List ℕ)) (rest : List ℕ) →
    next_line bs ≡ Some (fields, rest) → length fields ≢ n
count_wrong n bs wrong fields rest line = eqb-false (length fields) n (ap (has n) (sym line) ∙ wrong)

has_after : (f : List ℕ) (n : ℕ) (o : Option (List (List ℕ) × List ℕ)) → has (n + 1) (with_field f o) ≡ has n o
has_after f n None = refl
has_after f n (Some p) = grind (arith, nat_tests)

-- a heading whose word or number is not there
pub no_heading :
    (word bs : List ℕ) → has 2 (next_line bs) ≡ false → Misshapen (word ∷ []) 1 bs
no_heading word bs none fields rest line =
    λ e. count_wrong 2 bs none (word ∷ fields) rest line (ap suc e)

module _ (word name bs : List ℕ) (o : Option (List (List ℕ) × List ℕ)) (first : next_line bs ≡ with_field name o) where
  pub no_value : NoField o → Misshapen (word ∷ []) 1 bs
  no_value none = no_heading word bs (ap (has 2) first ∙ has_after name 1 o ∙ none 0)

-- a field that is no number
pub no_first : (f : List ℕ) (fs : List (List ℕ)) → number_in f ≡ None → (ns : List ℕ) → AreNumbers (f ∷ fs) ns → ⊥
no_first f fs none [] are = are
no_first f fs none (n ∷ ns) are = none-some n (sym none ∙ are.0)

pub no_later :
    (f : List ℕ) (fs : List (List ℕ)) → ((ns : List ℕ) → AreNumbers fs ns → ⊥) → (ns : List ℕ) →
    AreNumbers (f ∷ fs) ns → ⊥
no_later f fs none [] are = are
no_later f fs none (n ∷ ns) are = none ns are.1

-- the numbers of a line are those of its fields, and no others
pub same_numbers : (fs : List (List ℕ)) (ns ns' : List ℕ) → AreNumbers fs ns → AreNumbers fs ns' → ns ≡ ns'
same_numbers [] [] [] _ _ = refl
same_numbers [] [] (n ∷ ns) _ b = absurd b
same_numbers [] (n ∷ ns) _ a _ = absurd a
same_numbers (f ∷ fs) [] _ a _ = absurd a
same_numbers (f ∷ fs) (n ∷ ns) [] _ b = absurd b
same_numbers (f ∷ fs) (n ∷ ns) (n' ∷ ns') a b =
    let i = a.0 in let j = b.0 in let e : n ≡ n' = cc in ap₂ ◌∷◌ e (same_numbers fs ns ns' a.1 b.1)

pub numbers_count : (fs : List (List ℕ)) (ns : List ℕ) → AreNumbers fs ns → length fs ≡ length ns
numbers_count [] [] _ = refl
numbers_count [] (n ∷ ns) a = absurd a
numbers_count (f ∷ fs) [] a = absurd a
numbers_count (f ∷ fs) (n ∷ ns) a = ap suc (numbers_count fs ns a.1)

pub same_line :
    (words fs fs' : List (List ℕ)) (bs rest rest' : List ℕ) → next_line bs ≡ Some (words ++ fs, rest) →
    next_line bs ≡ Some (words ++ fs', rest') → (fs ≡ fs') × (rest ≡ rest')
same_line words fs fs' bs rest rest' a b =
    let same = same_parts (sym a ∙ b) in (append_cancel_left words fs fs' same.0, same.1)
