-- The fields of a line taken one by one, each with the answer what number it is.
use Rattle.std.proofs.Common.{◌≡◌, ℕ, ◌+◌, ◌-◌, ◌<◌, ◌≤◌, false, List, [], ◌∷◌, ◌++◌, length, map, get_or, take, Some, None, Ok, Err, Option, MatchResult, Result, sym, refl, ap, ◌∙◌, subst, ap₂, append_assoc, append-nil, arith}
use Rattle.session.specs.LineKinds.{AreNumbers}
use Rattle.session.specs.Lines.{with_field, has, NoField}
use Rattle.session.specs.Numbers.{number_in, NumberOf}
use Rattle.session.specs.declared.field.FieldFault.{FieldFault}
use Rattle.std.proofs.lemmas.Bool.{ne_eqb, eqb-false}
use Rattle.std.proofs.lemmas.List.{get_or-map, length-append, length-map, map_push, take_all}
use Rattle.std.specs.Result.{result_ok}

abbrev Line : Type 0
Line = Option (List (List ℕ) × List ℕ)

-- some fields more at the front of a line
abbrev pub with_fields : List (List ℕ) → Option (List (List ℕ) × List ℕ) → Option (List (List ℕ) × List ℕ)
with_fields fs None = None
with_fields fs (Some p) = Some (fs ++ p.0, p.1)

with_more : (fs : List (List ℕ)) (f : List ℕ) (o : Line) → with_fields fs (with_field f o) ≡ with_fields (fs ++ f ∷ []) o
with_more fs f None = refl
with_more fs f (Some p) = ap (λ gs. Some (gs, p.1)) (sym (append_assoc fs (f ∷ []) p.0))

has_more : (fs : List (List ℕ)) (n : ℕ) (o : Line) → NoField o → length fs < n → has n (with_fields fs o) ≡ false
has_more fs n None none less = refl
has_more fs n (Some p) none less = ne_eqb (length (fs ++ p.0)) n (λ e. eqb-false (length p.0) (n - length fs - 1 + 1) (none (n - length fs - 1)) (omega (arith, e, less, length-append fs p.0)))

-- the line o begins with fields of which these are the answers, and o' is what is left of it
pub record Answered
    (o o' : Option (List (List ℕ) × List ℕ)) (answers : List (Result ℕ FieldFault)) : Type 0 where
  pub fields : List (List ℕ)
  pub front : o ≡ with_fields fields o'
  pub numbers : map number_in fields ≡ map result_ok answers

pub one_answered :
    {o o' o'' : Line} {answers : List (Result ℕ FieldFault)} (f : List ℕ) (a : Result ℕ FieldFault) →
    Answered o o' answers → o' ≡ with_field f o'' → number_in f ≡ result_ok a → Answered o o'' (answers ++ a ∷ [])
one_answered {o'' = o''} {answers} f a before field is = record {
  fields = before.fields ++ f ∷ [];
  front = before.front ∙ ap (with_fields before.fields) field ∙ with_more before.fields f o'';
  numbers =
      map_push number_in before.fields f ∙ ap₂ (λ ns n. ns ++ n ∷ []) before.numbers is ∙
      sym (map_push result_ok answers a);
}

pub all_answered :
    {o o' : Line} (n : ℕ) (answers : List (Result ℕ FieldFault)) → Answered o o' (take n answers) → length answers ≤ n →
    Answered o o' answers
all_answered {o} {o'} n answers a all = subst (Answered o o') (take_all n answers all) a

module _ {o o' : Line} {answers : List (Result ℕ FieldFault)} (a : Answered o o' answers) where
  pub how_many : length a.fields ≡ length answers
  how_many = sym (length-map a.fields number_in) ∙ ap length a.numbers ∙ length-map answers result_ok

  pub too_few : (n : ℕ) → NoField o' → length answers < n → has n o ≡ false
  too_few n none less = ap (has n) a.front ∙ has_more a.fields n o' none (omega (arith, how_many))

  pub whole : (rest : List ℕ) → o' ≡ Some ([], rest) → o ≡ Some (a.fields, rest)
  whole rest over = a.front ∙ ap (with_fields a.fields) over ∙ ap (λ fs. Some (fs, rest)) (append-nil a.fields)

pub are_numbers : (fs : List (List ℕ)) (ns : List ℕ) → map number_in fs ≡ map Some ns → AreNumbers fs ns
are_numbers [] [] e = tt
are_numbers [] (n ∷ ns) e = cc
are_numbers (f ∷ fs) [] e = cc
are_numbers (f ∷ fs) (n ∷ ns) e = ((cc), are_numbers fs ns (cc))

pub numbers_are : (fs : List (List ℕ)) (ns : List ℕ) → AreNumbers fs ns → map number_in fs ≡ map Some ns
numbers_are [] [] are = refl
numbers_are [] (n ∷ ns) are = absurd are
numbers_are (f ∷ fs) [] are = absurd are
numbers_are (f ∷ fs) (n ∷ ns) are = ap₂ ◌∷◌ are.0 (numbers_are fs ns are.1)

-- what `number` answers of a field
pub answer_is :
    (f : List ℕ) (a : Result ℕ FieldFault) →
    MatchResult a (NumberOf f) (λ _. number_in f ≡ None) →
    number_in f ≡ result_ok a
answer_is f (Ok n) is = is.0
answer_is f (Err e) is = is

-- a field whose answer is a fault is no number
pub no_answer :
    (fs : List (List ℕ)) (answers : List (Result ℕ FieldFault)) (i : ℕ) (d : Result ℕ FieldFault) →
    map number_in fs ≡ map result_ok answers → i < length answers → result_ok (get_or answers i d) ≡ None →
    (ns : List ℕ) → AreNumbers fs ns → ⊥
no_answer fs answers i d same within none ns are =
    let all : map Some ns ≡ map result_ok answers = sym (numbers_are fs ns are) ∙ same in
    let count : length ns ≡ length answers
    = sym (length-map ns Some) ∙ ap length all ∙ length-map answers result_ok in
    let one : ◌≡◌ {A = Option ℕ} (Some (get_or ns i 0)) None
    = sym (get_or-map Some ns i 0 None (omega (arith, within, count))) ∙ ap (λ os. get_or os i None) all ∙
    get_or-map result_ok answers i d None within ∙ none in
    cc
