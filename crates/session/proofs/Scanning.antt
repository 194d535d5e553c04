-- Steps of the loops that find the next field, and what a line is before and after it.
use Rattle.std.proofs.Common.{◌≡◌, ℕ, ◌+◌, ◌-◌, ◌<◌, ◌≤◌, Bool, true, false, cond, eqb, MatchBool, ◌⊎◌, List, [], ◌∷◌, length, get_or, drop, Some, None, Option, sym, refl, ap, ◌∙◌, subst, ap₂, inl, inr, take, one-add, arith}
use Rattle.session.specs.Bytes.{is_space, is_feed, in_field}
use Rattle.session.specs.Lines.{with_byte, first_line, ends_field, glued, fields, in_fields, next_line, with_field, has}
use Rattle.session.specs.Places.{Run}
use Rattle.session.specs.Scans.{past_spaces, front_field, past_field, line_over}
use Rattle.std.proofs.lemmas.List.Edits.{between_none, length-between}
use Rattle.std.proofs.lemmas.List.Sums.{prefix_len-le-length, prefix_len_passes, prefix_len_stops}
use Rattle.std.proofs.lemmas.List.{drop-drop, drop_all, get_or-drop, length-drop}
use Rattle.std.proofs.lemmas.Bool.{both_ways, cases_Bool, cond-false, cond-true, eqb-false, eqb-true, ne_eqb}
use Rattle.std.proofs.lemmas.Option.{none-some}
use Rattle.std.proofs.lemmas.Bool.Decides.{nat_tests}
use Rattle.std.specs.List.{between, prefix_len}

-- what passes a test at the front of some bytes, skipped or taken
module _ (test : ℕ → Bool) (f : List ℕ → List ℕ) (empty : f [] ≡ []) where
  skips :
      ((b : ℕ) (bs : List ℕ) → f (b ∷ bs) ≡ cond (test b) (f bs) (b ∷ bs)) → (bs : List ℕ) →
      drop (prefix_len test bs) bs ≡ f bs
  skips step [] = sym empty
  skips step (b ∷ bs) = by (skips step bs) (cases_Bool (test b))
    where
      by :
          drop (prefix_len test bs) bs ≡ f bs → (test b ≡ true) ⊎ (test b ≡ false) →
          drop (prefix_len test (b ∷ bs)) (b ∷ bs) ≡ f (b ∷ bs)
      by rest (inl t) = rw (step b bs, t, one-add) rest
      by rest (inr e) = rw (step b bs, e) refl

  takes :
      ((b : ℕ) (bs : List ℕ) → f (b ∷ bs) ≡ cond (test b) (b ∷ f bs) []) → (bs : List ℕ) →
      take (prefix_len test bs) bs ≡ f bs
  takes step [] = sym empty
  takes step (b ∷ bs) = by (takes step bs) (cases_Bool (test b))
    where
      by :
          take (prefix_len test bs) bs ≡ f bs → (test b ≡ true) ⊎ (test b ≡ false) →
          take (prefix_len test (b ∷ bs)) (b ∷ bs) ≡ f (b ∷ bs)
      by rest (inl t) = rw (step b bs, t, one-add) (ap (λ r. b ∷ r) rest)
      by rest (inr e) = rw (step b bs, e) refl

pub run_of :
    (test : ℕ → Bool) (xs : List ℕ) (i : ℕ) → i ≤ length xs → Run test xs i (i + prefix_len test (drop i xs))
run_of test xs i within = record {
  order = omega arith;
  within = omega (arith, prefix_len-le-length test (drop i xs), length-drop i xs);
  each = λ k l m.
      subst (λ j. test (get_or xs j 0) ≡ true) (let e : i + (k - i) ≡ k = omega arith in e)
      (subst (λ b. test b ≡ true) (get_or-drop i xs (k - i) 0)
      (prefix_len_passes test (drop i xs) (k - i) 0 (omega arith)));
  longest = λ l.
      subst (λ b. test b ≡ false) (get_or-drop i xs (prefix_len test (drop i xs)) 0)
      (prefix_len_stops test (drop i xs) 0 (omega (arith, length-drop i xs)));
}

abbrev pub in_line : List (List ℕ) → List ℕ → Option (List (List ℕ) × List ℕ)
in_line fs rest = Some (fs, rest)

pub same_parts :
    {A B : Type 0} {a a' : A} {b b' : B} → ◌≡◌ {A = Option (A × B)} (Some (a, b)) (Some (a', b')) →
    (a ≡ a') × (b ≡ b')
same_parts {A} {B} {a} {a'} {b} {b'} e =
    let p : ◌≡◌ {A = A × B} (a, b) (a', b') = cc in (ap (λ x. x.0) p, ap (λ x. x.1) p)

-- the line, if there is one, begins with a space or is empty
abbrev pub Ends : Option (List ℕ × List ℕ) → Type 0
Ends None = Unit {0}
Ends (Some p) = ends_field p.0 ≡ true

-- a space is no line feed, and no byte of a field is either
pub space_is : (b : ℕ) → is_space b ≡ true → is_feed b ≡ false
space_is b e = ne_eqb b 10 (λ f. bad (eqb-true b 32 e) f)
  where
    bad : b ≡ 32 → b ≡ 10 → ⊥
    bad p q = omega arith

pub in_is : (b : ℕ) → in_field b ≡ true → (is_space b ≡ false) × (is_feed b ≡ false)
in_is b e = (grind (arith, nat_tests), grind (arith, nat_tests))

pub not_in : (b : ℕ) → in_field b ≡ false → (is_space b ≡ true) ⊎ (is_feed b ≡ true)
not_in b e = grind (arith, nat_tests)

-- spaces at the front of a line make no difference
pub line_space : (b : ℕ) (bs : List ℕ) → is_space b ≡ true → next_line (b ∷ bs) ≡ next_line bs
line_space b bs e =
    ap in_fields (cond-false (is_feed b) (Some ([], bs)) (with_byte b (first_line bs)) (space_is b e)) ∙
    at (first_line bs)
  where
    at : (o : Option (List ℕ × List ℕ)) → in_fields (with_byte b o) ≡ in_fields o
    at None = refl
    at (Some p) =
        let is = cond-true (is_space b) (fields p.0) (glued b (ends_field p.0) (fields p.0)) e in
        ap (λ fs. in_line fs p.1) is

pub line_past_spaces : (bs : List ℕ) → next_line (past_spaces bs) ≡ next_line bs
line_past_spaces [] = refl
line_past_spaces (b ∷ bs) = at (line_past_spaces bs) (cases_Bool (is_space b))
  where
    at :
        next_line (past_spaces bs) ≡ next_line bs → (is_space b ≡ true) ⊎ (is_space b ≡ false) →
        next_line (past_spaces (b ∷ bs)) ≡ next_line (b ∷ bs)
    at rest (inl t) =
        ap next_line (cond-true (is_space b) (past_spaces bs) (b ∷ bs) t) ∙ rest ∙ sym (line_space b bs t)
    at rest (inr f) = ap next_line (cond-false (is_space b) (past_spaces bs) (b ∷ bs) f)

-- what stops a field ends it
stop : (bs : List ℕ) → (o : Option (List ℕ × List ℕ)) → first_line (past_field bs) ≡ o → Ends o
stop [] o e = subst Ends e tt
stop (b ∷ bs) o e = at (stop bs o) (cases_Bool (in_field b))
  where
    at : (first_line (past_field bs) ≡ o → Ends o) → (in_field b ≡ true) ⊎ (in_field b ≡ false) → Ends o
    at rest (inl t) =
        rest (ap first_line (sym (cond-true (in_field b) (past_field bs) (b ∷ bs) t)) ∙ e)
    at rest (inr f) =
        subst Ends (ap first_line (sym (cond-false (in_field b) (past_field bs) (b ∷ bs) f)) ∙ e) (stopped (not_in b f))
      where
        stopped : (is_space b ≡ true) ⊎ (is_feed b ≡ true) → Ends (first_line (b ∷ bs))
        stopped (inr feed) = subst Ends (sym (cond-true (is_feed b) (Some ([], bs)) (with_byte b (first_line bs)) feed)) refl
        stopped (inl space) =
            subst Ends (sym (cond-false (is_feed b) (Some ([], bs)) (with_byte b (first_line bs)) (space_is b space)))
            (spaced (first_line bs))
          where
            spaced : (p : Option (List ℕ × List ℕ)) → Ends (with_byte b p)
            spaced None = tt
            spaced (Some p) = space

-- a byte of a field, before the end of the field and before another byte of it
module _ (b : ℕ) (inside : is_space b ≡ false) where
  glue : (bs : List ℕ) → fields (b ∷ bs) ≡ glued b (ends_field bs) (fields bs)
  glue bs = cond-false (is_space b) (fields bs) (glued b (ends_field bs) (fields bs)) inside

  pub glue_last :
      (o : Option (List ℕ × List ℕ)) → Ends o → in_fields (with_byte b o) ≡ with_field (b ∷ []) (in_fields o)
  glue_last None ends = refl
  glue_last (Some p) ends =
      ap (λ fs. in_line fs p.1) (glue p.0 ∙ ap (λ t. glued b t (fields p.0)) ends)

  pub glue_more :
      (c : ℕ) (f : List ℕ) (o : Option (List ℕ × List ℕ)) (n : Option (List (List ℕ) × List ℕ)) →
      is_space c ≡ false → in_fields (with_byte c o) ≡ with_field f n →
      in_fields (with_byte b (with_byte c o)) ≡ with_field (b ∷ f) n
  glue_more c f None None other e = refl
  glue_more c f None (Some n) other e = absurd (none-some _ e)
  glue_more c f (Some p) None other e = absurd (none-some _ (sym e))
  glue_more c f (Some p) (Some n) other e =
      let same = same_parts e in
      let is : fields (b ∷ c ∷ p.0) ≡ (b ∷ f) ∷ n.0
      = glue (c ∷ p.0) ∙ ap (λ t. glued b t (fields (c ∷ p.0))) other ∙ ap (glued b false) same.0 in
      ap₂ in_line is same.1

-- what follows the first byte of a field
inner :
    (b : ℕ) (bs : List ℕ) → in_field b ≡ true →
    in_fields (with_byte b (first_line bs)) ≡ with_field (b ∷ front_field bs) (next_line (past_field bs))
inner b [] t = refl
inner b (c ∷ cs) t = by (inner c cs) (cases_Bool (in_field c))
  where
    by :
        (in_field c ≡ true →
        in_fields (with_byte c (first_line cs)) ≡ with_field (c ∷ front_field cs) (next_line (past_field cs))) →
        (in_field c ≡ true) ⊎ (in_field c ≡ false) →
        in_fields (with_byte b (first_line (c ∷ cs))) ≡
        with_field (b ∷ front_field (c ∷ cs)) (next_line (past_field (c ∷ cs)))
    by later (inr f) =
        let front = cond-false (in_field c) (c ∷ front_field cs) [] f in
        let past = cond-false (in_field c) (past_field cs) (c ∷ cs) f in
        glue_last b (in_is b t).0 (first_line (c ∷ cs)) (stop (c ∷ cs) (first_line (c ∷ cs)) (ap first_line past)) ∙
        ap₂ (λ fs ps. with_field (b ∷ fs) (next_line ps)) (sym front) (sym past)
    by later (inl u) =
        let front = cond-true (in_field c) (c ∷ front_field cs) [] u in
        let past = cond-true (in_field c) (past_field cs) (c ∷ cs) u in
        ap (λ o. in_fields (with_byte b o))
        (cond-false (is_feed c) (Some ([], cs)) (with_byte c (first_line cs)) (in_is c u).1) ∙
        glue_more b (in_is b t).0 c (c ∷ front_field cs) (first_line cs) (next_line (past_field cs)) (in_is c u).0 (later u) ∙
        ap₂ (λ fs ps. with_field (b ∷ fs) (next_line ps)) (sym front) (sym past)

-- a line that begins with a field
pub line_field :
    (bs : List ℕ) → (front_field bs ≡ [] → ⊥) → next_line bs ≡ with_field (front_field bs) (next_line (past_field bs))
line_field [] some = absurd (some refl)
line_field (b ∷ bs) some = at (cases_Bool (in_field b))
  where
    at :
        (in_field b ≡ true) ⊎ (in_field b ≡ false) →
        next_line (b ∷ bs) ≡ with_field (front_field (b ∷ bs)) (next_line (past_field (b ∷ bs)))
    at (inr f) = absurd (some (cond-false (in_field b) (b ∷ front_field bs) [] f))
    at (inl t) =
        ap in_fields (cond-false (is_feed b) (Some ([], bs)) (with_byte b (first_line bs)) (in_is b t).1) ∙
        inner b bs t ∙
        ap₂ (λ fs ps. with_field fs (next_line ps)) (sym (cond-true (in_field b) (b ∷ front_field bs) [] t))
        (sym (cond-true (in_field b) (past_field bs) (b ∷ bs) t))

-- past the spaces no field begins: the line is over
pub no_field : (bs : List ℕ) → front_field (past_spaces bs) ≡ [] → line_over (past_spaces bs) ≡ true
no_field [] none = refl
no_field (b ∷ bs) none = at (no_field bs) (cases_Bool (is_space b))
  where
    at :
        (front_field (past_spaces bs) ≡ [] → line_over (past_spaces bs) ≡ true) →
        (is_space b ≡ true) ⊎ (is_space b ≡ false) → line_over (past_spaces (b ∷ bs)) ≡ true
    at rest (inl t) =
        let is = cond-true (is_space b) (past_spaces bs) (b ∷ bs) t in
        ap line_over is ∙ rest (ap front_field (sym is) ∙ none)
    at rest (inr f) =
        let is = cond-false (is_space b) (past_spaces bs) (b ∷ bs) f in
        ap line_over is ∙ feed (cases_Bool (in_field b)) (ap front_field (sym is) ∙ none)
      where
        feed : (in_field b ≡ true) ⊎ (in_field b ≡ false) → front_field (b ∷ bs) ≡ [] → is_feed b ≡ true
        feed (inl u) e = absurd (some_none (sym (cond-true (in_field b) (b ∷ front_field bs) [] u) ∙ e))
          where
            some_none : ◌≡◌ {A = List ℕ} (b ∷ front_field bs) [] → ⊥
            some_none x = let z : ◌≡◌ {A = ℕ} 0 1 = cc in omega arith
        feed (inr v) e = which (not_in b v)
          where
            which : (is_space b ≡ true) ⊎ (is_feed b ≡ true) → is_feed b ≡ true
            which (inl s) = absurd (both_ways (is_space b) f s)
            which (inr s) = s

-- the bounds of the next field: after n spaces it has m bytes
module _ (xs : List ℕ) (from n : ℕ) where
  pub spaces_past : n ≡ prefix_len is_space (drop from xs) → drop (from + n) xs ≡ past_spaces (drop from xs)
  spaces_past is =
      sym (drop-drop n from xs) ∙ ap (λ k. drop k (drop from xs)) is ∙
      skips is_space past_spaces refl (λ _ _. refl) (drop from xs)

  module _ (m : ℕ) (is : m ≡ prefix_len in_field (drop (from + n) xs)) where
    pub field_front : between (from + n) (from + n + m) xs ≡ front_field (drop (from + n) xs)
    field_front =
        ap (λ k. take k (drop (from + n) xs)) (let e : from + n + m - (from + n) ≡ m = omega arith in e ∙ is) ∙
        takes in_field front_field refl (λ _ _. refl) (drop (from + n) xs)

    pub field_past : drop (from + n + m) xs ≡ past_field (drop (from + n) xs)
    field_past =
        sym (drop-drop m (from + n) xs) ∙ ap (λ k. drop k (drop (from + n) xs)) is ∙
        skips in_field past_field refl (λ _ _. refl) (drop (from + n) xs)

module _
    (xs : List ℕ) (from start end : ℕ) (skipped : drop start xs ≡ past_spaces (drop from xs))
    (front : between start end xs ≡ front_field (drop start xs)) (past : drop end xs ≡ past_field (drop start xs)) where
  pub bounds_none :
      start ≡ end → (next_line (drop end xs) ≡ next_line (drop from xs)) × (line_over (drop end xs) ≡ true)
  bounds_none e =
      let same : drop end xs ≡ past_spaces (drop from xs) = ap (λ i. drop i xs) (sym e) ∙ skipped in
      let none : front_field (past_spaces (drop from xs)) ≡ []
      = ap front_field (sym skipped) ∙ sym front ∙ ap (λ i. between start i xs) (sym e) ∙ between_none xs start in (
        ap next_line same ∙ line_past_spaces (drop from xs),
        ap line_over same ∙ no_field (drop from xs) none,
      )

  pub bounds_some :
      end ≤ length xs → start < end →
      next_line (drop from xs) ≡ with_field (between start end xs) (next_line (drop end xs))
  bounds_some within lt =
      sym (line_past_spaces (drop from xs)) ∙ ap next_line (sym skipped) ∙ line_field (drop start xs) some ∙
      ap₂ (λ f bs. with_field f (next_line bs)) (sym front) (sym past)
    where
      some : front_field (drop start xs) ≡ [] → ⊥
      some e = omega (arith, length-between xs start end within, ap length front, ap length e)

-- how many fields a line has, with one more and at its end
pub has_none : (f : List ℕ) (o : Option (List (List ℕ) × List ℕ)) → has 0 (with_field f o) ≡ false
has_none f None = refl
has_none f (Some p) = ne_eqb (length (f ∷ p.0)) 0 (λ e. omega arith)

-- whether anything is left
pub at_end :
    (xs : List ℕ) (i : ℕ) → i ≤ length xs → MatchBool (eqb i (length xs)) (drop i xs ≡ []) (drop i xs ≡ [] → ⊥)
at_end xs i within = by (eqb i (length xs)) refl
  where
    by : (b : Bool) → eqb i (length xs) ≡ b → MatchBool b (drop i xs ≡ []) (drop i xs ≡ [] → ⊥)
    by true e = drop_all i xs (omega (arith, eqb-true i (length xs) e))
    by false e = λ none. eqb-false i (length xs) e (omega (arith, within, length-drop i xs, ap length none))
