-- The fields of a line are the parts of the file that stand there one after another.
use Rattle.std.proofs.Common.{◌≡◌, ℕ, zero, suc, ◌+◌, ◌-◌, ◌<◌, ◌≤◌, Bool, true, false, ◌≢◌, ◌⊎◌, List, [], ◌∷◌, length, get_or, drop, Some, None, Option, sym, refl, ap, ◌∙◌, subst, ap₂, inl, inr, arith}
use Rattle.session.proofs.Runs.{run_field, run_none, run_over}
use Rattle.session.proofs.Scanning.{in_line, not_in, same_parts}
use Rattle.session.specs.Bytes.{is_space, is_feed, in_field}
use Rattle.session.specs.Laws.{Stands, FieldsAreParts}
use Rattle.session.specs.Lines.{next_line, with_field}
use Rattle.session.specs.Places.{Run, FieldAt, OverAt, LineAt}
use Rattle.session.specs.Places.LineAt.{over, more}
use Rattle.std.proofs.lemmas.List.{at_drop_all}
use Rattle.std.proofs.lemmas.Bool.{both_ways, cases_Bool, cases_eq, cases_lt}
use Rattle.std.specs.List.{between}

module _ (test : ℕ → Bool) (bs : List ℕ) where
  -- the longest run from a place on, with n bytes from there
  longest_run : (n i : ℕ) → i + n ≡ length bs → (j : ℕ) × Run test bs i j
  longest_run zero i e =
      (i, record { order = omega arith; within = omega arith; each = λ k l m. absurd (omega arith); longest = λ l. absurd (omega arith) })
  longest_run (suc n) i e = by (cases_Bool (test (get_or bs i 0))) (longest_run n (i + 1) (omega arith))
    where
      by : (test (get_or bs i 0) ≡ true) ⊎ (test (get_or bs i 0) ≡ false) → ((j : ℕ) × Run test bs (i + 1) j) → (j : ℕ) × Run test bs i j
      by (inr f) _ =
          (i, record { order = omega arith; within = omega arith; each = λ k l m. absurd (omega arith); longest = λ _. f })
      by (inl t) r = (
        r.0,
        record {
          order = omega (arith, r.1.order);
          within = r.1.within;
          each = λ k l m. at k l m (cases_eq i k);
          longest = r.1.longest;
        },
      )
        where
          at : (k : ℕ) → i ≤ k → k < r.0 → (i ≡ k) ⊎ (i ≢ k) → test (get_or bs k 0) ≡ true
          at k l m (inl e) = subst (λ p. test (get_or bs p 0) ≡ true) e t
          at k l m (inr ne) = r.1.each k (omega arith) m

  run_from : (i : ℕ) → i ≤ length bs → (j : ℕ) × Run test bs i j
  run_from i l = longest_run (length bs - i) i (omega arith)

-- from any place of a file there is a next field, or the line is over
module _ (bs : List ℕ) where
  Next : ℕ → Type 0
  Next i = ((s : ℕ) × (e : ℕ) × FieldAt bs i s e (between s e bs)) ⊎ ((j : ℕ) × OverAt bs i j)

  next : (i : ℕ) → i ≤ length bs → Next i
  unfolding Next
  next i l = at_space (run_from is_space bs i l)
    where
      at_space : ((s : ℕ) × Run is_space bs i s) → Next i
      at_space a = at_field (run_from in_field bs a.0 a.1.within)
        where
          at_field : ((e : ℕ) × Run in_field bs a.0 e) → Next i
          at_field b = by (cases_lt a.0 b.0)
            where
              feed : b.0 ≤ a.0 → a.0 < length bs → is_feed (get_or bs a.0 0) ≡ true
              feed none l =
                  let same : b.0 ≡ a.0 = omega (arith, b.1.order) in
                  which (not_in (get_or bs a.0 0) (subst (λ p. in_field (get_or bs p 0) ≡ false) same (b.1.longest (omega arith))))
                where
                  which :
                      (is_space (get_or bs a.0 0) ≡ true) ⊎ (is_feed (get_or bs a.0 0) ≡ true) →
                      is_feed (get_or bs a.0 0) ≡ true
                  which (inl space) = absurd (both_ways (is_space (get_or bs a.0 0)) (a.1.longest l) space)
                  which (inr f) = f

              by : (a.0 < b.0) ⊎ (b.0 ≤ a.0) → Next i
              by (inl some) = inl (a.0, b.0, record { spaces = a.1; bytes = b.1; some = some; part = refl })
              by (inr none) = inr (a.0, record { spaces = a.1; feed = feed none })

  -- a line is what stands from its place on
  inside : (fields : List (List ℕ)) (rest : List ℕ) (i : ℕ) → next_line (drop i bs) ≡ Some (fields, rest) → i ≤ length bs
  inside fields rest i line = by (cases_lt (length bs) i)
    where
      by : (length bs < i) ⊎ (i ≤ length bs) → i ≤ length bs
      by (inl past) = let none = at_drop_all next_line bs i (omega arith) in let z : ◌≡◌ {A = ℕ} 0 1 = cc in omega arith
      by (inr l) = l

  stands_over :
      (fields : List (List ℕ)) (rest : List ℕ) (i j : ℕ) → next_line (drop i bs) ≡ Some (fields, rest) →
      OverAt bs i j → Stands bs i fields rest
  stands_over (f ∷ fields) rest i j line a = absurd (over_empty (cases_lt j (length bs)))
    where
      over_empty : (j < length bs) ⊎ (length bs ≤ j) → ⊥
      over_empty (inl l) =
          let e = (same_parts (sym (run_over bs a l) ∙ line)).0 in let z : ◌≡◌ {A = ℕ} 0 1 = cc in omega arith
      over_empty (inr all) = let e = run_none bs a all in let z : ◌≡◌ {A = ℕ} 0 1 = cc in omega arith
  stands_over [] rest i j line a = by (cases_lt j (length bs))
    where
      by : (j < length bs) ⊎ (length bs ≤ j) → Stands bs i [] rest
      by (inl l) =
          let e = same_parts (sym line ∙ run_over bs a l) in
          record { places = []; end = j + 1; line = over a l; after = e.1 }
      by (inr all) = let e = run_none bs a all in let z : ◌≡◌ {A = ℕ} 0 1 = cc in absurd (omega arith)

  stands :
      (fields : List (List ℕ)) (rest : List ℕ) (i : ℕ) → next_line (drop i bs) ≡ Some (fields, rest) →
      Stands bs i fields rest
  unfolding Next
  stands [] rest i line = by (next i (inside [] rest i line))
    where
      by : Next i → Stands bs i [] rest
      by (inl x) = absurd (some (next_line (drop x.1 bs)) (sym (run_field bs x.2) ∙ line))
        where
          some : (o : Option (List (List ℕ) × List ℕ)) → with_field (between x.0 x.1 bs) o ≡ Some ([], rest) → ⊥
          some None e = let z : ◌≡◌ {A = ℕ} 0 1 = cc in omega arith
          some (Some p) e = let f = (same_parts e).0 in let z : ◌≡◌ {A = ℕ} 0 1 = cc in omega arith
      by (inr a) = stands_over [] rest i a.0 line a.1
  stands (f ∷ fields) rest i line = by (next i (inside (f ∷ fields) rest i line)) (stands fields rest)
    where
      by :
          Next i → ((k : ℕ) → next_line (drop k bs) ≡ Some (fields, rest) → Stands bs k fields rest) →
          Stands bs i (f ∷ fields) rest
      by (inr a) _ = stands_over (f ∷ fields) rest i a.0 line a.1
      by (inl x) later =
          let is = first (next_line (drop x.1 bs)) (sym (run_field bs x.2) ∙ line) in
          let s = later x.1 is.1 in
          record {
            places = x.0 ∷ s.places;
            end = s.end;
            line = more (subst (FieldAt bs i x.0 x.1) is.0 x.2) s.line;
            after = s.after;
          }
        where
          first :
              (o : Option (List (List ℕ) × List ℕ)) → with_field (between x.0 x.1 bs) o ≡ Some (f ∷ fields, rest) →
              (between x.0 x.1 bs ≡ f) × (o ≡ Some (fields, rest))
          first None e = let z : ◌≡◌ {A = ℕ} 0 1 = cc in absurd (omega arith)
          first (Some p) e =
              let same = same_parts e in
              let tail : p.0 ≡ fields = let t = same.0 in cc in
              ((let t = same.0 in cc), ap₂ in_line tail same.1)

  told : {i j : ℕ} {fields : List (List ℕ)} {places : List ℕ} → LineAt bs i fields places j → next_line (drop i bs) ≡ Some (fields, drop j bs)
  told (over a l) = run_over bs a l
  told (more {field = f} a l) = run_field bs a ∙ ap (with_field f) (told l)

pub fields_are_parts_lem : FieldsAreParts
fields_are_parts_lem bs i fields rest =
    (stands bs fields rest i, λ s. told bs s.line ∙ ap (λ r. in_line fields r) (sym s.after))
