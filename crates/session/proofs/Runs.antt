-- What a line is, told by places: runs of spaces and of bytes of a field, and the line feed after them.
use Rattle.std.proofs.Common.{◌≡◌, ℕ, zero, suc, ◌+◌, ◌-◌, ◌<◌, ◌≤◌, true, false, ◌⊎◌, List, [], ◌∷◌, length, get_or, take, drop, Some, None, Option, sym, refl, ap, ◌∙◌, subst, ap₂, inl, inr, arith}
use Rattle.session.proofs.Scanning.{Ends, glue_last, glue_more, in_is, line_space, not_in, space_is}
use Rattle.session.specs.Bytes.{is_space, is_feed, in_field}
use Rattle.session.specs.Lines.{with_byte, first_line, in_fields, next_line, with_field}
use Rattle.session.specs.Places.{Run, FieldAt, OverAt}
use Rattle.std.proofs.lemmas.List.Edits.{between_none}
use Rattle.std.proofs.lemmas.List.{at_drop_all, at_drop_more, drop_more}
use Rattle.std.proofs.lemmas.Bool.{cases_lt, cond-false, cond-true}
use Rattle.std.specs.List.{between}

module _ (bs : List ℕ) where
  -- a byte that is no line feed, and the line after it
  starts :
      (i : ℕ) → i < length bs → is_feed (get_or bs i 0) ≡ false →
      first_line (drop i bs) ≡ with_byte (get_or bs i 0) (first_line (drop (i + 1) bs))
  starts i l e = at_drop_more first_line bs i 0 l ∙ cond-false (is_feed (get_or bs i 0)) _ _ e

  stops : (i : ℕ) → i < length bs → is_feed (get_or bs i 0) ≡ true → first_line (drop i bs) ≡ Some ([], drop (i + 1) bs)
  stops i l e = at_drop_more first_line bs i 0 l ∙ cond-true (is_feed (get_or bs i 0)) _ _ e

  -- n spaces
  past_spaces :
      (n i j : ℕ) → i + n ≡ j → j ≤ length bs → ((k : ℕ) → i ≤ k → k < j → is_space (get_or bs k 0) ≡ true) →
      next_line (drop i bs) ≡ next_line (drop j bs)
  past_spaces zero i j e within each = let same : i ≡ j = omega arith in ap (λ k. next_line (drop k bs)) same
  past_spaces (suc n) i j e within each =
      ap next_line (drop_more bs i 0 (omega arith)) ∙
      line_space (get_or bs i 0) (drop (i + 1) bs) (each i (omega arith) (omega arith)) ∙
      past_spaces n (i + 1) j (omega arith) within (λ k l m. each k (omega arith) m)

  -- what stops a field ends it
  ended : (j : ℕ) → (j < length bs → in_field (get_or bs j 0) ≡ false) → Ends (first_line (drop j bs))
  ended j stop = by (cases_lt j (length bs))
    where
      spaced : (b : ℕ) → is_space b ≡ true → (o : Option (List ℕ × List ℕ)) → Ends (with_byte b o)
      spaced b space None = tt
      spaced b space (Some p) = space

      at : j < length bs → (is_space (get_or bs j 0) ≡ true) ⊎ (is_feed (get_or bs j 0) ≡ true) → Ends (first_line (drop j bs))
      at l (inr feed) = subst Ends (sym (stops j l feed)) refl
      at l (inl space) =
          subst Ends (sym (starts j l (space_is (get_or bs j 0) space)))
          (spaced (get_or bs j 0) space (first_line (drop (j + 1) bs)))

      by : (j < length bs) ⊎ (length bs ≤ j) → Ends (first_line (drop j bs))
      by (inr all) = subst Ends (sym (at_drop_all first_line bs j all)) tt
      by (inl l) = at l (not_in (get_or bs j 0) (stop l))

  between_first : (i j : ℕ) → i < j → j ≤ length bs → between i j bs ≡ get_or bs i 0 ∷ between (i + 1) j bs
  between_first i j l within =
      let n : j - i ≡ suc (j - (i + 1)) = omega arith in ap₂ take n (drop_more bs i 0 (omega arith))

  -- n bytes of a field and one more
  past_bytes :
      (n i j : ℕ) → i + suc n ≡ j → j ≤ length bs → ((k : ℕ) → i ≤ k → k < j → in_field (get_or bs k 0) ≡ true) →
      (j < length bs → in_field (get_or bs j 0) ≡ false) →
      next_line (drop i bs) ≡ with_field (between i j bs) (next_line (drop j bs))
  past_bytes zero i j e within each stop =
      let last : i + 1 ≡ j = omega arith in
      let b = in_is (get_or bs i 0) (each i (omega arith) (omega arith)) in
      ap in_fields (starts i (omega arith) b.1) ∙
      ap (λ k. in_fields (with_byte (get_or bs i 0) (first_line (drop k bs)))) last ∙
      glue_last (get_or bs i 0) b.0 (first_line (drop j bs)) (ended j stop) ∙
      ap (λ f. with_field f (next_line (drop j bs)))
      (ap (λ f. get_or bs i 0 ∷ f) (sym (between_none bs j) ∙ ap (λ k. between k j bs) (sym last)) ∙
      sym (between_first i j (omega arith) within))
  past_bytes (suc n) i j e within each stop =
      let b = in_is (get_or bs i 0) (each i (omega arith) (omega arith)) in
      let c = in_is (get_or bs (i + 1) 0) (each (i + 1) (omega arith) (omega arith)) in
      let next = starts (i + 1) (omega arith) c.1 in
      let later = past_bytes n (i + 1) j (omega arith) within (λ k l m. each k (omega arith) m) stop in
      ap in_fields (starts i (omega arith) b.1) ∙
      ap (λ o. in_fields (with_byte (get_or bs i 0) o)) next ∙
      glue_more (get_or bs i 0) b.0 (get_or bs (i + 1) 0) (between (i + 1) j bs) (first_line (drop (i + 1 + 1) bs))
      (next_line (drop j bs)) c.0 (ap in_fields (sym next) ∙ later) ∙
      ap (λ f. with_field f (next_line (drop j bs))) (sym (between_first i j (omega arith) within))

  skipped : {i j : ℕ} → Run is_space bs i j → next_line (drop i bs) ≡ next_line (drop j bs)
  skipped {i} {j} r = past_spaces (j - i) i j (omega (arith, r.order)) r.within r.each

  pub run_field :
      {i s j : ℕ} {f : List ℕ} → FieldAt bs i s j f →
      next_line (drop i bs) ≡ with_field f (next_line (drop j bs))
  run_field {i} {s} {j} {f} a =
      skipped a.spaces ∙
      past_bytes (j - s - 1) s j (omega (arith, a.some)) a.bytes.within a.bytes.each a.bytes.longest ∙
      ap (λ g. with_field g (next_line (drop j bs))) (sym a.part)

  pub run_over :
      {i j : ℕ} → OverAt bs i j → j < length bs → next_line (drop i bs) ≡ Some ([], drop (j + 1) bs)
  run_over {i} {j} a l = skipped a.spaces ∙ ap in_fields (stops j l (a.feed l))

  pub run_none : {i j : ℕ} → OverAt bs i j → length bs ≤ j → next_line (drop i bs) ≡ None
  run_none {i} {j} a all = skipped a.spaces ∙ at_drop_all next_line bs j all
