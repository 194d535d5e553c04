-- Exactly one verdict is right of a table: one is found by a bounded search, and no other can be.
use Rattle.std.proofs.Common.{◌≡◌, ℕ, zero, suc, ◌+◌, ◌-◌, ◌<◌, ◌≤◌, ◌⊎◌, List, length, sym, refl, ◌∙◌, subst, ap₂, inl, inr, add-sub_cancel, arith}
use Rattle.feasibility.specs.Laws.{OneVerdict}
use Rattle.feasibility.specs.Tables.{row_at, load_of, least_period}
use Rattle.feasibility.specs.Told.{told}
use Rattle.feasibility.specs.Verdicts.{needed, Tried, FirstFailing, Judged}
use Rattle.feasibility.specs.declared.row.Row.{Row}
use Rattle.feasibility.specs.declared.verdict.Verdict.{Verdict}
use Rattle.feasibility.specs.declared.verdict.Verdict.TheVariants.{Fit, Overloaded, Blocked}
use Rattle.std.proofs.lemmas.Bool.{cases_eq, cases_lt, cases_order}

-- the first place below n that has P, where every place has P or Q
pub first_place :
    (n : ℕ) (P Q : ℕ → Type 0) → ((j : ℕ) → j < n → P j ⊎ Q j) →
    ((j : ℕ) × (j < n) × P j × ((k : ℕ) → k < j → Q k)) ⊎ ((j : ℕ) → j < n → Q j)
first_place zero P Q each = inr (λ j l. absurd (none j l))
  where
    none : (j : ℕ) → j < 0 → ⊥
    none j l = omega arith
first_place (suc n) P Q each = join (first_place n P Q (λ j l. each j (omega arith))) (each n (omega arith))
  where
    join :
        ((j : ℕ) × (j < n) × P j × ((k : ℕ) → k < j → Q k)) ⊎ ((j : ℕ) → j < n → Q j) → P n ⊎ Q n →
        ((j : ℕ) × (j < suc n) × P j × ((k : ℕ) → k < j → Q k)) ⊎ ((j : ℕ) → j < suc n → Q j)
    join (inl x) _ = inl (x.0, omega (arith, x.1), x.2, x.3)
    join (inr all) (inl p) = inl (n, omega arith, p, all)
    join (inr all) (inr q) = inr (λ j l. at j l (cases_eq j n))
      where
        at : (j : ℕ) → j < suc n → (j ≡ n) ⊎ (j ≡ n → ⊥) → Q j
        at j l (inl e) = subst Q (sym e) q
        at j l (inr ne) = all j (omega arith)

never : {a b : ℕ} → a ≤ b → b < a → ⊥
never p q = omega arith

module _ (rows : List Row) where
  Fails : ℕ → ℕ → Type 0
  Fails i l = Tried rows i l × (l < needed rows i l)

  Passes : ℕ → ℕ → Type 0
  Passes i l = Tried rows i l → needed rows i l ≤ l

  -- one length of a row
  at_length : (i : ℕ) → i < length rows → (l : ℕ) → l < (row_at rows i).period → Fails i l ⊎ Passes i l
  unfolding Fails Passes
  at_length i li l ll =
      pick (cases_eq (row_at rows i).store 0) (cases_lt (least_period rows (row_at rows i).store) l)
      (cases_lt l (needed rows i l))
    where
      r : ℕ
      r = (row_at rows i).store

      pick :
          (r ≡ 0) ⊎ (r ≡ 0 → ⊥) → (least_period rows r < l) ⊎ (l ≤ least_period rows r) →
          (l < needed rows i l) ⊎ (needed rows i l ≤ l) → Fails i l ⊎ Passes i l
      pick (inl z) _ _ = inr (λ tried. absurd (tried.stored z))
      pick (inr nz) (inr low) _ = inr (λ tried. omega (arith, tried.above))
      pick (inr nz) (inl high) (inr ok) = inr (λ _. ok)
      pick (inr nz) (inl high) (inl fails) =
          inl (record { within = li; stored = nz; above = high; below = ll }, fails)

  -- a row fails first at some length, or at none
  RowFails : ℕ → Type 0
  RowFails i = (l : ℕ) × Fails i l × ((m : ℕ) → m < l → Passes i m)

  RowPasses : ℕ → Type 0
  RowPasses i = (l : ℕ) → Passes i l

  at_row : (i : ℕ) → i < length rows → RowFails i ⊎ RowPasses i
  unfolding RowFails RowPasses Passes
  at_row i li = join (first_place (row_at rows i).period (Fails i) (Passes i) (at_length i li))
    where
      join :
          ((l : ℕ) × (l < (row_at rows i).period) × Fails i l × ((m : ℕ) → m < l → Passes i m)) ⊎
          ((l : ℕ) → l < (row_at rows i).period → Passes i l) →
          RowFails i ⊎ RowPasses i
      join (inl x) = inl (x.0, x.2, x.3)
      join (inr all) = inr (λ l tried. all l tried.below tried)

  pub found : (h : ℕ) → (v : Verdict) × Judged rows h (told v)
  unfolding RowFails RowPasses Fails Passes
  found h = by_load (cases_lt h (load_of rows h))
    where
      by_rows :
          load_of rows h ≤ h →
          ((i : ℕ) × (i < length rows) × RowFails i × ((k : ℕ) → k < i → RowPasses k)) ⊎
          ((i : ℕ) → i < length rows → RowPasses i) →
          (v : Verdict) × Judged rows h (told v)
      by_rows light (inl x) =
          let fails = x.2 in
          let first : FirstFailing rows x.0 fails.0
          = record {
            tried = fails.1.0;
            fails = fails.1.1;
            earlier = λ k m l. x.3 k l m;
            shorter = fails.2;
          } in (
            Blocked (x.0 + 1) fails.0,
            record {
              load_fits = light;
              numbered = omega arith;
              first = subst (λ i. FirstFailing rows i fails.0) (sym (add-sub_cancel x.0 1)) first;
            },
          )
      by_rows light (inr all) =
          (Fit, record { load_fits = light; unblocked = λ i l tried. all i tried.within l tried; no_values = (refl, refl) })

      by_load : (h < load_of rows h) ⊎ (load_of rows h ≤ h) → (v : Verdict) × Judged rows h (told v)
      by_load (inl heavy) = (Overloaded h (load_of rows h), record { load_exceeds = heavy; first_is = refl; second_is = refl })
      by_load (inr light) = by_rows light (first_place (length rows) RowFails RowPasses at_row)

  -- the first failing row and length are unique
  same_first :
      (i k l m : ℕ) → FirstFailing rows i l → FirstFailing rows k m → (i ≡ k) × (l ≡ m)
  same_first i k l m a b = by_row (cases_order i k)
    where
      low : (i k l m : ℕ) → FirstFailing rows i l → FirstFailing rows k m → i < k → ⊥
      low i k l m a b lt = omega (arith, b.earlier i l lt a.tried, a.fails)

      short : (i l m : ℕ) → FirstFailing rows i l → FirstFailing rows i m → l < m → ⊥
      short i l m a b lt = omega (arith, b.shorter l lt a.tried, a.fails)

      by_length : FirstFailing rows i m → (l ≡ m) ⊎ ((l < m) ⊎ (m < l)) → l ≡ m
      by_length b (inl e) = e
      by_length b (inr (inl lt)) = absurd (short i l m a b lt)
      by_length b (inr (inr gt)) = absurd (short i m l b a gt)

      by_row : (i ≡ k) ⊎ ((i < k) ⊎ (k < i)) → (i ≡ k) × (l ≡ m)
      by_row (inl e) = (e, by_length (subst (λ x. FirstFailing rows x m) (sym e) b) (cases_order l m))
      by_row (inr (inl lt)) = absurd (low i k l m a b lt)
      by_row (inr (inr gt)) = absurd (low k i m l b a gt)

  pub only : (h : ℕ) (v w : Verdict) → Judged rows h (told v) → Judged rows h (told w) → w ≡ v
  only h Fit Fit a b = refl
  only h Fit (Overloaded x y) a b = absurd (never a.load_fits b.load_exceeds)
  only h Fit (Blocked n l) a b = absurd (never (a.unblocked (n - 1) l b.first.tried) b.first.fails)
  only h (Overloaded x y) Fit a b = absurd (never b.load_fits a.load_exceeds)
  only h (Overloaded x y) (Overloaded x' y') a b =
      ap₂ Overloaded (b.first_is ∙ sym a.first_is) (b.second_is ∙ sym a.second_is)
  only h (Overloaded x y) (Blocked n l) a b = absurd (never b.load_fits a.load_exceeds)
  only h (Blocked n l) Fit a b = absurd (never (b.unblocked (n - 1) l a.first.tried) a.first.fails)
  only h (Blocked n l) (Overloaded x y) a b = absurd (never a.load_fits b.load_exceeds)
  only h (Blocked n l) (Blocked n' l') a b =
      let same = same_first (n' - 1) (n - 1) l' l b.first a.first in
      let number : n' ≡ n = omega (arith, same.0, a.numbered, b.numbered) in
      ap₂ Blocked number same.1

pub one_verdict : OneVerdict
one_verdict rows h =
    let v = found rows h in (v.0, v.1, λ w right. only rows h v.0 w v.1 right)
