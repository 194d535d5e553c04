-- One row more at the end of a table.
use Rattle.std.proofs.Common.{◌≡◌, ℕ, ◌+◌, ◌%◌, ◌<◌, ◌≤◌, min, cond, eqb, ◌⊎◌, Some, None, Option, MatchOption, List, [], ◌∷◌, ◌++◌, length, get_or, take, set, sym, refl, ap, ◌∙◌, subst, inl, inr, mod-lt, arith}
use Rattle.feasibility.specs.Divisors.{LeastCommonMultiple}
use Rattle.feasibility.specs.Tables.{row_at, blank, Limited, Sound, Common, Hyperperiod, lower, least_period, least_kept, LeastPeriods}
use Rattle.feasibility.specs.declared.row.Row.{Row}
use Rattle.std.proofs.lemmas.List.{get_or_append_left, get_or_push, get_or-set_same, get_or-set_other, length_push, take_more_set}
use Rattle.std.proofs.lemmas.Bool.{cases_eq, cond-true, cond-false, eq-eqb, ne_eqb}
use Rattle.std.proofs.lemmas.Bool.Decides.{nat_tests}
use native.Mathlib.Nat.{dvd-mod_iff, dvd_of_mod-eq-zero, dvd_trans, mod-eq-zero_of_dvd}

-- the places of a table with one row more: those that it had, and the last
module _ (xs : List Row) (x : Row) where
  pub row_before : (j : ℕ) → j < length xs → row_at (xs ++ x ∷ []) j ≡ row_at xs j
  row_before j l = get_or_append_left xs (x ∷ []) blank j l

  pub row_last : row_at (xs ++ x ∷ []) (length xs) ≡ x
  row_last = get_or_push xs x blank (length xs) refl

  pub each_place :
      (P : Row → Type 0) → ((j : ℕ) → j < length xs → P (row_at xs j)) → P x →
      (j : ℕ) → j < length (xs ++ x ∷ []) → P (row_at (xs ++ x ∷ []) j)
  each_place P old new j l = at (cases_eq j (length xs))
    where
      at : (j ≡ length xs) ⊎ (j ≡ length xs → ⊥) → P (row_at (xs ++ x ∷ []) j)
      at (inl e) = subst (λ n. P (row_at (xs ++ x ∷ []) n)) (sym e) (subst P (sym row_last) new)
      at (inr ne) =
          let in_front : j < length xs = omega (arith, length_push xs x) in
          subst P (sym (row_before j in_front)) (old j in_front)

  pub sound_push : Sound xs → Limited x → Sound (xs ++ x ∷ [])
  sound_push = each_place Limited

  common_before : (m : ℕ) → Common (xs ++ x ∷ []) m → Common xs m
  common_before m common j l =
      ap (λ y. m % y.period) (sym (row_before j l)) ∙ common j (omega (arith, length_push xs x))

  common_last : (m : ℕ) → Common (xs ++ x ∷ []) m → m % x.period ≡ 0
  common_last m common =
      ap (λ y. m % y.period) (sym row_last) ∙ common (length xs) (omega (arith, length_push xs x))

-- the rows after a write behind the first n
pub rows_after :
    (cells after : List Row) (n : ℕ) (x : Row) → n < length cells → after ≡ set cells n x →
    take (n + 1) after ≡ take n cells ++ x ∷ []
rows_after cells after n x room e = ap (take (n + 1)) e ∙ take_more_set cells n x room

-- the hyperperiod divides whatever all periods divide: the rest would be a lower such number
pub hyperperiod_divides : (xs : List Row) (h m : ℕ) → Hyperperiod xs h → Common xs m → m % h ≡ 0
hyperperiod_divides xs h m whole common = at (cases_eq (m % h) 0)
  where
    rest : Common xs (m % h)
    rest j l =
        mod-eq-zero_of_dvd (row_at xs j).period
        ((dvd-mod_iff (row_at xs j).period (dvd_of_mod-eq-zero (row_at xs j).period (whole.1 j l))).1
        (dvd_of_mod-eq-zero (row_at xs j).period (common j l)))

    at : (m % h ≡ 0) ⊎ (m % h ≡ 0 → ⊥) → m % h ≡ 0
    at (inl z) = z
    at (inr nz) = omega (arith, whole.2 (m % h) (omega arith) rest, mod-lt m whole.0)

pub hyperperiod_push :
    (xs : List Row) (x : Row) (h n : ℕ) → Hyperperiod xs h → LeastCommonMultiple h x.period n →
    Hyperperiod (xs ++ x ∷ []) n
hyperperiod_push xs x h n whole lcm = (
  lcm.positive,
  each_place xs x (λ y. n % y.period ≡ 0) old lcm.second,
  λ m pos common.
      lcm.least m pos (hyperperiod_divides xs h m whole (common_before xs x m common)) (common_last xs x m common),
)
  where
    old : (j : ℕ) → j < length xs → n % (row_at xs j).period ≡ 0
    old j l =
        let p : ℕ = (row_at xs j).period in
        mod-eq-zero_of_dvd p (dvd_trans p (dvd_of_mod-eq-zero p (whole.1 j l)) (dvd_of_mod-eq-zero h lcm.first))

lower_assoc : (p q r : ℕ) → lower p (lower q r) ≡ lower (lower p q) r
lower_assoc p q r = grind (arith, nat_tests)

lower_none : (p : ℕ) → lower p 0 ≡ p
lower_none p = grind (arith, nat_tests)

pub least_push :
    (xs : List Row) (x : Row) (r : ℕ) →
    least_period (xs ++ x ∷ []) r ≡ lower (least_period xs r) (cond (eqb x.store r) x.period 0)
least_push [] x r = grind (arith, nat_tests)
least_push (y ∷ xs) x r =
    ap (lower (cond (eqb y.store r) y.period 0)) (least_push xs x r) ∙
    lower_assoc (cond (eqb y.store r) y.period 0) (least_period xs r) (cond (eqb x.store r) x.period 0)

-- a period that is kept where there is one
kept : ℕ → Option ℕ
kept p = cond (eqb p 0) None (Some p)

-- n is kept where one row more has the period p, and q was the least before, if there was one
kept_lower :
    (q p n : ℕ) → 0 < p → MatchOption (kept q) (n ≡ p) (λ m. n ≡ min m p) → Some n ≡ kept (lower q p)
unfolding kept
kept_lower q p n some is = grind (arith, nat_tests)

-- the least periods by store, with one row more
pub least_with :
    (least : List (Option ℕ)) (rows : List Row) (x : Row) (n : ℕ) → LeastPeriods least rows → 0 < x.period →
    x.store < length least → x.store ≤ 8 →
    MatchOption (get_or least x.store None) (n ≡ x.period) (λ m. n ≡ min m x.period) →
    LeastPeriods (set least x.store (Some n)) (rows ++ x ∷ [])
unfolding kept
least_with least rows x n known some room within is r l = at (cases_eq x.store r)
  where
    at :
        (x.store ≡ r) ⊎ (x.store ≡ r → ⊥) →
        get_or (set least x.store (Some n)) r None ≡ least_kept (rows ++ x ∷ []) r
    at (inl e) =
        let here : MatchOption (kept (least_period rows x.store)) (n ≡ x.period) (λ m. n ≡ min m x.period)
        = subst (λ o. MatchOption o (n ≡ x.period) (λ m. n ≡ min m x.period)) (known x.store within) is in
        let last : least_period (rows ++ x ∷ []) x.store ≡ lower (least_period rows x.store) x.period
        = least_push rows x x.store ∙
        ap (lower (least_period rows x.store)) (cond-true (eqb x.store x.store) x.period 0 (eq-eqb x.store x.store refl)) in
        ap (λ i. get_or (set least x.store (Some n)) i None) (sym e) ∙
        get_or-set_same least x.store (Some n) None room ∙
        kept_lower (least_period rows x.store) x.period n some here ∙ ap kept (sym last) ∙
        ap (least_kept (rows ++ x ∷ [])) e
    at (inr ne) =
        let same : least_period (rows ++ x ∷ []) r ≡ least_period rows r
        = least_push rows x r ∙
        ap (lower (least_period rows r)) (cond-false (eqb x.store r) x.period 0 (ne_eqb x.store r ne)) ∙
        lower_none (least_period rows r) in
        get_or-set_other least x.store r (Some n) None (λ e. ne (sym e)) ∙ known r l ∙ ap kept (sym same)
