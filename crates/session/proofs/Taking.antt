-- A table takes a row or refuses it, with one cause, and never both.
use Rattle.std.proofs.Common.{◌≡◌, ℕ, suc, ◌%◌, ◌<◌, ◌≤◌, Bool, true, false, cond, ◌||◌, eqb, ltb, leb, ◌≢◌, ◌⊎◌, List, [], ◌∷◌, ◌++◌, length, sym, refl, ap, ◌∙◌, inl, inr, arith}
use Rattle.feasibility.proofs.OneVerdict.{first_place}
use Rattle.feasibility.specs.Drafts.{Taken, Refused, fault}
use Rattle.feasibility.specs.Limits.{max_hyperperiod, max_period, max_rows, max_store}
use Rattle.feasibility.specs.Refusals.{refusal_number}
use Rattle.feasibility.specs.Tables.{Common, Hyperperiod, row_at}
use Rattle.feasibility.specs.declared.row.Row.{Row}
use Rattle.feasibility.specs.declared.row.RowRefusal.{RowRefusal}
use Rattle.feasibility.specs.declared.row.RowRefusal.TheVariants.{Cost, Period, Store, Full, Hyperperiod as IsTooLong}
use Rattle.std.proofs.lemmas.Bool.{cases_eq, cases_lt}

-- whether every period divides m
all_divide : (rows : List Row) (m : ℕ) → Common rows m ⊎ (Common rows m → ⊥)
all_divide rows m =
    by (first_place (length rows) (λ j. m % (row_at rows j).period ≢ 0) (λ j. m % (row_at rows j).period ≡ 0) each)
  where
    each : (j : ℕ) → j < length rows → (m % (row_at rows j).period ≢ 0) ⊎ (m % (row_at rows j).period ≡ 0)
    each j _ = turn (cases_eq (m % (row_at rows j).period) 0)
      where
        turn :
            (m % (row_at rows j).period ≡ 0) ⊎ (m % (row_at rows j).period ≢ 0) →
            (m % (row_at rows j).period ≢ 0) ⊎ (m % (row_at rows j).period ≡ 0)
        turn (inl z) = inr z
        turn (inr nz) = inl nz

    by :
        ((j : ℕ) × (j < length rows) × (m % (row_at rows j).period ≢ 0) ×
        ((k : ℕ) → k < j → m % (row_at rows k).period ≡ 0)) ⊎
        ((j : ℕ) → j < length rows → m % (row_at rows j).period ≡ 0) →
        Common rows m ⊎ (Common rows m → ⊥)
    by (inl x) = inr (λ common. x.2 (common x.0 x.1))
    by (inr all) = inl all

-- the least common multiple of the periods, looked for up to a limit
abbrev Multiple : List Row → ℕ → Type 0
Multiple rows m = (0 < m) × Common rows m

abbrev NoneTo : List Row → ℕ → Type 0
NoneTo rows max = (m : ℕ) → 0 < m → Common rows m → max < m

hyperperiod_to : (max : ℕ) (rows : List Row) → ((h : ℕ) × Hyperperiod rows h × (h ≤ max)) ⊎ NoneTo rows max
hyperperiod_to max rows = by (first_place (suc max) (Multiple rows) (λ m. Multiple rows m → ⊥) each)
  where
    each : (m : ℕ) → m < suc max → Multiple rows m ⊎ (Multiple rows m → ⊥)
    each m _ = both (cases_lt 0 m) (all_divide rows m)
      where
        both : (0 < m) ⊎ (m ≤ 0) → Common rows m ⊎ (Common rows m → ⊥) → Multiple rows m ⊎ (Multiple rows m → ⊥)
        both (inl pos) (inl all) = inl (pos, all)
        both (inl pos) (inr not) = inr (λ x. not x.1)
        both (inr zero) _ = inr (λ x. omega (arith, x.0))

    by :
        ((h : ℕ) × (h < suc max) × Multiple rows h × ((m : ℕ) → m < h → Multiple rows m → ⊥)) ⊎
        ((m : ℕ) → m < suc max → Multiple rows m → ⊥) →
        ((h : ℕ) × Hyperperiod rows h × (h ≤ max)) ⊎ NoneTo rows max
    by (inl x) = inl (x.0, (x.2.0, x.2.1, λ m pos all. least m pos all (cases_lt m x.0)), omega (arith, x.1))
      where
        least : (m : ℕ) → 0 < m → Common rows m → (m < x.0) ⊎ (x.0 ≤ m) → x.0 ≤ m
        least m pos all (inl lower) = absurd (x.3 m lower (pos, all))
        least m pos all (inr le) = le
    by (inr none) = inr (λ m pos all. above m pos all (cases_lt max m))
      where
        above : (m : ℕ) → 0 < m → Common rows m → (max < m) ⊎ (m ≤ max) → max < m
        above m pos all (inl lt) = lt
        above m pos all (inr le) = absurd (none m (omega arith) (pos, all))

-- the limit that a row breaks is one of those that refusals are told of
cause : (rows : List Row) (x : Row) → fault rows x ≢ 0 → (e : RowRefusal) × (refusal_number e ≡ fault rows x)
cause rows x =
    by (leb max_rows (length rows)) (eqb x.period 0 || ltb max_period x.period)
    (eqb x.cost 0 || ltb x.period x.cost) (ltb max_store x.store)
  where
    by :
        (full period cost store : Bool) →
        let n : ℕ = cond full 4 (cond period 2 (cond cost 1 (cond store 3 0))) in
        n ≢ 0 → (e : RowRefusal) × (refusal_number e ≡ n)
    by true _ _ _ _ = (Full, refl)
    by false true _ _ _ = (Period, refl)
    by false false true _ _ = (Cost, refl)
    by false false false true _ = (Store, refl)
    by false false false false nz = absurd (nz refl)

pub taken_or_refused :
    (rows : List Row) (x : Row) →
    ((h : ℕ) × Taken rows x (rows ++ x ∷ []) h) ⊎ ((e : RowRefusal) × Refused rows x (refusal_number e))
taken_or_refused rows x = by (cases_eq (fault rows x) 0)
  where
    by :
        (fault rows x ≡ 0) ⊎ (fault rows x ≢ 0) →
        ((h : ℕ) × Taken rows x (rows ++ x ∷ []) h) ⊎ ((e : RowRefusal) × Refused rows x (refusal_number e))
    by (inr nz) =
        let of = cause rows x nz in
        inr (of.0, record { faulty = λ _. of.1; too_long = λ z. absurd (nz z) })
    by (inl z) = long (hyperperiod_to max_hyperperiod (rows ++ x ∷ []))
      where
        long :
            ((h : ℕ) × Hyperperiod (rows ++ x ∷ []) h × (h ≤ max_hyperperiod)) ⊎
            NoneTo (rows ++ x ∷ []) max_hyperperiod →
            ((h : ℕ) × Taken rows x (rows ++ x ∷ []) h) ⊎ ((e : RowRefusal) × Refused rows x (refusal_number e))
        long (inl h) = inl (h.0, record { faultless = z; hyperperiod = h.1; within = h.2; after = refl })
        long (inr none) = inr (IsTooLong, record { faulty = λ nz. absurd (nz z); too_long = λ _. (refl, none) })

module _ {rows : List Row} {x : Row} where
  pub not_both : {rows' : List Row} {h n : ℕ} → Taken rows x rows' h → Refused rows x n → ⊥
  not_both {h = h} t r =
      omega (arith, (r.too_long t.faultless).1 h t.hyperperiod.0 t.hyperperiod.1, t.within)

  one_number : {n m : ℕ} → Refused rows x n → Refused rows x m → n ≡ m
  one_number {n} {m} a b = by (cases_eq (fault rows x) 0)
    where
      by : (fault rows x ≡ 0) ⊎ (fault rows x ≢ 0) → n ≡ m
      by (inl z) = (a.too_long z).0 ∙ sym (b.too_long z).0
      by (inr nz) = a.faulty nz ∙ sym (b.faulty nz)

  pub one_cause :
      (e e' : RowRefusal) → Refused rows x (refusal_number e) → Refused rows x (refusal_number e') → e ≡ e'
  one_cause e e' a b = sym (told e) ∙ ap refusal_of (one_number a b) ∙ told e'
    where
      refusal_of : ℕ → RowRefusal
      refusal_of n = cond (eqb n 1) Cost (cond (eqb n 2) Period (cond (eqb n 3) Store (cond (eqb n 4) Full IsTooLong)))

      told : (e : RowRefusal) → refusal_of (refusal_number e) ≡ e
      told Cost = refl
      told Period = refl
      told Store = refl
      told Full = refl
      told IsTooLong = refl
