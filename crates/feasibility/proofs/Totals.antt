-- Sums over the places below n.
use Rattle.std.proofs.Common.{◌≡◌, ℕ, zero, suc, ◌+◌, ◌*◌, ◌<◌, ◌≤◌, cond, eqb, ◌≢◌, ◌⊎◌, sym, refl, ap, ◌∙◌, inl, inr, add-one, arith}
use Rattle.std.proofs.lemmas.Bool.{cases_eq, eq-eqb, ne_eqb, cond-true, cond-false}
use Rattle.feasibility.specs.Sums.{Σ<, Σ<_but}

pub sum_le :
    (n : ℕ) (f g : ℕ → ℕ) → ((j : ℕ) → j < n → f j ≤ g j) → Σ< n f ≤ Σ< n g
sum_le zero f g h = omega arith
sum_le (suc n) f g h = omega (arith, sum_le n f g (λ j l. h j (omega arith)), h n (omega arith))

pub sum_same :
    (n : ℕ) (f g : ℕ → ℕ) → ((j : ℕ) → j < n → f j ≡ g j) → Σ< n f ≡ Σ< n g
sum_same zero f g h = refl
sum_same (suc n) f g h = omega (arith, sum_same n f g (λ j l. h j (omega arith)), h n (omega arith))

pub sum_times : (n k : ℕ) (f : ℕ → ℕ) → Σ< n (λ j. k * f j) ≡ k * Σ< n f
sum_times zero k f = omega arith
sum_times (suc n) k f = omega (arith, sum_times n k f)

pub sum_add : (n : ℕ) (f g : ℕ → ℕ) → Σ< n (λ j. f j + g j) ≡ Σ< n f + Σ< n g
sum_add zero f g = omega arith
sum_add (suc n) f g = omega (arith, sum_add n f g)

pub sum_zero : (n : ℕ) → Σ< n (λ _. 0) ≡ 0
sum_zero zero = refl
sum_zero (suc n) = omega (arith, sum_zero n)

-- f is at most g but at i, where it may be more by m and must be less by k
pub sum_le_at :
    (n i k m : ℕ) (f g : ℕ → ℕ) → i < n → ((j : ℕ) → j < n → j ≢ i → f j ≤ g j) → f i + k ≤ g i + m →
    Σ< n f + k ≤ Σ< n g + m
sum_le_at zero i k m f g l h e = omega arith
sum_le_at (suc n) i k m f g l h e =
    at_last (λ l'. sum_le_at n i k m f g l' (λ j lj. h j (omega arith)) e) (cases_eq n i)
  where
    at_last : (i < n → Σ< n f + k ≤ Σ< n g + m) → (n ≡ i) ⊎ (n ≡ i → ⊥) → Σ< (suc n) f + k ≤ Σ< (suc n) g + m
    at_last below (inl p) =
        let rest : Σ< n f ≤ Σ< n g = sum_le n f g (λ j lj. h j (omega arith) (omega arith)) in
        let f_at : f n ≡ f i = ap f p in
        let g_at : g n ≡ g i = ap g p in
        omega arith
    at_last below (inr p) = omega (arith, below (omega arith), h n (omega arith) p)

-- the sum, with the term at i taken out
pub sum_split : (n i : ℕ) (f : ℕ → ℕ) → i < n → Σ< n f ≡ f i + Σ<_but n i f
sum_split n i f l = omega (arith, up, down)
  where
    but : ℕ → ℕ
    but j = cond (eqb j i) 0 (f j)

    at_i : but i ≡ 0
    at_i = cond-true (eqb i i) 0 (f i) (eq-eqb i i refl)

    off_i : (j : ℕ) → j ≢ i → but j ≡ f j
    off_i j p = cond-false (eqb j i) 0 (f j) (ne_eqb j i p)

    up : Σ< n f + 0 ≤ Σ< n but + f i
    up = sum_le_at n i 0 (f i) f but l (λ j lj p. omega (arith, off_i j p)) (omega (arith, at_i))

    down : Σ< n but + f i ≤ Σ< n f + 0
    down = sum_le_at n i (f i) 0 but f l (λ j lj p. omega (arith, off_i j p)) (omega (arith, at_i))

-- one term of a sum is at most the sum
pub term_le_sum : (n i : ℕ) (f : ℕ → ℕ) → i < n → f i ≤ Σ< n f
term_le_sum n i f l = omega (arith, sum_split n i f l)

pub but_same :
    (n i : ℕ) (f g : ℕ → ℕ) → ((j : ℕ) → j < n → j ≢ i → f j ≡ g j) → Σ<_but n i f ≡ Σ<_but n i g
but_same n i f g h =
    sum_same n (λ j. cond (eqb j i) 0 (f j)) (λ j. cond (eqb j i) 0 (g j)) (λ j l. at j l (cases_eq j i))
  where
    at : (j : ℕ) → j < n → (j ≡ i) ⊎ (j ≡ i → ⊥) → cond (eqb j i) 0 (f j) ≡ cond (eqb j i) 0 (g j)
    at j l (inl e) =
        cond-true (eqb j i) 0 (f j) (eq-eqb j i e) ∙ sym (cond-true (eqb j i) 0 (g j) (eq-eqb j i e))
    at j l (inr ne) = ap (cond (eqb j i) 0) (h j l ne)

pub sum_const : (n c : ℕ) → Σ< n (λ _. c) ≡ n * c
sum_const zero c = omega arith
sum_const (suc n) c = omega (arith, sum_const n c)

-- one more term, as a loop has it
pub sum_more : (n : ℕ) (f : ℕ → ℕ) → Σ< (n + 1) f ≡ Σ< n f + f n
sum_more n f = ap (λ m. Σ< m f) (add-one n)
