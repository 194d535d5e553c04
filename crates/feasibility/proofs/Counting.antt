-- A tick gives at most one unit, and what follows for all jobs together.
use Rattle.std.proofs.Common.{◌≡◌, ℕ, zero, suc, ◌+◌, ◌-◌, ◌*◌, ◌<◌, ◌≤◌, true, false, cond, eqb, ◌⊎◌, List, length, Some, None, Option, refl, ap, ◌∙◌, ap₂, inl, inr, add-zero, add-suc, mul-lt-mul_of_pos_right, arith}
use Rattle.feasibility.proofs.Totals.{sum_add, sum_const, sum_le, sum_same, sum_zero}
use Rattle.feasibility.specs.Schedules.{Job, Schedule, unit, units, Finished}
use Rattle.feasibility.specs.Sums.{Σ<}
use Rattle.feasibility.specs.Tables.{row_at}
use Rattle.feasibility.specs.declared.row.Row.{Row}
use Rattle.std.proofs.lemmas.Bool.{cases_Bool, cases_eq, cond-false, cond-true, eq-eqb, ne_eqb}

-- the job of row j requested at a
abbrev pub job : ℕ → ℕ → Job
job j a = record { of = j; at = a }

-- a number is at most once in a rising sequence
once : (m a : ℕ) (g : ℕ → ℕ) → ((k l : ℕ) → k < l → g k < g l) → Σ< m (λ k. cond (eqb a (g k)) 1 0) ≤ 1
once zero a g up = omega arith
once (suc m) a g up = at (once m a g up) (cases_eq a (g m))
  where
    is : ℕ → ℕ
    is k = cond (eqb a (g k)) 1 0

    at : Σ< m is ≤ 1 → (a ≡ g m) ⊎ (a ≡ g m → ⊥) → Σ< m is + is m ≤ 1
    at le (inl e) =
        omega (
          arith,
          sum_zero m,
          sum_same m is (λ _. 0) (λ k l. cond-false (eqb a (g k)) 1 0 (ne_eqb a (g k) (λ f. absurd (differ k l f)))),
          cond-true {A = ℕ} (eqb a (g m)) 1 0 (eq-eqb a (g m) e),
        )
      where
        differ : (k : ℕ) → k < m → a ≡ g k → ⊥
        differ k l f = omega (arith, up k m l)
    at le (inr ne) = omega (arith, cond-false {A = ℕ} (eqb a (g m)) 1 0 (ne_eqb a (g m) ne))

-- m j jobs of each of n rows, requested at the rising times g j 0, g j 1, ..
module _ (n : ℕ) (m : ℕ → ℕ) (g : ℕ → ℕ → ℕ) (up : (j : ℕ) → j < n → (k l : ℕ) → k < l → g j k < g j l) where
  -- a tick gives them one unit at most
  one_unit : (o : Option Job) → Σ< n (λ j. Σ< (m j) (λ k. unit o (job j (g j k)))) ≤ 1
  one_unit None =
      omega (
        arith,
        sum_zero n,
        sum_same n (λ j. Σ< (m j) (λ k. unit None (job j (g j k)))) (λ _. 0) (λ j l. sum_zero (m j)),
      )
  one_unit (Some x) =
      omega (
        arith,
        once n x.of (λ j. j) (λ k l h. h),
        sum_le n (λ j. Σ< (m j) (λ k. unit (Some x) (job j (g j k)))) (λ j. cond (eqb x.of j) 1 0)
            (λ j l. row_at j l (cases_Bool (eqb x.of j))),
      )
    where
      row_at :
          (j : ℕ) → j < n → (eqb x.of j ≡ true) ⊎ (eqb x.of j ≡ false) →
          Σ< (m j) (λ k. unit (Some x) (job j (g j k))) ≤ cond (eqb x.of j) 1 0
      row_at j l (inl t) =
          omega (
            arith,
            once (m j) x.at (g j) (up j l),
            cond-true {A = ℕ} (eqb x.of j) 1 0 t,
            sum_same (m j) (λ k. unit (Some x) (job j (g j k))) (λ k. cond (eqb x.at (g j k)) 1 0)
                (λ k _. cond-true (eqb x.of j) (cond (eqb x.at (g j k)) 1 0) 0 t),
          )
      row_at j l (inr f) =
          omega (
            arith,
            sum_zero (m j),
            sum_same (m j) (λ k. unit (Some x) (job j (g j k))) (λ _. 0)
                (λ k _. cond-false (eqb x.of j) (cond (eqb x.at (g j k)) 1 0) 0 f),
          )

  -- t ticks give them t units at most
  units_fit : (s : Schedule) (t : ℕ) → Σ< n (λ j. Σ< (m j) (λ k. units s (job j (g j k)) t)) ≤ t
  units_fit s zero =
      omega (
        arith,
        sum_zero n,
        sum_same n (λ j. Σ< (m j) (λ k. units s (job j (g j k)) 0)) (λ _. 0) (λ j l. sum_zero (m j)),
      )
  units_fit s (suc t) =
      omega (
        arith,
        units_fit s t,
        one_unit (s t),
        sum_add n (λ j. Σ< (m j) (λ k. units s (job j (g j k)) t)) (λ j. Σ< (m j) (λ k. unit (s t) (job j (g j k)))),
        sum_same n (λ j. Σ< (m j) (λ k. units s (job j (g j k)) (suc t)))
            (λ j. Σ< (m j) (λ k. units s (job j (g j k)) t) + Σ< (m j) (λ k. unit (s t) (job j (g j k))))
            (λ j l. sum_add (m j) (λ k. units s (job j (g j k)) t) (λ k. unit (s t) (job j (g j k)))),
      )

-- m j jobs of each row j, requested at b j and at each period after it, all finished at l: their costs fit into l ticks
pub finished_fit :
    (rows : List Row) (s : Schedule) (m b : ℕ → ℕ) (l : ℕ) → ((j : ℕ) → j < length rows → 0 < (row_at rows j).period) →
    ((j k : ℕ) → j < length rows → k < m j → Finished rows s (job j (b j + k * (row_at rows j).period)) l) →
    Σ< (length rows) (λ j. m j * (row_at rows j).cost) ≤ l
finished_fit rows s m b l positive done =
    omega (
      arith,
      units_fit n m g rise s l,
      sum_le n (λ j. m j * (row_at rows j).cost) (λ j. Σ< (m j) (λ k. units s (job j (g j k)) l)) each,
    )
  where
    n : ℕ
    n = length rows

    g : ℕ → ℕ → ℕ
    g j k = b j + k * (row_at rows j).period

    rise : (j : ℕ) → j < n → (k l : ℕ) → k < l → g j k < g j l
    rise j lj k l lt = omega (arith, mul-lt-mul_of_pos_right lt (positive j lj))

    each : (j : ℕ) → j < n → m j * (row_at rows j).cost ≤ Σ< (m j) (λ k. units s (job j (g j k)) l)
    each j lj =
        omega (
          arith,
          sum_const (m j) (row_at rows j).cost,
          sum_le (m j) (λ _. (row_at rows j).cost) (λ k. units s (job j (g j k)) l) (λ k lk. done j k lj lk),
        )

-- units are never taken back
units_rise : (s : Schedule) (b : Job) (t d : ℕ) → units s b t ≤ units s b (t + d)
units_rise s b t zero = omega (arith, ap (units s b) (add-zero t))
units_rise s b t (suc d) = omega (arith, units_rise s b t d, ap (units s b) (add-suc t d))

pub units_later : (s : Schedule) (b : Job) (t u : ℕ) → t ≤ u → units s b t ≤ units s b u
units_later s b t u le =
    let e : t + (u - t) ≡ u = omega arith in omega (arith, units_rise s b t (u - t), ap (units s b) e)

-- a tick is given to a job, or gives it nothing
pub unit_cases : (o : Option Job) (b : Job) → (o ≡ Some b) ⊎ (unit o b ≡ 0)
unit_cases None b = inr refl
unit_cases (Some x) b = at (cases_eq x.of b.of) (cases_eq x.at b.at)
  where
    at :
        (x.of ≡ b.of) ⊎ (x.of ≡ b.of → ⊥) → (x.at ≡ b.at) ⊎ (x.at ≡ b.at → ⊥) →
        (◌≡◌ {A = Option Job} (Some x) (Some b)) ⊎ (unit (Some x) b ≡ 0)
    at (inl p) (inl q) = inl (ap₂ (λ j a. Some (job j a)) p q)
    at (inl p) (inr q) =
        inr
        (cond-true (eqb x.of b.of) (cond (eqb x.at b.at) 1 0) 0 (eq-eqb x.of b.of p) ∙
        cond-false (eqb x.at b.at) 1 0 (ne_eqb x.at b.at q))
    at (inr p) _ =
        inr (cond-false (eqb x.of b.of) (cond (eqb x.at b.at) 1 0) 0 (ne_eqb x.of b.of p))

pub unit_is : (o : Option Job) (b : Job) → o ≡ Some b → unit o b ≡ 1
unit_is o b e =
    ap (λ x. unit x b) e ∙
    cond-true (eqb b.of b.of) (cond (eqb b.at b.at) 1 0) 0 (eq-eqb b.of b.of refl) ∙
    cond-true (eqb b.at b.at) 1 0 (eq-eqb b.at b.at refl)

-- a job that has had a unit had one in some tick
pub some_unit : (s : Schedule) (b : Job) (t : ℕ) → 1 ≤ units s b t → (u : ℕ) × (u < t) × (s u ≡ Some b)
some_unit s b zero h = absurd (none h)
  where
    none : 1 ≤ 0 → ⊥
    none h' = omega arith
some_unit s b (suc t) h = at (some_unit s b t) (unit_cases (s t) b)
  where
    at :
        (1 ≤ units s b t → (u : ℕ) × (u < t) × (s u ≡ Some b)) → (s t ≡ Some b) ⊎ (unit (s t) b ≡ 0) →
        (u : ℕ) × (u < suc t) × (s u ≡ Some b)
    at before (inl e) = (t, omega arith, e)
    at before (inr z) = let x = before (omega arith) in (x.0, omega (arith, x.1), x.2)
