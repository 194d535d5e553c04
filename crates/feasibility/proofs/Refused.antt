-- A refused table is hopeless: under the requests that its verdict names, every schedule is late.
use Rattle.std.proofs.Common.{◌≡◌, ℕ, ◌+◌, ◌-◌, ◌*◌, ◌/◌, ◌%◌, ◌<◌, ◌≤◌, true, false, cond, eqb, ◌≢◌, ◌⊎◌, List, length, Some, None, Option, sym, refl, ap, ◌∙◌, subst, ap₂, inl, inr, le_trans, mul-le-mul_left, arith}
use Rattle.feasibility.proofs.Counting.{job, finished_fit, some_unit, unit_is, units_later}
use Rattle.feasibility.proofs.Demands.{jobs, positive, demand_is, share_is, jobs_due, jobs_some}
use Rattle.feasibility.proofs.OneVerdict.{first_place}
use Rattle.feasibility.proofs.Stores.{least_bound, least_law}
use Rattle.feasibility.proofs.Totals.{but_same, sum_same, sum_split}
use Rattle.feasibility.specs.Hopeless.{
  all_at_once,
  one_before,
  BlockingIsHopeless,
  OverloadIsHopeless,
  RefusalsAreDeserved,
}
use Rattle.feasibility.specs.Schedules.{Job, Requests, Schedule, Lawful, due, units, Requested, Finished, Unfinished, Serves, Busy, Unshared, LateBy}
use Rattle.feasibility.specs.Sums.{Σ<}
use Rattle.feasibility.specs.Tables.{row_at, Sound, load_of, share, least_period, Least}
use Rattle.feasibility.specs.Verdicts.{demand, needed, Tried, FirstFailing}
use Rattle.feasibility.specs.declared.row.Row.{Row}
use Rattle.feasibility.specs.declared.verdict.Verdict.TheVariants.{Fit, Overloaded, Blocked}
use Rattle.std.proofs.lemmas.Bool.{both_ways, cases_eq, cases_lt, cond-false, cond-true, eq-eqb, eqb-true, ne_eqb}
use native.Mathlib.Nat.{div-add-mod, lt_of_mul-lt-mul_left, mul-mod_left}

-- a schedule is late by l, or all jobs of a row are finished at their due times, that are requested at b and at each
-- period after it, as many as are due within t ticks
module _ (rows : List Row) (sound : Sound rows) (asks : Requests) (s : Schedule) (l : ℕ) where
  nth : ℕ → ℕ → ℕ → Job
  nth j b k = job j (b + k * (row_at rows j).period)

  IsInTime : ℕ → ℕ → ℕ → Type 0
  IsInTime j b t = (k : ℕ) → k < jobs (row_at rows j) t → Finished rows s (nth j b k) l

  row_in_time :
      (j b t : ℕ) → j < length rows → ((k : ℕ) → asks j (b + k * (row_at rows j).period) ≡ true) → b + t ≤ l →
      LateBy rows asks s l ⊎ IsInTime j b t
  unfolding nth IsInTime
  row_in_time j b t lj asked within =
      pick
      (first_place (jobs x t) (λ k. Unfinished rows s (nth j b k) (due rows (nth j b k)))
      (λ k. Finished rows s (nth j b k) (due rows (nth j b k)))
      (λ k _. cases_lt (units s (nth j b k) (due rows (nth j b k))) x.cost))
    where
      x : Row
      x = row_at rows j

      by : (k : ℕ) → k < jobs x t → due rows (nth j b k) ≤ l
      by k lk = omega (arith, jobs_due x t k (positive rows sound j lj) lk)

      pick :
          ((k : ℕ) × (k < jobs x t) × Unfinished rows s (nth j b k) (due rows (nth j b k)) ×
          ((i : ℕ) → i < k → Finished rows s (nth j b i) (due rows (nth j b i)))) ⊎
          ((k : ℕ) → k < jobs x t → Finished rows s (nth j b k) (due rows (nth j b k))) →
          LateBy rows asks s l ⊎ IsInTime j b t
      pick (inl found) =
          inl (record {
            job = nth j b found.0;
            requested = (lj, asked found.0);
            due_by = by found.0 found.1;
            lacks = found.2;
          })
      pick (inr all) =
          inr (λ k lk. le_trans (all k lk) (units_later s (nth j b k) (due rows (nth j b k)) l (by k lk)))

-- two different multiples of p are at least p apart
multiples_apart : (p a b : ℕ) → a % p ≡ 0 → b % p ≡ 0 → a < b → a + p ≤ b
multiples_apart p a b za zb lt =
    let ea = div-add-mod a p in
    let eb = div-add-mod b p in
    let less : a / p < b / p = lt_of_mul-lt-mul_left p (omega arith) in
    let more : p * (a / p + 1) ≤ p * (b / p) = mul-le-mul_left p (omega arith) in
    omega arith

-- with all rows at once, what is due by h is the load, which is above h
pub overload_is_hopeless : (rows : List Row) (h : ℕ) → Sound rows → h < load_of rows h → OverloadIsHopeless rows h
unfolding nth IsInTime
overload_is_hopeless rows h sound heavy = record { lawful = lawful; late = λ s _. late s }
  where
    n : ℕ
    n = length rows

    asks : Requests
    asks = all_at_once rows

    lawful : Lawful rows asks
    lawful j a b l ea eb lt =
        let p = (row_at rows j).period in multiples_apart p a b (eqb-true (a % p) 0 ea) (eqb-true (b % p) 0 eb) lt

    late : (s : Schedule) → LateBy rows asks s h
    late s =
        at
        (first_place n (λ _. LateBy rows asks s h) (λ j. IsInTime rows sound asks s h j 0 h)
        (λ j lj. row_in_time rows sound asks s h j 0 h lj (asked j) (omega arith)))
      where
        asked : (j k : ℕ) → asks j (0 + k * (row_at rows j).period) ≡ true
        asked j k =
            let p = (row_at rows j).period in
            eq-eqb ((0 + k * p) % p) 0 (ap (λ a. a % p) (omega arith) ∙ mul-mod_left k p)

        at :
            ((j : ℕ) × (j < n) × LateBy rows asks s h × ((i : ℕ) → i < j → IsInTime rows sound asks s h i 0 h)) ⊎
            ((j : ℕ) → j < n → IsInTime rows sound asks s h j 0 h) →
            LateBy rows asks s h
        at (inl found) = found.2
        at (inr all) = absurd over
          where
            fits : Σ< n (λ j. jobs (row_at rows j) h * (row_at rows j).cost) ≤ h
            fits =
                finished_fit rows s (λ j. jobs (row_at rows j) h) (λ _. 0) h (positive rows sound)
                (λ j k lj lk. all j lj k lk)

            over : ⊥
            over =
                omega (
                  arith,
                  fits,
                  sum_same n (λ j. share (row_at rows j) h) (λ j. jobs (row_at rows j) h * (row_at rows j).cost)
                      (λ j _. share_is (row_at rows j) h),
                )

-- the requests of row i, and of the others
module _ (rows : List Row) (i : ℕ) where
  asks_first : one_before rows i i 0 ≡ true
  asks_first = cond-true (eqb i i) (eqb 0 0) _ (eq-eqb i i refl) ∙ eq-eqb 0 0 refl

  first_is : (a : ℕ) → one_before rows i i a ≡ true → a ≡ 0
  first_is a e =
      eqb-true a 0
      (sym
      (cond-true (eqb i i) (eqb a 0) (cond (eqb a 0) false (eqb ((a - 1) % (row_at rows i).period) 0)) (eq-eqb i i refl)) ∙
      e)

  asks_else :
      (j a : ℕ) → j ≢ i → one_before rows i j a ≡ cond (eqb a 0) false (eqb ((a - 1) % (row_at rows j).period) 0)
  asks_else j a ne =
      cond-false (eqb j i) (eqb a 0) (cond (eqb a 0) false (eqb ((a - 1) % (row_at rows j).period) 0)) (ne_eqb j i ne)

  -- a request of another row is 1 past a multiple of its period
  else_is : (j a : ℕ) → j ≢ i → one_before rows i j a ≡ true → (1 ≤ a) × ((a - 1) % (row_at rows j).period ≡ 0)
  else_is j a ne e = at (cases_eq a 0)
    where
      p : ℕ
      p = (row_at rows j).period

      inner : cond (eqb a 0) false (eqb ((a - 1) % p) 0) ≡ true
      inner = sym (asks_else j a ne) ∙ e

      at : (a ≡ 0) ⊎ (a ≡ 0 → ⊥) → (1 ≤ a) × ((a - 1) % p ≡ 0)
      at (inl z) =
          absurd
          (both_ways (cond (eqb a 0) false (eqb ((a - 1) % p) 0))
          (cond-true (eqb a 0) false (eqb ((a - 1) % p) 0) (eq-eqb a 0 z)) inner)
      at (inr nz) = (
        omega arith,
        eqb-true ((a - 1) % p) 0 (sym (cond-false (eqb a 0) false (eqb ((a - 1) % p) 0) (ne_eqb a 0 nz)) ∙ inner),
      )

  else_asks : (j k : ℕ) → j ≢ i → one_before rows i j (1 + k * (row_at rows j).period) ≡ true
  else_asks j k ne =
      asks_else j a ne ∙ cond-false (eqb a 0) false (eqb ((a - 1) % p) 0) (ne_eqb a 0 (omega arith)) ∙
      eq-eqb ((a - 1) % p) 0 (ap (λ x. x % p) less ∙ mul-mod_left k p)
    where
      p : ℕ
      p = (row_at rows j).period

      a : ℕ
      a = 1 + k * p

      less : a - 1 ≡ k * p
      less = omega arith

  one_before_lawful : Lawful rows (one_before rows i)
  one_before_lawful j a b lj ea eb lt = at (cases_eq j i)
    where
      at : (j ≡ i) ⊎ (j ≡ i → ⊥) → a + (row_at rows j).period ≤ b
      at (inl e) = absurd (bad (first_is b (ap (λ x. one_before rows i x b) (sym e) ∙ eb)))
        where
          bad : b ≡ 0 → ⊥
          bad z = omega arith
      at (inr ne) =
          let xa = else_is j a ne ea in
          let xb = else_is j b ne eb in
          omega (arith, multiples_apart (row_at rows j).period (a - 1) (b - 1) xa.1 xb.1 (omega (arith, xa.0)))

-- with row i just before all others: it gets the first tick, so it is finished before the store's most urgent user is,
-- and with what the others have due by l that is more than l
module _
    (rows : List Row) (sound : Sound rows) (i l : ℕ) (tried : Tried rows i l) (fails : l < needed rows i l)
    (s : Schedule) (serves : Serves rows (one_before rows i) s l) (busy : Busy rows (one_before rows i) s l)
    (unshared : Unshared rows s l) where
  some_ticks : 0 < l
  some_ticks = omega (arith, tried.above)

  -- the first tick goes to row i: it is the only one that is requested
  first_tick : s 0 ≡ Some (job i 0)
  first_tick = at (s 0) refl
    where
      at : (o : Option Job) → s 0 ≡ o → s 0 ≡ Some (job i 0)
      at None e = absurd (idle (busy 0 (job i 0) some_ticks e (tried.within, asks_first rows i) (omega arith)))
        where
          idle : (row_at rows i).cost ≤ units s (job i 0) 0 → ⊥
          idle le = omega (arith, sound i tried.within)
      at (Some b) e = which (cases_eq b.of i)
        where
          served : Requested rows (one_before rows i) b × (b.at ≤ 0) × Unfinished rows s b 0
          served = serves 0 b some_ticks e

          which : (b.of ≡ i) ⊎ (b.of ≡ i → ⊥) → s 0 ≡ Some (job i 0)
          which (inl p) =
              let zero_at : b.at ≡ 0 = omega (arith, served.1) in e ∙ ap₂ (λ j a. Some (job j a)) p zero_at
          which (inr ne) = absurd (bad (else_is rows i b.of b.at ne served.0.1).0)
            where
              bad : 1 ≤ b.at → ⊥
              bad le = omega (arith, served.1)

  -- its most urgent rival has the store's least period
  rival : Least rows (row_at rows i).store (least_period rows (row_at rows i).store)
  rival =
      least_law rows (row_at rows i).store sound
      (least_bound rows (row_at rows i).store sound i tried.within refl).0

  rival_below : (row_at rows rival.user).period < l
  rival_below = omega (arith, rival.own, tried.above)

  other : rival.user ≢ i
  other e = omega (arith, ap (λ j. (row_at rows j).period) e, rival_below, tried.below)

  -- as many jobs of each row as are due by l: one of row i, and the others' from 1 on
  count : ℕ → ℕ
  count j = cond (eqb j i) 1 (jobs (row_at rows j) (l - 1))

  start : ℕ → ℕ
  start j = cond (eqb j i) 0 1

  count_i : (j : ℕ) → j ≡ i → (count j ≡ 1) × (start j ≡ 0)
  unfolding count start
  count_i j e =
      (cond-true (eqb j i) 1 (jobs (row_at rows j) (l - 1)) (eq-eqb j i e), cond-true (eqb j i) 0 1 (eq-eqb j i e))

  count_else : (j : ℕ) → j ≢ i → (count j ≡ jobs (row_at rows j) (l - 1)) × (start j ≡ 1)
  unfolding count start
  count_else j ne =
      (cond-false (eqb j i) 1 (jobs (row_at rows j) (l - 1)) (ne_eqb j i ne), cond-false (eqb j i) 0 1 (ne_eqb j i ne))

  -- if all the others are in time
  module _ (all : (j : ℕ) → j < length rows → j ≢ i → IsInTime rows sound (one_before rows i) s l j 1 (l - 1)) where
    -- then the rival had a unit before l, so row i was finished by then
    finished : Finished rows s (job i 0) l
    unfolding nth IsInTime
    finished = at (unshared u b (job i 0) before served.2 apart stored same)
      where
        k : ℕ
        k = rival.user

        b : Job
        b = job k (1 + 0 * (row_at rows k).period)

        k_within : k < length rows
        k_within = rival.within

        served : (u : ℕ) × (u < l) × (s u ≡ Some b)
        served =
            some_unit s b l
            (omega (
              arith,
              sound k k_within,
              all k k_within other 0
                  (jobs_some (row_at rows k) (l - 1) (positive rows sound k k_within)
                  (omega (arith, rival_below))),
            ))

        u : ℕ
        u = served.0

        before : u < l
        before = served.1

        apart : job i 0 ≢ b
        apart e = other (sym (ap (λ y. y.of) e))

        same : (row_at rows i).store ≡ (row_at rows k).store
        same = sym rival.uses

        stored : (row_at rows k).store ≢ 0
        stored z = tried.stored (same ∙ z)

        begun : 1 ≤ units s (job i 0) u
        begun =
            let one : units s (job i 0) 1 ≡ 1 = omega (arith, unit_is (s 0) (job i 0) first_tick) in
            let later : 1 ≤ u = omega (arith, (serves u b before served.2).1) in
            omega (arith, units_later s (job i 0) 1 u later)

        at : (units s (job i 0) u ≡ 0) ⊎ Finished rows s (job i 0) u → Finished rows s (job i 0) l
        at (inl z) = omega (arith, begun)
        at (inr done) = le_trans done (units_later s (job i 0) u l (omega (arith, before)))

    -- so all of them are finished at l, and need more than l
    too_much : ⊥
    unfolding nth IsInTime
    too_much =
        omega (
          arith,
          fails,
          finished_fit rows s count start l (positive rows sound) done,
          sum_split (length rows) i (λ j. count j * (row_at rows j).cost) tried.within,
          ap (λ m. m * (row_at rows i).cost) (count_i i refl).0,
          but_same (length rows) i (λ j. count j * (row_at rows j).cost) (λ j. demand (row_at rows j) (l - 1))
              (λ j _ ne. ap (λ m. m * (row_at rows j).cost) (count_else j ne).0 ∙ sym (demand_is (row_at rows j) (l - 1))),
        )
      where
        done : (j k : ℕ) → j < length rows → k < count j → Finished rows s (job j (start j + k * (row_at rows j).period)) l
        done j k lj lk = which (cases_eq j i)
          where
            which : (j ≡ i) ⊎ (j ≡ i → ⊥) → Finished rows s (job j (start j + k * (row_at rows j).period)) l
            which (inl e) =
                let zero_k : k ≡ 0 = omega (arith, (count_i j e).0) in
                let from : start j + k * (row_at rows j).period ≡ 0
                = omega (arith, (count_i j e).1, ap (λ m. m * (row_at rows j).period) zero_k) in
                omega (arith, finished, ap (λ m. (row_at rows m).cost) e, ap₂ (λ m a. units s (job m a) l) e from)
            which (inr ne) =
                let from : start j + k * (row_at rows j).period ≡ 1 + k * (row_at rows j).period
                = omega (arith, (count_else j ne).1) in
                omega (
                  arith,
                  all j lj ne k (omega (arith, (count_else j ne).0)),
                  ap (λ a. units s (job j a) l) from,
                )

  -- a bounded search finds the late job
  late : LateBy rows (one_before rows i) s l
  late =
      at
      (first_place (length rows) (λ _. LateBy rows (one_before rows i) s l)
      (λ j. j ≢ i → IsInTime rows sound (one_before rows i) s l j 1 (l - 1)) each)
    where
      each :
          (j : ℕ) → j < length rows →
          LateBy rows (one_before rows i) s l ⊎ (j ≢ i → IsInTime rows sound (one_before rows i) s l j 1 (l - 1))
      each j lj = which (cases_eq j i)
        where
          pick :
              LateBy rows (one_before rows i) s l ⊎ IsInTime rows sound (one_before rows i) s l j 1 (l - 1) →
              LateBy rows (one_before rows i) s l ⊎
              (j ≢ i → IsInTime rows sound (one_before rows i) s l j 1 (l - 1))
          pick (inl found) = inl found
          pick (inr in_time) = inr (λ _. in_time)

          which :
              (j ≡ i) ⊎ (j ≡ i → ⊥) →
              LateBy rows (one_before rows i) s l ⊎
              (j ≢ i → IsInTime rows sound (one_before rows i) s l j 1 (l - 1))
          which (inl e) = inr (λ ne. absurd (ne e))
          which (inr ne) =
              pick
              (row_in_time rows sound (one_before rows i) s l j 1 (l - 1) lj (λ k. else_asks rows i j k ne)
              (omega (arith, some_ticks)))

      at :
          ((j : ℕ) × (j < length rows) × LateBy rows (one_before rows i) s l ×
          ((k : ℕ) → k < j → k ≢ i → IsInTime rows sound (one_before rows i) s l k 1 (l - 1))) ⊎
          ((j : ℕ) → j < length rows → j ≢ i → IsInTime rows sound (one_before rows i) s l j 1 (l - 1)) →
          LateBy rows (one_before rows i) s l
      at (inl found) = found.2
      at (inr all) = absurd (too_much all)

pub blocking_is_hopeless :
    (rows : List Row) (i l : ℕ) → Sound rows → Tried rows i l → l < needed rows i l → BlockingIsHopeless rows i l
blocking_is_hopeless rows i l sound tried fails = record {
  lawful = one_before_lawful rows i;
  late = λ s serves busy unshared. late rows sound i l tried fails s serves busy unshared;
}

pub refusals_are_deserved_lem : RefusalsAreDeserved
refusals_are_deserved_lem rows h Fit sound right = tt
refusals_are_deserved_lem rows h (Overloaded x y) sound right =
    subst (OverloadIsHopeless rows) (sym right.first_is) (overload_is_hopeless rows h sound right.load_exceeds)
refusals_are_deserved_lem rows h (Blocked n l) sound right =
    blocking_is_hopeless rows (n - 1) l sound right.first.tried right.first.fails

-- what a find of the search is worth
pub finds_are_worth : (rows : List Row) (i l : ℕ) → Sound rows → FirstFailing rows i l → BlockingIsHopeless rows i l
finds_are_worth rows i l sound found = blocking_is_hopeless rows i l sound found.tried found.fails

-- what a load is worth
pub loads_are_worth :
    (rows : List Row) (h n : ℕ) → Sound rows → n ≡ load_of rows h → h < n → OverloadIsHopeless rows h
loads_are_worth rows h n sound is heavy = overload_is_hopeless rows h sound (omega arith)
