-- A schedule by the list of its first jobs, and a test that it is busy and shares no store.
use Rattle.std.proofs.Common.{◌≡◌, ℕ, zero, suc, ◌<◌, ◌≤◌, Bool, true, not, ◌&&◌, ◌||◌, eqb, ltb, leb, ◌⊎◌, List, [], ◌∷◌, length, get_or, Some, None, Option, sym, refl, ap, ◌∙◌, subst, ap₂, inl, inr, arith}
use Rattle.feasibility.proofs.CaseTests.{all<, all<_at}
use Rattle.feasibility.proofs.Counting.{job, some_unit}
use Rattle.feasibility.specs.Cases.{case_d, case_f}
use Rattle.feasibility.specs.Hopeless.{all_at_once, one_before, Possible, SchedulesExist}
use Rattle.feasibility.specs.Schedules.{Job, Requests, Schedule, units, Requested, Finished, Unfinished, Serves, Busy, Unshared}
use Rattle.feasibility.specs.Tables.{row_at}
use Rattle.feasibility.specs.declared.row.Row.{Row}
use Rattle.std.proofs.lemmas.Bool.{and_parts, both_ways, cases_eq, eq-eqb, eqb-true, leb-true, ltb-true, not-true, or_cases}

abbrev planned : List Job → Schedule
planned [] t = None
planned (b ∷ bs) zero = Some b
planned (b ∷ bs) (suc t) = planned bs t

planned_some : (bs : List Job) (t : ℕ) → t < length bs → planned bs t ≡ Some (get_or bs t (job 0 0))
planned_some [] t l = absurd (none l)
  where
    none : t < 0 → ⊥
    none h = omega arith
planned_some (b ∷ bs) zero l = refl
planned_some (b ∷ bs) (suc t) l = planned_some bs t (omega arith)

planned_is : (bs : List Job) (t : ℕ) (b : Job) → t < length bs → planned bs t ≡ Some b → get_or bs t (job 0 0) ≡ b
planned_is bs t b l e = let is = planned_some bs t l in cc

-- each job is requested and unfinished in its tick, and no earlier one of another job on its store is unfinished
abbrev same : Job → Job → Bool
same a b = eqb a.of b.of && eqb a.at b.at

abbrev served : List Row → Requests → List Job → ℕ → Bool
served rows asks bs t =
    let b : Job = get_or bs t (job 0 0) in
    ltb b.of (length rows)
    && (asks b.of b.at && (leb b.at t && ltb (units (planned bs) b t) (row_at rows b.of).cost))

abbrev apart : List Row → List Job → ℕ → ℕ → Bool
apart rows bs t u =
    let b : Job = get_or bs t (job 0 0) in
    let a : Job = get_or bs u (job 0 0) in
    same a b
    || (eqb (row_at rows b.of).store 0
    || (not (eqb (row_at rows a.of).store (row_at rows b.of).store)
    || leb (row_at rows a.of).cost (units (planned bs) a t)))

abbrev orderly : List Row → Requests → List Job → Bool
orderly rows asks bs = all< (length bs) (λ t. served rows asks bs t && all< t (apart rows bs t))

module _ (rows : List Row) (asks : Requests) (bs : List Job) (ok : orderly rows asks bs ≡ true) where
  at_tick : (t : ℕ) → t < length bs → (served rows asks bs t ≡ true) × (all< t (apart rows bs t) ≡ true)
  at_tick t l =
      and_parts (served rows asks bs t) (all< t (apart rows bs t))
      ((all<_at (length bs) (λ u. served rows asks bs u && all< u (apart rows bs u))).0 ok t l)

  serves : Serves rows asks (planned bs) (length bs)
  serves t b l e = subst P (planned_is bs t b l e) at_b
    where
      P : Job → Type 0
      P x = Requested rows asks x × (x.at ≤ t) × Unfinished rows (planned bs) x t

      at_b : P (get_or bs t (job 0 0))
      at_b =
          let x = get_or bs t (job 0 0) in
          let unfinished = ltb (units (planned bs) x t) (row_at rows x.of).cost in
          let one
          = and_parts (ltb x.of (length rows)) (asks x.of x.at && (leb x.at t && unfinished))
          (at_tick t l).0 in
          let two = and_parts (asks x.of x.at) (leb x.at t && unfinished) one.1 in
          let three = and_parts (leb x.at t) unfinished two.1 in (
            (ltb-true x.of (length rows) one.0, two.0),
            leb-true x.at t three.0,
            ltb-true (units (planned bs) x t) (row_at rows x.of).cost three.1,
          )

  busy : Busy rows asks (planned bs) (length bs)
  busy t b l e = absurd (never (get_or bs t (job 0 0)) (sym (planned_some bs t l) ∙ e))
    where
      never : (x : Job) → ◌≡◌ {A = Option Job} (Some x) None → ⊥
      never x f = let z : ◌≡◌ {A = ℕ} 0 1 = cc in omega arith

  unshared : Unshared rows (planned bs) (length bs)
  unshared t b other l e ne stored on_it = at (cases_eq (units (planned bs) other t) 0)
    where
      Done : Type 0
      Done = (units (planned bs) other t ≡ 0) ⊎ Finished rows (planned bs) other t

      -- the other job had a tick before
      earlier : (u : ℕ) × (u < t) × (planned bs u ≡ Some other) → Done
      earlier x =
          by_store
          (or_cases (same a c) (eqb (row_at rows c.of).store 0 || rest)
          ((all<_at t (apart rows bs t)).0 (at_tick t l).1 x.0 x.1))
        where
          a : Job
          a = get_or bs x.0 (job 0 0)

          c : Job
          c = get_or bs t (job 0 0)

          a_is : a ≡ other
          a_is = planned_is bs x.0 other (omega (arith, x.1, l)) x.2

          c_is : c ≡ b
          c_is = planned_is bs t b l e

          finished : Bool
          finished = leb (row_at rows a.of).cost (units (planned bs) a t)

          elsewhere : Bool
          elsewhere = not (eqb (row_at rows a.of).store (row_at rows c.of).store)

          rest : Bool
          rest = elsewhere || finished

          stores_same : (row_at rows a.of).store ≡ (row_at rows c.of).store
          stores_same =
              ap (λ j. (row_at rows j.of).store) a_is ∙ on_it ∙ ap (λ j. (row_at rows j.of).store) (sym c_is)

          by_rest : (elsewhere ≡ true) ⊎ (finished ≡ true) → Done
          by_rest (inl z) =
              absurd
              (both_ways (eqb (row_at rows a.of).store (row_at rows c.of).store)
              (not-true (eqb (row_at rows a.of).store (row_at rows c.of).store) z)
              (eq-eqb (row_at rows a.of).store (row_at rows c.of).store stores_same))
          by_rest (inr z) =
              inr
              (subst (λ j. (row_at rows j.of).cost ≤ units (planned bs) j t) a_is
              (leb-true (row_at rows a.of).cost (units (planned bs) a t) z))

          by_zero : (eqb (row_at rows c.of).store 0 ≡ true) ⊎ (rest ≡ true) → Done
          by_zero (inl z) =
              absurd
              (stored (ap (λ j. (row_at rows j.of).store) (sym c_is) ∙ eqb-true (row_at rows c.of).store 0 z))
          by_zero (inr z) = by_rest (or_cases elsewhere finished z)

          by_store : (same a c ≡ true) ⊎ ((eqb (row_at rows c.of).store 0 || rest) ≡ true) → Done
          by_store (inl z) =
              let both = and_parts (eqb a.of c.of) (eqb a.at c.at) z in
              let equal : a ≡ c = ap₂ job (eqb-true a.of c.of both.0) (eqb-true a.at c.at both.1) in
              absurd (ne (sym a_is ∙ equal ∙ c_is))
          by_store (inr z) = by_zero (or_cases (eqb (row_at rows c.of).store 0) rest z)

      at : (units (planned bs) other t ≡ 0) ⊎ (units (planned bs) other t ≡ 0 → ⊥) → Done
      at (inl z) = inl z
      at (inr nz) = earlier (some_unit (planned bs) other t (omega arith))

  possible : Possible rows asks (length bs)
  possible = record { schedule = planned bs; serves = serves; busy = busy; unshared = unshared }

pub schedules_exist_lem : SchedulesExist
schedules_exist_lem = (
  possible case_d.rows (all_at_once case_d.rows)
      (job 0 0 ∷ job 1 0 ∷ job 0 2 ∷ job 1 3 ∷ job 0 4 ∷ job 2 0 ∷ []) refl,
  possible case_f.rows (one_before case_f.rows 1) (job 1 0 ∷ job 1 0 ∷ job 1 0 ∷ []) refl,
)
