-- What a step makes of the requests, of the last one of each row, and of the schedule.
use Rattle.std.proofs.Common.{◌≡◌, ℕ, zero, suc, ◌+◌, ◌≤◌, true, false, cond, eqb, ◌≢◌, ◌⊎◌, Some, sym, refl, ap, ◌∙◌, ap₂, inl, inr, add-one, arith}
use Rattle.feasibility.proofs.Counting.{unit_cases, unit_is}
use Rattle.feasibility.proofs.Totals.{sum_more, sum_same}
use Rattle.feasibility.specs.Schedules.{Requests, Job, unit, units}
use Rattle.guarantee.proofs.Marks.{some_same}
use Rattle.guarantee.specs.Histories.{History, last_request, last_job, asked, worked}
use Rattle.std.proofs.lemmas.Bool.{cases_Bool, cond-false, cond-true, eq-eqb, ne_eqb}
use Rattle.std.proofs.lemmas.Bool.Decides.{nat_tests}

-- the requests after one more
pub asked_cases :
    (i : ℕ) (h : History) (j a : ℕ) → (asked i h).asks j a ≡ true →
    ((j ≡ i) × (a ≡ h.clock)) ⊎ (h.asks j a ≡ true)
asked_cases i h j a e = grind (arith, nat_tests)

pub asked_more : (i : ℕ) (h : History) (j a : ℕ) → h.asks j a ≡ true → (asked i h).asks j a ≡ true
asked_more i h j a e = grind (arith, nat_tests)

pub asked_now : (i : ℕ) (h : History) → (asked i h).asks i h.clock ≡ true
asked_now i h = grind (arith, nat_tests)

asked_else : (i : ℕ) (h : History) (j a : ℕ) → j ≢ i → (asked i h).asks j a ≡ h.asks j a
asked_else i h j a ne = grind (arith, nat_tests)

-- the last request is at t, if there is one at t
last_at : (asks : Requests) (j t : ℕ) → asks j t ≡ true → last_request asks j t ≡ t
last_at asks j zero e = refl
last_at asks j (suc t) e = cond-true (asks j (suc t)) (suc t) (last_request asks j t) e

-- the same requests have the same last one
last_same :
    (asks asks' : Requests) (j t : ℕ) → ((a : ℕ) → asks' j a ≡ asks j a) →
    last_request asks' j t ≡ last_request asks j t
last_same asks asks' j zero same = refl
last_same asks asks' j (suc t) same =
    ap₂ (λ c n. cond c (suc t) n) (same (suc t)) (last_same asks asks' j t same)

pub last_now : (i : ℕ) (h : History) → (last_job (asked i h) i).at ≡ h.clock
last_now i h = last_at (asked i h).asks i h.clock (asked_now i h)

pub last_else : (i : ℕ) (h : History) (j : ℕ) → j ≢ i → (last_job (asked i h) j).at ≡ (last_job h j).at
last_else i h j ne = last_same h.asks (asked i h).asks j h.clock (λ a. asked_else i h j a ne)

-- a tick later it is the same, if there is none in that time
pub last_later :
    (asks : Requests) (j t : ℕ) → (asks j (t + 1) ≡ true → ⊥) → last_request asks j (t + 1) ≡ last_request asks j t
last_later asks j t none = ap (last_request asks j) (add-one t) ∙ at (cases_Bool (asks j (suc t)))
  where
    at : (asks j (suc t) ≡ true) ⊎ (asks j (suc t) ≡ false) → last_request asks j (suc t) ≡ last_request asks j t
    at (inl e) = absurd (none (ap (asks j) (add-one t) ∙ e))
    at (inr f) = cond-false (asks j (suc t)) (suc t) (last_request asks j t) f

-- the schedule after one more tick, given to the last job of row i
pub given_now : (i : ℕ) (h : History) → (worked i h).plan h.clock ≡ Some (last_job h i)
given_now i h =
    cond-true (eqb h.clock h.clock) (Some (last_job h i)) (h.plan h.clock) (eq-eqb h.clock h.clock refl)

pub given_old : (i : ℕ) (h : History) (t : ℕ) → t ≢ h.clock → (worked i h).plan t ≡ h.plan t
given_old i h t ne = cond-false (eqb t h.clock) (Some (last_job h i)) (h.plan t) (ne_eqb t h.clock ne)

-- what was given before is not changed
pub units_old :
    (i : ℕ) (h : History) (b : Job) (t : ℕ) → t ≤ h.clock → units (worked i h).plan b t ≡ units h.plan b t
units_old i h b t le =
    sum_same t (λ u. unit ((worked i h).plan u) b) (λ u. unit (h.plan u) b)
    (λ u l. ap (λ o. unit o b) (given_old i h u (omega arith)))

units_more :
    (i : ℕ) (h : History) (b : Job) →
    units (worked i h).plan b (h.clock + 1) ≡ units h.plan b h.clock + unit ((worked i h).plan h.clock) b
units_more i h b =
    omega (
      arith,
      sum_more h.clock (λ u. unit ((worked i h).plan u) b),
      units_old i h b h.clock (omega arith),
    )

-- one unit more for the last job of row i, and for no other
pub units_now :
    (i : ℕ) (h : History) →
    units (worked i h).plan (last_job h i) (h.clock + 1) ≡ units h.plan (last_job h i) h.clock + 1
units_now i h =
    omega (arith, units_more i h (last_job h i), unit_is ((worked i h).plan h.clock) (last_job h i) (given_now i h))

pub units_else :
    (i : ℕ) (h : History) (b : Job) → last_job h i ≢ b →
    units (worked i h).plan b (h.clock + 1) ≡ units h.plan b h.clock
units_else i h b ne = at (unit_cases ((worked i h).plan h.clock) b)
  where
    at :
        ((worked i h).plan h.clock ≡ Some b) ⊎ (unit ((worked i h).plan h.clock) b ≡ 0) →
        units (worked i h).plan b (h.clock + 1) ≡ units h.plan b h.clock
    at (inl e) = absurd (ne (some_same (sym (given_now i h) ∙ e)))
    at (inr z) = omega (arith, units_more i h b)
