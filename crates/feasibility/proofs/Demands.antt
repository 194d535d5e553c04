-- Laws of what the jobs of one row ask for within t ticks.
use Rattle.std.proofs.Common.{◌≡◌, ℕ, ◌+◌, ◌-◌, ◌*◌, ◌/◌, ◌<◌, ◌≤◌, List, length, sym, refl, ap, ◌∙◌, mul-le-mul_right, mul_comm, mul-le-mul_left, le-div_iff_mul-le, zero-mul, div-mul-le_self, arith}
use Rattle.feasibility.proofs.Totals.{sum_le, sum_times}
use Rattle.feasibility.specs.Schedules.{relative_deadline}
use Rattle.feasibility.specs.Sums.{Σ<}
use Rattle.feasibility.specs.Tables.{row_at, Common, Limited, Sound, load_of, share}
use Rattle.feasibility.specs.Verdicts.{demand}
use Rattle.feasibility.specs.declared.row.Row.{Row}
use native.Mathlib.Nat.{div-add-mod, div-eq_of_lt, div-eq-sub-div, le_of_mul-le-mul_left, mul-div-le}

-- a sound table has no period of 0
pub positive : (rows : List Row) → Sound rows → (j : ℕ) → j < length rows → 0 < (row_at rows j).period
positive rows sound j l = omega (arith, sound j l)

-- a cost is at most its period, so t ticks ask for at most t units
pub demand_le : (x : Row) (t : ℕ) → Limited x → demand x t ≤ t
demand_le x t limited = omega (arith, mul-le-mul_left (t / x.period) limited.1, div-mul-le_self t x.period)

-- a cost is at most its period, so a row's share of h is at most h
pub share_le : (x : Row) (h : ℕ) → Limited x → share x h ≤ h
share_le x h limited = omega (arith, mul-le-mul_right (h / x.period) limited.1, mul-div-le h x.period)

-- nothing is due within less than a period
pub demand_none : (x : Row) (t : ℕ) → t < x.period → demand x t ≡ 0
demand_none x t l = ap (λ q. q * x.cost) (div-eq_of_lt l) ∙ zero-mul x.cost

-- more ticks ask for no less
pub demand_rise : (x : Row) (t u : ℕ) → 0 < x.period → t ≤ u → demand x t ≤ demand x u
demand_rise x t u some le =
    let more : t / x.period ≤ u / x.period
    = (le-div_iff_mul-le some).1 (omega (arith, div-mul-le_self t x.period)) in
    mul-le-mul_right x.cost more

-- one period more asks for one cost more
pub demand_one : (x : Row) (t : ℕ) → 0 < x.period → x.period ≤ t → demand x t ≡ x.cost + demand x (t - x.period)
demand_one x t some le = omega (arith, ap (λ q. q * x.cost) (div-eq-sub-div some le))

-- what a row asks for within t ticks, h times, is at most t times its share of h
demand_share : (x : Row) (t h q : ℕ) → x.period * q ≡ h → h * demand x t ≤ t * (x.cost * q)
demand_share x t h q e =
    let whole : x.period * (t / x.period) * (q * x.cost) ≤ t * (q * x.cost)
    = mul-le-mul_right (q * x.cost) (mul-div-le t x.period) in
    let at_h : h * demand x t ≡ x.period * q * demand x t = ap (λ n. n * demand x t) (sym e) in
    omega arith

-- where the load fits, all rows together ask for at most t units within t ticks
pub demands_fit :
    (rows : List Row) (h t : ℕ) → 0 < h → Common rows h → load_of rows h ≤ h →
    Σ< (length rows) (λ j. demand (row_at rows j) t) ≤ t
demands_fit rows h t some common fits = le_of_mul-le-mul_left times some
  where
    n : ℕ
    n = length rows

    each : ℕ → ℕ
    each j = demand (row_at rows j) t

    shares : ℕ → ℕ
    shares j = share (row_at rows j) h

    whole : (j : ℕ) → j < n → (row_at rows j).period * (h / (row_at rows j).period) ≡ h
    whole j l = omega (arith, div-add-mod h (row_at rows j).period, common j l)

    times : h * Σ< n each ≤ h * t
    times =
        let rows_fit : Σ< n (λ j. h * each j) ≤ Σ< n (λ j. t * shares j)
        = sum_le n (λ j. h * each j) (λ j. t * shares j)
        (λ j l. demand_share (row_at rows j) t h (h / (row_at rows j).period) (whole j l)) in
        omega (arith, sum_times n h each, sum_times n t shares, mul-le-mul_left t fits)

-- how many jobs of a row can be requested and due within t ticks
unfoldable pub jobs : Row → ℕ → ℕ
jobs x t = t / x.period

-- what they ask for, and a row's share of h
pub demand_is : (x : Row) (t : ℕ) → demand x t ≡ jobs x t * x.cost
unfolding jobs
demand_is x t = refl

pub share_is : (x : Row) (h : ℕ) → share x h ≡ jobs x h * x.cost
unfolding jobs
share_is x h = mul_comm x.cost (h / x.period)

-- requested one period apart from 0 on, they are due by t
pub jobs_due : (x : Row) (t k : ℕ) → 0 < x.period → k < jobs x t → k * x.period + relative_deadline x ≤ t
unfolding jobs
jobs_due x t k some lt =
    let next : (k + 1) * x.period ≤ t = (le-div_iff_mul-le some).0 (omega arith) in omega arith

-- there is one if it can be due by t
pub jobs_some : (x : Row) (t : ℕ) → 0 < x.period → relative_deadline x ≤ t → 0 < jobs x t
unfolding jobs
jobs_some x t some le = (le-div_iff_mul-le some).1 (omega arith)
