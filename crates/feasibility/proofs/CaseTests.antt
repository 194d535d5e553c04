-- A test of a case that the checker computes, and what it shows.
use Rattle.std.proofs.Common.{◌≡◌, ℕ, zero, suc, ◌-◌, ◌%◌, ◌<◌, ◌≤◌, Bool, true, not, ◌&&◌, ◌||◌, eqb, ltb, leb, ◌⊎◌, List, [], ◌∷◌, length, Decides, refl, inl, inr, arith}
use Rattle.feasibility.specs.Cases.{Case, Stands, cases, CasesStand, case_j, ExampleStands}
use Rattle.feasibility.specs.Limits.{max_period, max_rows, max_store}
use Rattle.feasibility.specs.Tables.{row_at, Limited, Sound, Common, Hyperperiod, load_of, least_period}
use Rattle.feasibility.specs.Told.{told}
use Rattle.feasibility.specs.Verdicts.{needed, Tried, Judged}
use Rattle.feasibility.specs.declared.row.Row.{Row}
use Rattle.feasibility.specs.declared.verdict.Verdict.{Verdict}
use Rattle.feasibility.specs.declared.verdict.Verdict.TheVariants.{Fit, Overloaded, Blocked}
use Rattle.std.proofs.lemmas.Bool.{and_parts, both_ways, cases_lt, eq-eqb, eqb-true, leb-true, ltb-true, not-true, or_cases}
use Rattle.std.proofs.lemmas.Bool.Decides.{Decides-below_and}
use Rattle.std.specs.List.{AllByRecursion}

-- p holds of every number below n
abbrev pub all< : ℕ → (ℕ → Bool) → Bool
all< zero p = true
all< (suc n) p = p n && all< n p

pub all<_at : (n : ℕ) (p : ℕ → Bool) → Decides (all< n p) ((k : ℕ) → k < n → p k ≡ true)
all<_at n p = Decides-below_and p (λ k. p k ≡ true) (λ m. all< m p) (λ k. (λ e. e, λ e. e)) refl (λ _. refl) n

abbrev common : List Row → ℕ → Bool
common rows m = all< (length rows) (λ j. eqb (m % (row_at rows j).period) 0)

abbrev whole : List Row → ℕ → Bool
whole rows h = ltb 0 h && (common rows h && all< h (λ m. eqb m 0 || not (common rows m)))

abbrev passes : List Row → ℕ → ℕ → Bool
passes rows i l =
    eqb (row_at rows i).store 0 || (leb l (least_period rows (row_at rows i).store) || leb (needed rows i l) l)

abbrev row_passes : List Row → ℕ → Bool
row_passes rows i = all< (row_at rows i).period (passes rows i)

abbrev fails : List Row → ℕ → ℕ → Bool
fails rows i l =
    ltb i (length rows)
    && (not (eqb (row_at rows i).store 0)
    && (ltb (least_period rows (row_at rows i).store) l && (ltb l (row_at rows i).period && ltb l (needed rows i l))))

abbrev right : List Row → ℕ → Verdict → Bool
right rows h Fit = leb (load_of rows h) h && all< (length rows) (row_passes rows)
right rows h (Overloaded x y) = ltb h (load_of rows h) && (eqb x h && eqb y (load_of rows h))
right rows h (Blocked n l) =
    leb (load_of rows h) h
    && (leb 1 n && (fails rows (n - 1) l && (all< (n - 1) (row_passes rows) && all< l (passes rows (n - 1)))))

abbrev limited : Row → Bool
limited x =
    leb 1 x.cost && (leb x.cost x.period && (leb x.period max_period && leb x.store max_store))

abbrev sound : List Row → Bool
sound rows = leb (length rows) max_rows && all< (length rows) (λ j. limited (row_at rows j))

abbrev test : Case → Bool
test c =
    sound c.rows
    && (whole c.rows c.hyperperiod
    && (eqb (load_of c.rows c.hyperperiod) c.load && right c.rows c.hyperperiod c.verdict))

abbrev tests : List Case → Bool
tests [] = true
tests (c ∷ cs) = test c && tests cs

-- what each test shows
limited_shows : (x : Row) → limited x ≡ true → Limited x
limited_shows x e =
    let one
    = and_parts (leb 1 x.cost) (leb x.cost x.period && (leb x.period max_period && leb x.store max_store))
    e in
    let two = and_parts (leb x.cost x.period) (leb x.period max_period && leb x.store max_store) one.1 in
    let three = and_parts (leb x.period max_period) (leb x.store max_store) two.1 in (
      leb-true 1 x.cost one.0,
      leb-true x.cost x.period two.0,
      leb-true x.period max_period three.0,
      leb-true x.store max_store three.1,
    )

module _ (rows : List Row) where
  sound_shows : sound rows ≡ true → (length rows ≤ max_rows) × Sound rows
  sound_shows e =
      let both = and_parts (leb (length rows) max_rows) (all< (length rows) (λ j. limited (row_at rows j))) e in (
        leb-true (length rows) max_rows both.0,
        λ j l.
            limited_shows (row_at rows j) ((all<_at (length rows) (λ k. limited (row_at rows k))).0 both.1 j l),
      )

  common_shows : (m : ℕ) → common rows m ≡ true → Common rows m
  common_shows m e j l = eqb-true (m % (row_at rows j).period) 0 ((all<_at (length rows) _).0 e j l)

  shows_common : (m : ℕ) → Common rows m → common rows m ≡ true
  shows_common m common_m =
      (all<_at (length rows) (λ j. eqb (m % (row_at rows j).period) 0)).1
      (λ j l. eq-eqb (m % (row_at rows j).period) 0 (common_m j l))

  whole_shows : (h : ℕ) → whole rows h ≡ true → Hyperperiod rows h
  whole_shows h e = (ltb-true 0 h parts.0, common_shows h rest.0, λ m pos c. least m pos c (cases_lt m h))
    where
      parts : (ltb 0 h ≡ true) × ((common rows h && all< h (λ m. eqb m 0 || not (common rows m))) ≡ true)
      parts = and_parts (ltb 0 h) (common rows h && all< h (λ m. eqb m 0 || not (common rows m))) e

      rest : (common rows h ≡ true) × (all< h (λ m. eqb m 0 || not (common rows m)) ≡ true)
      rest = and_parts (common rows h) (all< h (λ m. eqb m 0 || not (common rows m))) parts.1

      least : (m : ℕ) → 0 < m → Common rows m → (m < h) ⊎ (h ≤ m) → h ≤ m
      least m pos c (inr ok) = ok
      least m pos c (inl lt) =
          at (or_cases (eqb m 0) (not (common rows m)) ((all<_at h (λ k. eqb k 0 || not (common rows k))).0 rest.1 m lt))
        where
          at : (eqb m 0 ≡ true) ⊎ (not (common rows m) ≡ true) → h ≤ m
          at (inl z) = omega (arith, eqb-true m 0 z)
          at (inr n) = absurd (both_ways (common rows m) (not-true (common rows m) n) (shows_common m c))

  passes_shows : (i l : ℕ) → passes rows i l ≡ true → Tried rows i l → needed rows i l ≤ l
  passes_shows i l e tried = at (or_cases (eqb r 0) (leb l low || leb (needed rows i l) l) e)
    where
      r : ℕ
      r = (row_at rows i).store

      low : ℕ
      low = least_period rows (row_at rows i).store

      rest : (leb l low ≡ true) ⊎ (leb (needed rows i l) l ≡ true) → needed rows i l ≤ l
      rest (inl t) = omega (arith, leb-true l low t, tried.above)
      rest (inr t) = leb-true (needed rows i l) l t

      at : (eqb r 0 ≡ true) ⊎ ((leb l low || leb (needed rows i l) l) ≡ true) → needed rows i l ≤ l
      at (inl z) = absurd (tried.stored (eqb-true r 0 z))
      at (inr t) = rest (or_cases (leb l low) (leb (needed rows i l) l) t)

  row_shows : (i : ℕ) → row_passes rows i ≡ true → (l : ℕ) → Tried rows i l → needed rows i l ≤ l
  row_shows i e l tried =
      passes_shows i l ((all<_at (row_at rows i).period (passes rows i)).0 e l tried.below) tried

  fails_shows : (i l : ℕ) → fails rows i l ≡ true → Tried rows i l × (l < needed rows i l)
  fails_shows i l e =
      let r = (row_at rows i).store in
      let low = least_period rows r in
      let last = ltb l (row_at rows i).period && ltb l (needed rows i l) in
      let one = and_parts (ltb i (length rows)) (not (eqb r 0) && (ltb low l && last)) e in
      let two = and_parts (not (eqb r 0)) (ltb low l && last) one.1 in
      let three = and_parts (ltb low l) last two.1 in
      let four = and_parts (ltb l (row_at rows i).period) (ltb l (needed rows i l)) three.1 in (
        record {
          within = ltb-true i (length rows) one.0;
          stored = λ z. both_ways (eqb r 0) (not-true (eqb r 0) two.0) (eq-eqb r 0 z);
          above = ltb-true low l three.0;
          below = ltb-true l (row_at rows i).period four.0;
        },
        ltb-true l (needed rows i l) four.1,
      )

  right_shows : (h : ℕ) (v : Verdict) → right rows h v ≡ true → Judged rows h (told v)
  right_shows h Fit e =
      let both = and_parts (leb (load_of rows h) h) (all< (length rows) (row_passes rows)) e in
      record {
        load_fits = leb-true (load_of rows h) h both.0;
        unblocked = λ i l tried.
            row_shows i ((all<_at (length rows) (row_passes rows)).0 both.1 i tried.within) l tried;
        no_values = (refl, refl);
      }
  right_shows h (Overloaded x y) e =
      let one = and_parts (ltb h (load_of rows h)) (eqb x h && eqb y (load_of rows h)) e in
      let two = and_parts (eqb x h) (eqb y (load_of rows h)) one.1 in
      record {
        load_exceeds = ltb-true h (load_of rows h) one.0;
        first_is = eqb-true x h two.0;
        second_is = eqb-true y (load_of rows h) two.1;
      }
  right_shows h (Blocked n l) e =
      let before = all< (n - 1) (row_passes rows) in
      let below = all< l (passes rows (n - 1)) in
      let one = and_parts (leb (load_of rows h) h) (leb 1 n && (fails rows (n - 1) l && (before && below))) e in
      let two = and_parts (leb 1 n) (fails rows (n - 1) l && (before && below)) one.1 in
      let three = and_parts (fails rows (n - 1) l) (before && below) two.1 in
      let four = and_parts before below three.1 in
      let failing = fails_shows (n - 1) l three.0 in
      record {
        load_fits = leb-true (load_of rows h) h one.0;
        numbered = leb-true 1 n two.0;
        first = record {
          tried = failing.0;
          fails = failing.1;
          earlier = λ k m lt tried. row_shows k ((all<_at (n - 1) (row_passes rows)).0 four.0 k lt) m tried;
          shorter = λ m lt tried. passes_shows (n - 1) m ((all<_at l (passes rows (n - 1))).0 four.1 m lt) tried;
        };
      }

test_shows : (c : Case) → test c ≡ true → Stands c
test_shows c e =
    let asked = eqb (load_of c.rows c.hyperperiod) c.load in
    let judged = right c.rows c.hyperperiod c.verdict in
    let zero = and_parts (sound c.rows) (whole c.rows c.hyperperiod && (asked && judged)) e in
    let one = and_parts (whole c.rows c.hyperperiod) (asked && judged) zero.1 in
    let two = and_parts asked judged one.1 in
    record {
      room = (sound_shows c.rows zero.0).0;
      sound = (sound_shows c.rows zero.0).1;
      hyperperiod_is = whole_shows c.rows c.hyperperiod one.0;
      load_is = eqb-true (load_of c.rows c.hyperperiod) c.load two.0;
      judged = right_shows c.rows c.hyperperiod c.verdict two.1;
    }

tests_show : (cs : List Case) → tests cs ≡ true → AllByRecursion Stands cs
tests_show [] e = tt
tests_show (c ∷ cs) e =
    let both = and_parts (test c) (tests cs) e in (test_shows c both.0, tests_show cs both.1)

pub cases_stand_lem : CasesStand
cases_stand_lem = tests_show cases refl

pub example_stands_lem : ExampleStands
example_stands_lem = test_shows case_j refl
