-- What the answers of a life say is true of its history.
use Rattle.std.proofs.Common.{◌≡◌, ℕ, ◌+◌, ◌-◌, ◌<◌, ◌≤◌, true, false, cond, not, leb, List, length, is_some as option_is_some, Some, None, Option, sym, refl, ap, ◌∙◌, inl, arith, MatchOption}
use Rattle.feasibility.specs.Contents.{numbered}
use Rattle.feasibility.specs.Schedules.{due, units, Requested, Finished}
use Rattle.feasibility.specs.Tables.{row_at}
use Rattle.feasibility.specs.declared.row.Row.{Row}
use Rattle.guarantee.proofs.Between.{Between, LastIs, joined, kept_at, slot_at, view}
use Rattle.guarantee.proofs.Facts.{in_table, is_some, not_early, is_none}
use Rattle.guarantee.proofs.HistorySteps.{units_now}
use Rattle.guarantee.proofs.Views as views
use Rattle.guarantee.specs.Histories.{History, last_job, worked}
use Rattle.guarantee.specs.Rules.{begun, known, row_in, too_early, release_refusal, slack, unit_told}
use Rattle.guarantee.specs.States.{State, state_of, rows_taken, is_open}
use Rattle.guarantee.specs.Truths.{IsTold, Free, Early, PendingJob, AtRest, IsSpare, RefusedRightly}
use Rattle.guarantee.specs.declared.refusal.Refusal.{Refusal}
use Rattle.guarantee.specs.declared.refusal.Refusal.TheVariants.{NoTable, UnknownRow, TickOpen, TooEarly, EarlierUnfinished}
use Rattle.guarantee.specs.declared.state.JobState.{JobState}
use Rattle.guarantee.specs.declared.state.JobState.TheVariants.{Unfinished, InTime, Late}
use Rattle.guarantee.specs.declared.state.Pending.{Pending}
use Rattle.ready.specs.declared.entry.Entry.{Entry}
use Rattle.ready.specs.declared.entry.Slot.{Slot}
use Rattle.std.proofs.lemmas.Bool.{cond_both, leb-true, leb-false, ltb-true, not-false}

-- What the history says of what is kept of each row, in a tick or between two.
pub record Seen (rows : List Row) (h : History) (s : State) : Type 0 where
  pub table : s.table ≡ Some rows
  pub clock : s.clock ≡ h.clock
  pub lasts : (j : ℕ) → LastIs h j (kept_at s j).last
  pub idle :
      (j : ℕ) → (kept_at s j).job ≡ None → Requested rows h.asks (last_job h j) →
      Finished rows h.plan (last_job h j) h.clock
  pub busy :
      (j : ℕ) (p : Pending) → j < length rows → (kept_at s j).job ≡ Some p →
      (h.asks j (last_job h j).at ≡ true) × (p.due ≡ due rows (last_job h j)) ×
      (units h.plan (last_job h j) h.clock + p.left ≡ (row_at rows j).cost) × (1 ≤ p.left)

pub seen_between : (rows : List Row) (h : History) (s : State) → Between rows h s → Seen rows h s
seen_between rows h s b =
    record {
      table = b.table;
      clock = link.clock;
      lasts = b.lasts;
      idle = λ j none asked. link.done (last_job h j) asked (inl (ap (λ o. joined o (slot_at s j)) none));
      busy = busy;
    }
  where
    link : views.Linked rows h (view rows s)
    link = b.invariant.linked

    busy :
        (j : ℕ) (p : Pending) → j < length rows → (kept_at s j).job ≡ Some p →
        (h.asks j (last_job h j).at ≡ true) × (p.due ≡ due rows (last_job h j)) ×
        (units h.plan (last_job h j) h.clock + p.left ≡ (row_at rows j).cost) × (1 ≤ p.left)
    busy j p l job =
        let x = is_some (slot_at s j) (b.matched j ∙ ap option_is_some job) in
        let q : Slot = x.0 in
        let task : views.Task = record { deadline = q.deadline; due_at = p.due; left = p.left; begun = q.begun } in
        let is : (view rows s).task j ≡ Some task
        = ap (λ o. joined o (slot_at s j)) job ∙ ap (joined (Some p)) x.1 in
        let now = link.current j task l is in
        (now.0, now.1, now.2, (b.invariant.tended j task l is).lacks)

-- a begin leaves what is kept of rows, and the clock
pub seen_begun : (rows : List Row) (h : History) (s : State) (e : Option Entry) → Seen rows h s → Seen rows h (begun s e)
seen_begun rows h s e k =
    record { table = k.table; clock = k.clock; lasts = k.lasts; idle = k.idle; busy = k.busy }

-- the row of a number, at its place
module _ (rows : List Row) (h : History) (s : State) (k : Seen rows h s) (row : ℕ) where
  row_same : row_in s row ≡ numbered rows row
  row_same = ap (λ o. numbered (rows_taken o) row) k.table

  module _ (listed : option_is_some (row_in s row) ≡ true) where
    within : row - 1 < length rows
    within =
        let place = in_table rows row (sym (ap option_is_some row_same) ∙ listed) in omega (arith, place.0, place.1)

    line : known (row_in s row) ≡ row_at rows (row - 1)
    line = ap known row_same ∙ (in_table rows row (sym (ap option_is_some row_same) ∙ listed)).2

    -- the last request is too early, or not
    early :
        (last : Option ℕ) → LastIs h (row - 1) last →
        too_early s.clock (known (row_in s row)).period last ≡ true → Early rows h (row - 1)
    early None none e = absurd (bad e)
      where
        bad : false ≡ true → ⊥
        bad p = let z : ◌≡◌ {A = ℕ} 0 1 = cc in omega arith
    early (Some last) is e =
        let at : (last_job h (row - 1)).at ≡ last = is.1 in
        let below = ltb-true s.clock (last + (known (row_in s row)).period) e in
        let period : (known (row_in s row)).period ≡ (row_at rows (row - 1)).period = ap (λ (x : Row). x.period) line in
        ((within, ap (h.asks (row - 1)) at ∙ is.0), omega (arith, k.clock))

    on_time :
        (last : Option ℕ) → LastIs h (row - 1) last →
        too_early s.clock (known (row_in s row)).period last ≡ false → h.asks (row - 1) (last_job h (row - 1)).at ≡ true →
        (last_job h (row - 1)).at + (row_at rows (row - 1)).period ≤ h.clock
    on_time None none e asked = absurd (none (last_job h (row - 1)).at asked)
    on_time (Some last) is e asked =
        let at : (last_job h (row - 1)).at ≡ last = is.1 in
        let past = not_early s.clock (known (row_in s row)).period (Some last) e in
        let period : (known (row_in s row)).period ≡ (row_at rows (row - 1)).period = ap (λ (x : Row). x.period) line in
        omega (arith, k.clock)

    pending : (p : Pending) → (kept_at s (row - 1)).job ≡ Some p → PendingJob rows h (row - 1)
    pending p job =
        let now = k.busy (row - 1) p within job in
        ((within, now.0), omega (arith, now.2, now.3))

    free :
        option_is_some (state_of s row).job ≡ false →
        too_early s.clock (known (row_in s row)).period (state_of s row).last ≡ false → Free rows h (row - 1)
    free none e asked = (
      on_time (state_of s row).last (k.lasts (row - 1)) e asked.1,
      k.idle (row - 1) (is_none (state_of s row).job none) asked,
    )

    -- what spare tells
    pub spare_true : MatchOption (slack s.clock (state_of s row).job) (AtRest rows h (row - 1)) (IsSpare rows h (row - 1))
    spare_true = at (state_of s row).job refl
      where
        at :
            (o : Option Pending) → (state_of s row).job ≡ o →
            MatchOption (slack s.clock o) (AtRest rows h (row - 1)) (IsSpare rows h (row - 1))
        at None job = k.idle (row - 1) job
        at (Some p) job =
            let now = k.busy (row - 1) p within job in
            let left : p.left ≡ (row_at rows (row - 1)).cost - units h.plan (last_job h (row - 1)) h.clock
            = omega (arith, now.2) in
            record { pending = pending p job; is = rw (now.1, k.clock, left) refl }

  -- the answer to a release, by the refusal
  abbrev pub Right : Option Refusal → Type 0
  Right None = Free rows h (row - 1)
  Right (Some e) = RefusedRightly rows h (row - 1) e

  pub release_true : Right (release_refusal s row)
  release_true =
      cond_both (not (option_is_some s.table)) (Some NoTable) _ Right (λ _. tt)
      (λ _. cond_both (not (option_is_some (row_in s row))) (Some UnknownRow) _ Right (λ _. tt)
      (λ known_row. after_row (not-false (option_is_some (row_in s row)) known_row)))
    where
      after_row :
          option_is_some (row_in s row) ≡ true →
          Right
          (cond (is_open s.tick) (Some TickOpen)
          (cond (too_early s.clock (known (row_in s row)).period (state_of s row).last) (Some TooEarly)
          (cond (option_is_some (state_of s row).job) (Some EarlierUnfinished) None)))
      after_row listed =
          cond_both (is_open s.tick) (Some TickOpen) _ Right (λ _. tt)
          (λ _. cond_both (too_early s.clock (known (row_in s row)).period (state_of s row).last) (Some TooEarly) _
          Right (λ e. early listed (state_of s row).last (k.lasts (row - 1)) e)
          (λ e. cond_both (option_is_some (state_of s row).job) (Some EarlierUnfinished) None Right
          (λ some. let x = is_some (state_of s row).job some in pending listed x.0 x.1)
          (λ none. free listed none e)))

-- what end tells of the job that got the tick
pub end_true :
    (rows : List Row) (h : History) (s : State) → Seen rows h s → (i : ℕ) (p : Pending) → i < length rows →
    (kept_at s i).job ≡ Some p → IsTold rows (worked i h) (last_job h i) (unit_told (s.clock + 1) (Some p))
end_true rows h s k i p l job =
    cond_both (leb p.left 1) (cond (leb (s.clock + 1) p.due) InTime Late) Unfinished told
    (λ t. cond_both (leb (s.clock + 1) p.due) InTime Late told
    (λ d. (finished t, omega (arith, k.clock, now.1, leb-true (s.clock + 1) p.due d)))
    (λ d. (finished t, omega (arith, k.clock, now.1, leb-false (s.clock + 1) p.due d))))
    (λ t. omega (arith, leb-false p.left 1 t, now.2, units_now i h))
  where
    told : JobState → Type 0
    told st = IsTold rows (worked i h) (last_job h i) st

    now :
        (h.asks i (last_job h i).at ≡ true) × (p.due ≡ due rows (last_job h i)) ×
        (units h.plan (last_job h i) h.clock + p.left ≡ (row_at rows i).cost) × (1 ≤ p.left)
    now = k.busy i p l job

    finished : leb p.left 1 ≡ true → Finished rows (worked i h).plan (last_job h i) (h.clock + 1)
    finished t = omega (arith, leb-true p.left 1 t, now.2, units_now i h)
