-- What the record of a life says of the state that it leads to, call by call.
use Rattle.std.proofs.Common.{◌≡◌, ℕ, ◌-◌, Bool, true, false, cond, not, eqb, ltb, List, ◌∷◌, length, is_some, IfSome, Some, None, Ok, Option, sym, refl, ap, ◌∙◌, subst, arith, MatchOption}
use Rattle.feasibility.proofs.Refused.{refusals_are_deserved_lem}
use Rattle.feasibility.specs.Contents.{numbered}
use Rattle.feasibility.specs.Tables.{row_at, Sound}
use Rattle.feasibility.specs.declared.row.Row.{Row}
use Rattle.guarantee.proofs.Between.{Between, taken_between}
use Rattle.guarantee.proofs.Facts.{accepted, refused, outcome, passed, is_none, in_table, not_early}
use Rattle.guarantee.proofs.Requesting.{released_between}
use Rattle.guarantee.proofs.Telling.{Seen, seen_between, seen_begun, Right, release_true, spare_true, end_true}
use Rattle.guarantee.proofs.Ticking.{within as first_within, first_job, idle_between, work_between}
use Rattle.guarantee.specs.Histories.{History, unwritten, asked, idled, worked}
use Rattle.guarantee.specs.Laws.{LivesAreGuaranteed}
use Rattle.guarantee.specs.Lives.{Event, event, Lived, made, more, heard, history, took, table_taken, Throughout, LivesOn}
use Rattle.guarantee.specs.Promises.{Kept}
use Rattle.guarantee.specs.Rules.{Call, Take, Release, Begin, End, Spare, Reply, Proper, Step, known, row_in, too_early, take_refusal, taken, release_refusal, released, begin_refusal, begun, end_refusal, ended, end_told, first_row, spare_refusal, slack}
use Rattle.guarantee.specs.States.{State, fresh, state_of, rows_taken, tick_row, is_open}
use Rattle.guarantee.specs.Truths.{TrueAnswer}
use Rattle.guarantee.specs.declared.refusal.Refusal.{Refusal}
use Rattle.guarantee.specs.declared.refusal.Refusal.TheVariants.{TableTaken, ListNotEmpty, CapacityBelowRows, NoTable, UnknownRow, TickOpen, TooEarly, EarlierUnfinished, NoTickOpen}
use Rattle.guarantee.specs.declared.state.JobState.TheVariants.{Unfinished}
use Rattle.ready.specs.Entries.{Entries, IsFirst, filled}
use Rattle.ready.specs.Limits.{max_row}
use Rattle.ready.specs.declared.entry.Entry.{Entry}
use Rattle.std.proofs.lemmas.Bool.{cond-false, true≢false, eqb-true, ltb-false, ne_eqb, not-false}

-- By the table taken and the history: no table is taken and nothing has changed; or the tick is closed; or it is open,
-- and the state is what begin made of one between two ticks.
pub data Alive : Option (List Row) → History → State → Type 0 where
  bare : (m : Entries) (cells : ℕ) → length m ≡ max_row → Alive None unwritten (fresh m cells)
  between : {rows : List Row} {h : History} {s : State} → Between rows h s → Alive (Some rows) h s
  within :
      {rows : List Row} {h : History} {s : State} (e : Option Entry) → Between rows h s → IsFirst s.entries e →
      Alive (Some rows) h (begun s e)

has_table : (rows : List Row) (h : History) (s : State) → Between rows h s → is_some s.table ≡ true
has_table rows h s b = ap is_some b.table

not_refused : {X : Type 0} (e : Refusal) → ◌≡◌ {A = Option Refusal} (Some e) None → X
not_refused e p = let z : ◌≡◌ {A = ℕ} 0 1 = cc in absurd (bad z)
  where
    bad : ◌≡◌ {A = ℕ} 0 1 → ⊥
    bad z = omega arith

clash : {X : Type 0} (b : Bool) → b ≡ true → b ≡ false → X
clash b t f = absurd (true≢false (sym t ∙ f))

take_on :
    (tab : Option (List Row)) (h : History) (s : State) (rows : List Row) → Alive tab h s → Proper (Take rows) →
    take_refusal s rows ≡ None → Alive (Some rows) h (taken s rows)
take_on tab h s rows (bare m cells wide) proper none =
    let empty = passed (not (eqb (filled m) 0)) ListNotEmpty _ none in
    let fits = passed (ltb cells (length rows)) CapacityBelowRows _ empty.1 in
    between
    (taken_between m cells rows wide (eqb-true (filled m) 0 (not-false (eqb (filled m) 0) empty.0)) proper.0
    proper.1 (ltb-false cells (length rows) fits.0))
take_on tab h s rows (between {rows = rs} b) proper none =
    clash (is_some s.table) (has_table rs h s b) (passed (is_some s.table) TableTaken _ none).0
take_on tab h s rows (within {rows = rs} {s = s₀} e b f) proper none =
    clash (is_some s₀.table) (has_table rs h s₀ b) (passed (is_some s₀.table) TableTaken _ none).0

-- the tests after the first, which refuses where there is no table
abbrev rest_after_table : State → ℕ → Option Refusal
rest_after_table s row =
    cond (not (is_some (row_in s row))) (Some UnknownRow)
    (cond (is_open s.tick) (Some TickOpen)
    (cond (too_early s.clock (known (row_in s row)).period (state_of s row).last) (Some TooEarly)
    (cond (is_some (state_of s row).job) (Some EarlierUnfinished) None)))

record Tests (s : State) (row : ℕ) : Type 0 where
  listed : is_some (row_in s row) ≡ true
  shut : is_open s.tick ≡ false
  on_time : too_early s.clock (known (row_in s row)).period (state_of s row).last ≡ false
  free : is_some (state_of s row).job ≡ false

release_tests : (s : State) (row : ℕ) → release_refusal s row ≡ None → Tests s row
release_tests s row none =
    let table = passed (not (is_some s.table)) NoTable (rest_after_table s row) none in
    let listed = passed (not (is_some (row_in s row))) UnknownRow _ table.1 in
    let shut = passed (is_open s.tick) TickOpen _ listed.1 in
    let on_time =
    passed (too_early s.clock (known (row_in s row)).period (state_of s row).last) TooEarly _ shut.1 in
    let free = passed (is_some (state_of s row).job) EarlierUnfinished None on_time.1 in
    record {
      listed = not-false (is_some (row_in s row)) listed.0;
      shut = shut.0;
      on_time = on_time.0;
      free = free.0;
    }

release_on :
    (tab : Option (List Row)) (h : History) (s : State) (row : ℕ) → Alive tab h s → release_refusal s row ≡ None →
    Alive tab (asked (row - 1) h) (released s row (known (row_in s row)))
release_on tab h s row (bare m cells wide) none = not_refused NoTable none
release_on tab h s row (between {rows = rows} b) none =
    let tests = release_tests s row none in
    let same : row_in s row ≡ numbered rows row = ap (λ o. numbered (rows_taken o) row) b.table in
    let place = in_table rows row (sym (ap is_some same) ∙ tests.listed) in
    let line : known (row_in s row) ≡ row_at rows (row - 1) = ap known same ∙ place.2 in
    let free = is_none (state_of s row).job tests.free in
    let lawful = not_early s.clock (known (row_in s row)).period (state_of s row).last tests.on_time in
    rw line (between (released_between rows h s b row place.0 place.1 free (rw line at lawful)))
release_on tab h s row (within e b f) none = clash true refl (release_tests s row none).shut

begin_on :
    (tab : Option (List Row)) (h : History) (s : State) (e : Option Entry) → Alive tab h s → begin_refusal s ≡ None →
    IsFirst s.entries e → Alive tab h (begun s e)
begin_on tab h s e (bare m cells wide) none f = not_refused NoTable none
begin_on tab h s e (between b) none f = within e b f
begin_on tab h s e (within {s = s₀} e₀ b f₀) none f =
    not_refused TickOpen (passed (not (is_some s₀.table)) NoTable (Some TickOpen) none).1

end_on :
    (tab : Option (List Row)) (h : History) (s : State) → Alive tab h s → end_refusal s ≡ None →
    Alive tab (heard End (Ok (tick_row s.tick, end_told s (tick_row s.tick))) h) (ended s (tick_row s.tick))
end_on tab h s (bare m cells wide) none = not_refused NoTable none
end_on tab h s (between b) none =
    let shut : is_open s.tick ≡ false = ap is_open b.tick in
    clash (is_open s.tick)
    (not-false (is_open s.tick)
    (passed (not (is_open s.tick)) NoTickOpen _ (passed (not (is_some s.table)) NoTable _ none).1).0) shut
end_on tab h s (within {rows = rows} {s = s₀} None b f) none = between (idle_between rows h s₀ b f)
end_on tab h s (within {rows = rows} {s = s₀} (Some e) b f) none =
    let busy : eqb e.row 0 ≡ false = ne_eqb e.row 0 (λ z. omega (arith, f.low)) in
    subst (λ k. Alive (Some rows) k (ended (begun s₀ (Some e)) e.row))
    (sym (cond-false (eqb e.row 0) (idled h) (worked (e.row - 1) h) busy)) (between (work_between rows h s₀ b e f))

-- a call more
step_on :
    (tab : Option (List Row)) (h : History) (s : State) (c : Call) (r : Reply c) (t : State) → Alive tab h s → Proper c →
    Step s c r t → Alive (took c r tab) (heard c r h) t
step_on tab h s (Take rows) r t a proper step =
    elim (outcome (take_refusal s rows) s r t ((r ≡ Ok tt) × (t ≡ taken s rows)) step) [
      | accepted none is ↦ rw (is.0, is.1) (take_on tab h s rows a proper none)
      | refused e why is same ↦ rw (is, same) a
    ]
step_on tab h s (Release row) r t a proper step =
    elim (outcome (release_refusal s row) s r t ((r ≡ Ok tt) × (t ≡ released s row (known (row_in s row)))) step) [
      | accepted none is ↦ rw (is.0, is.1) (release_on tab h s row a none)
      | refused e why is same ↦ rw (is, same) a
    ]
step_on tab h s Begin r t a proper step =
    elim
    (outcome (begin_refusal s) s r t
    ((e : Option Entry) × IsFirst s.entries e × (r ≡ Ok (first_row e)) × (t ≡ begun s e)) step) [
      | accepted none is ↦ rw is.3 (begin_on tab h s is.0 a none is.1)
      | refused e why is same ↦ rw same a
    ]
step_on tab h s End r t a proper step =
    elim
    (outcome (end_refusal s) s r t
    ((r ≡ Ok (tick_row s.tick, end_told s (tick_row s.tick))) × (t ≡ ended s (tick_row s.tick))) step) [
      | accepted none is ↦ rw (is.0, is.1) (end_on tab h s a none)
      | refused e why is same ↦ rw (is, same) a
    ]
step_on tab h s (Spare row) r t a proper step =
    elim
    (outcome (spare_refusal s row) s r t ((r ≡ Ok (slack s.clock (state_of s row).job)) × (t ≡ s)) step) [
      | accepted none is ↦ rw is.1 a
      | refused e why is same ↦ rw same a
    ]

-- what is answered is true: of a release and a spare by what is kept of the row, in a tick or between two
release_answered :
    (rows : List Row) (h : History) (s : State) (row : ℕ) (r : Reply (Release row)) (t : State) → Seen rows h s →
    Step s (Release row) r t → TrueAnswer rows (Release row) r h
release_answered rows h s row r t k step =
    elim (outcome (release_refusal s row) s r t ((r ≡ Ok tt) × (t ≡ released s row (known (row_in s row)))) step) [
      | accepted none is ↦ rw is.0 (subst (Right rows h s k row) none (release_true rows h s k row))
      | refused e why is same ↦ rw is (subst (Right rows h s k row) why (release_true rows h s k row))
    ]

spare_answered :
    (rows : List Row) (h : History) (s : State) (row : ℕ) (r : Reply (Spare row)) (t : State) → Seen rows h s →
    Step s (Spare row) r t → TrueAnswer rows (Spare row) r h
spare_answered rows h s row r t k step =
    elim
    (outcome (spare_refusal s row) s r t ((r ≡ Ok (slack s.clock (state_of s row).job)) × (t ≡ s)) step) [
      | accepted none is ↦
          let table = passed (not (is_some s.table)) NoTable _ none in
          let listed = passed (not (is_some (row_in s row))) UnknownRow None table.1 in
          rw is.0 (spare_true rows h s k row (not-false (is_some (row_in s row)) listed.0))
      | refused e why is same ↦ rw is tt
    ]

-- and of an end by the job that the tick was given to
end_answered :
    (tab : Option (List Row)) (h : History) (s : State) (r : Reply End) (t : State) → Alive tab h s → Step s End r t →
    IfSome tab (λ rows. TrueAnswer rows End r h)
end_answered tab h s r t (bare m cells wide) step = tt
end_answered tab h s r t (between {rows = rows} b) step =
    elim
    (outcome (end_refusal s) s r t
    ((r ≡ Ok (tick_row s.tick, end_told s (tick_row s.tick))) × (t ≡ ended s (tick_row s.tick))) step) [
      | accepted none is ↦ clash (is_open s.tick) (open_now none) (ap is_open b.tick)
      | refused e why is same ↦ rw is tt
    ]
  where
    open_now : end_refusal s ≡ None → is_open s.tick ≡ true
    open_now none =
        not-false (is_open s.tick)
        (passed (not (is_open s.tick)) NoTickOpen _ (passed (not (is_some s.table)) NoTable _ none).1).0
end_answered tab h s r t (within {rows = rows} {s = s₀} None b f) step =
    elim
    (outcome (end_refusal (begun s₀ None)) (begun s₀ None) r t
    ((r ≡ Ok (0, Unfinished)) × (t ≡ ended (begun s₀ None) 0)) step) [
      | accepted none is ↦ rw is.0 refl
      | refused e why is same ↦ rw is tt
    ]
end_answered tab h s r t (within {rows = rows} {s = s₀} (Some e) b f) step =
    elim
    (outcome (end_refusal (begun s₀ (Some e))) (begun s₀ (Some e)) r t
    ((r ≡ Ok (e.row, end_told (begun s₀ (Some e)) e.row)) × (t ≡ ended (begun s₀ (Some e)) e.row)) step) [
      | accepted none is ↦ rw is.0 given
      | refused e why is same ↦ rw is tt
    ]
  where
    given : TrueAnswer rows End (Ok (e.row, end_told (begun s₀ (Some e)) e.row)) h
    given =
        let busy : eqb e.row 0 ≡ false = ne_eqb e.row 0 (λ z. omega (arith, f.low)) in
        let p = first_job rows h s₀ b e f in
        let told =
        end_true rows h (begun s₀ (Some e)) (seen_begun rows h s₀ (Some e) (seen_between rows h s₀ b)) (e.row - 1)
        p.0 (first_within rows h s₀ b e f) p.1 in
        rw (busy, p.1) told

seen_answered :
    (rows : List Row) (h : History) (s : State) (c : Call) (r : Reply c) (t : State) → Seen rows h s →
    ((x : Reply End) → Step s End x t → TrueAnswer rows End x h) → Step s c r t → TrueAnswer rows c r h
seen_answered rows h s (Take new) r t k end step = tt
seen_answered rows h s (Release row) r t k end step = release_answered rows h s row r t k step
seen_answered rows h s Begin r t k end step = tt
seen_answered rows h s End r t k end step = end r step
seen_answered rows h s (Spare row) r t k end step = spare_answered rows h s row r t k step

answered :
    (tab : Option (List Row)) (h : History) (s : State) (c : Call) (r : Reply c) (t : State) → Alive tab h s →
    Step s c r t → IfSome tab (λ rows. TrueAnswer rows c r h)
answered tab h s c r t (bare m cells wide) step = tt
answered tab h s c r t (between {rows = rows} b) step =
    seen_answered rows h s c r t (seen_between rows h s b) (λ x. end_answered (Some rows) h s x t (between b)) step
answered tab h s c r t (within {rows = rows} {s = s₀} e b f) step =
    seen_answered rows h (begun s₀ e) c r t (seen_begun rows h s₀ e (seen_between rows h s₀ b))
    (λ x. end_answered (Some rows) h (begun s₀ e) x t (within e b f)) step

pub alive : {log : List Event} {s : State} → Lived log s → Alive (table_taken log) (history log) s
alive (made m cells wide) = bare m cells wide
alive (more {log = log} {s = s} c r t life proper step) =
    step_on (table_taken log) (history log) s c r t (alive life) proper step

kept : (tab : Option (List Row)) (h : History) (s : State) → Alive tab h s → MatchOption tab (h ≡ unwritten) (λ rows. Kept rows h)
kept tab h s (bare m cells wide) = refl
kept tab h s (between b) = record { orderly = b.invariant.orderly; in_time = b.invariant.in_time }
kept tab h s (within e b f) = record { orderly = b.invariant.orderly; in_time = b.invariant.in_time }

pub throughout : {log : List Event} {s : State} → Lived log s → Throughout log
throughout (made m cells wide) = refl
throughout (more {log = log} {s = s} c r t life proper step) =
    let next = more c r t life proper step in (
      kept (table_taken (event c r ∷ log)) (history (event c r ∷ log)) t (alive next),
      answered (table_taken log) (history log) s c r t (alive life) step,
      throughout life,
    )

pub lives_on : (s : State) (c : Call) (r : Reply c) (t : State) → Proper c → Step s c r t → LivesOn s c r t
lives_on s c r t proper step log life = let next = more c r t life proper step in (next, throughout next)

-- every table that is taken is sound
sound_taken : (tab : Option (List Row)) (h : History) (s : State) → Alive tab h s → (rows : List Row) → tab ≡ Some rows → Sound rows
sound_taken tab h s (bare m cells wide) rows is = absurd (no_table is)
  where
    no_table : ◌≡◌ {A = Option (List Row)} None (Some rows) → ⊥
    no_table p = let z : ◌≡◌ {A = ℕ} 0 1 = cc in omega arith
sound_taken tab h s (between {rows = rs} b) rows is = let same : rs ≡ rows = cc in subst Sound same b.sound
sound_taken tab h s (within {rows = rs} e b f) rows is = let same : rs ≡ rows = cc in subst Sound same b.sound

pub lives_are_guaranteed_lem : LivesAreGuaranteed
lives_are_guaranteed_lem log s life =
    record {
      promised = throughout life;
      hopeless =
          λ rows h v taken judged. refusals_are_deserved_lem rows h v
          (sound_taken (table_taken log) (history log) s (alive life) rows taken) judged;
    }
