-- A dispatcher between two ticks of its life, and as the proof views it.
use Rattle.std.proofs.Common.{◌≡◌, ℕ, zero, suc, ◌+◌, ◌≤◌, true, false, List, [], ◌∷◌, length, get_or, replicate, is_some, Some, None, Option, sym, refl, ap, ◌∙◌, subst, arith}
use Rattle.feasibility.specs.Limits.{max_rows}
use Rattle.feasibility.specs.Tables.{row_at, Sound}
use Rattle.feasibility.specs.declared.row.Row.{Row}
use Rattle.guarantee.proofs.Facts.{next_of}
use Rattle.guarantee.proofs.HistorySteps.{last_later}
use Rattle.guarantee.proofs.Invariants.{started}
use Rattle.guarantee.proofs.Views.{Task, View, Linked, Invariant}
use Rattle.guarantee.specs.Histories.{History, unwritten, idled, last_job}
use Rattle.guarantee.specs.Rules.{taken}
use Rattle.guarantee.specs.States.{State, fresh, unasked}
use Rattle.guarantee.specs.declared.state.Pending.{Pending}
use Rattle.guarantee.specs.declared.state.RowState.{RowState}
use Rattle.guarantee.specs.declared.state.Tick.TheVariants.{Closed}
use Rattle.ready.specs.Entries.{Entries, filled}
use Rattle.ready.specs.Limits.{max_row}
use Rattle.ready.specs.declared.entry.Slot.{Slot}
use lib.ListN.{length-replicate}

-- A job with its entry.
abbrev pub joined : Option Pending → Option Slot → Option Task
joined None o = None
joined (Some b) None = None
joined (Some b) (Some x) =
    Some (record { deadline = x.deadline; due_at = b.due; left = b.left; begun = x.begun })

abbrev pub kept_at : State → ℕ → RowState
kept_at s j = get_or s.states j unasked

abbrev pub slot_at : State → ℕ → Option Slot
slot_at s j = get_or s.entries j None

abbrev pub view : List Row → State → View
view rows s = record {
  clock = s.clock;
  task = λ j. joined (kept_at s j).job (slot_at s j);
  next = λ j. next_of (row_at rows j).period (kept_at s j).last;
}

-- The last request that is kept of a row is the last of the history.
abbrev pub LastIs : History → ℕ → Option ℕ → Type 0
LastIs h j None = (a : ℕ) → h.asks j a ≡ true → ⊥
LastIs h j (Some last) = (h.asks j last ≡ true) × ((last_job h j).at ≡ last)

-- Every unfinished job has its entry and every entry its job, and no row beyond the table has either.
pub record Between (rows : List Row) (h : History) (s : State) : Type 0 where
  pub sound : Sound rows
  pub few : length rows ≤ max_rows
  pub fits : length rows ≤ s.cells
  pub table : s.table ≡ Some rows
  pub tick : s.tick ≡ Closed
  pub wide : length s.entries ≡ max_row
  pub long : length s.states ≡ max_row
  pub matched : (j : ℕ) → is_some (slot_at s j) ≡ is_some (kept_at s j).job
  pub beyond : (j : ℕ) → length rows ≤ j → slot_at s j ≡ None
  pub lasts : (j : ℕ) → LastIs h j (kept_at s j).last
  pub invariant : Invariant rows h (view rows s)

pub empty_at : (m : Entries) → filled m ≡ 0 → (k : ℕ) → get_or m k None ≡ None
empty_at [] e k = refl
empty_at (None ∷ m) e zero = refl
empty_at (None ∷ m) e (suc k) = empty_at m e k
empty_at (Some x ∷ m) e k = absurd (bad e)
  where
    bad : filled m + 1 ≡ 0 → ⊥
    bad p = omega arith

same_at : {X : Type 0} (n j : ℕ) (x : X) → get_or (replicate n x) j x ≡ x
same_at zero j x = refl
same_at (suc n) zero x = refl
same_at (suc n) (suc j) x = same_at n j x

-- a table is taken
pub taken_between :
    (m : Entries) (cells : ℕ) (rows : List Row) → length m ≡ max_row → filled m ≡ 0 → length rows ≤ max_rows →
    Sound rows → length rows ≤ cells → Between rows unwritten (taken (fresh m cells) rows)
taken_between m cells rows wide empty few sound fits =
    record {
      sound = sound;
      few = few;
      fits = fits;
      table = refl;
      tick = refl;
      wide = wide;
      long = length-replicate max_row unasked;
      matched = λ j. ap is_some (empty_at m empty j) ∙ sym (ap (λ (k : RowState). is_some k.job) (nothing j));
      beyond = λ j l. empty_at m empty j;
      lasts = λ j. subst (λ (k : RowState). LastIs unwritten j k.last) (sym (nothing j)) (λ a. none_asked);
      invariant =
          started rows (view rows (taken (fresh m cells) rows)) sound
          (record {
            clock = refl;
            task = λ j l. ap (λ (k : RowState). joined k.job (get_or m j None)) (nothing j);
            next = λ j l. ap (λ (k : RowState). next_of (row_at rows j).period k.last) (nothing j);
          });
    }
  where
    nothing : (j : ℕ) → get_or (replicate max_row unasked) j unasked ≡ unasked
    nothing j = same_at max_row j unasked

    none_asked : false ≡ true → ⊥
    none_asked p = let z : ◌≡◌ {A = ℕ} 0 1 = cc in omega arith

-- the last requests stay as they are when a tick is over, since none is later than the clock
pub last_still :
    (rows : List Row) (h : History) (v : View) → Linked rows h v → (j : ℕ) (o : Option ℕ) → LastIs h j o →
    LastIs (idled h) j o
last_still rows h v link j None none = none
last_still rows h v link j (Some last) is =
    let same = last_later h.asks j h.clock (λ e. omega (arith, (link.past j (h.clock + 1) e).1)) in
    (is.0, same ∙ is.1)
