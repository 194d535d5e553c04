-- A begin and its end: the view goes on by a tick, given to the job that is ranked first or to none.
use Rattle.std.proofs.lemmas.Option.{none-some}
use Rattle.std.proofs.Common.{◌≡◌, ℕ, ◌+◌, ◌-◌, ◌<◌, ◌≤◌, min, Bool, true, false, cond, eqb, leb, ◌≢◌, ◌⊎◌, List, length, get_or, set, is_some as option_is_some, Some, None, Ok, Option, sym, refl, ap, ◌∙◌, subst, ap₂, inl, inr, arith, length-set, get_or-set_other, get_or-set_same}
use Rattle.feasibility.specs.Tables.{row_at, least_period}
use Rattle.feasibility.specs.declared.row.Row.{Row}
use Rattle.guarantee.proofs.Between.{Between, LastIs, last_still, joined, kept_at, slot_at, view, empty_at}
use Rattle.guarantee.proofs.Facts.{next_of, is_some, numbered_in, lowered_is}
use Rattle.guarantee.proofs.Invariants as invariants
use Rattle.guarantee.proofs.Views as views
use Rattle.guarantee.proofs.Views.{Task}
use Rattle.guarantee.specs.Histories.{History, worked, idled}
use Rattle.guarantee.specs.Rules.{begun, marked, begun_deadline, closed, ended, with_job}
use Rattle.guarantee.specs.States.{State, unasked, state_of}
use Rattle.guarantee.specs.declared.state.Pending.{Pending}
use Rattle.guarantee.specs.declared.state.RowState.{RowState}
use Rattle.ready.specs.Entries.{Entries, First, slot, filled, has, outside, found_answer, after}
use Rattle.ready.specs.Limits.{max_row}
use Rattle.ready.specs.Order.{before}
use Rattle.ready.specs.declared.entry.Entry.{Entry}
use Rattle.ready.specs.declared.entry.Slot.{Slot}
use Rattle.std.proofs.lemmas.Bool.{cases_eq, cases_lt, cond_both, cond-true, cond-false, ne_eqb}
use Rattle.std.proofs.lemmas.Bool.Decides.{nat_tests}

joined_none : (o : Option Pending) → joined o None ≡ None
joined_none None = refl
joined_none (Some b) = refl

-- a job that is viewed has an entry, with its deadline and mark
joined_some :
    (o : Option Pending) (q : Option Slot) (a : Task) → joined o q ≡ Some a → q ≡ Some (slot a.deadline a.begun)
joined_some None q a e = cc
joined_some (Some b) None a e = cc
joined_some (Some b) (Some x) a e = ap Some (same is)
  where
    is : record { deadline = x.deadline; due_at = b.due; left = b.left; begun = x.begun } ≡ a
    is = cc

    same :
        record { deadline = x.deadline; due_at = b.due; left = b.left; begun = x.begun } ≡ a →
        x ≡ slot a.deadline a.begun
    same p = λ i. slot (p i).deadline (p i).begun

-- mark and remove find a row that has an entry
found : (m : Entries) (row : ℕ) → outside row ≡ false → has m row ≡ true → found_answer m row ≡ Ok tt
found m row inside listed = rw (inside, listed) refl

-- what the order says of an entry that no other comes before
ranked : (d d₁ row row₁ : ℕ) (b b₁ : Bool) →
    before (record { row = row₁; deadline = d₁; begun = b₁ }) (record { row = row; deadline = d; begun = b }) ≡ false →
    (d ≤ d₁) × (d ≡ d₁ → b₁ ≡ true → b ≡ true)
ranked d d₁ row row₁ true true p = (grind (arith, nat_tests, p), λ _ _. refl)
ranked d d₁ row row₁ true false p = (grind (arith, nat_tests, p), λ _ _. refl)
ranked d d₁ row row₁ false true p = (grind (arith, nat_tests, p), λ q _. absurd (bad q))
  where
    bad : d ≡ d₁ → ⊥
    bad q = grind (arith, nat_tests, p, q)
ranked d d₁ row row₁ false false p = (grind (arith, nat_tests, p), λ _ q. q)

module _ (rows : List Row) (h : History) (s : State) (b : Between rows h s) where
  pub idle_between : filled s.entries ≡ 0 → Between rows (idled h) (ended (begun s None) 0)
  idle_between empty =
      record {
        sound = b.sound;
        few = b.few;
        fits = b.fits;
        table = b.table;
        tick = refl;
        wide = b.wide;
        long = b.long;
        matched = b.matched;
        beyond = b.beyond;
        lasts = λ j. last_still rows h (view rows s) b.invariant.linked j (kept_at s j).last (b.lasts j);
        invariant =
            invariants.idled_on rows h (view rows s) (view rows (ended (begun s None) 0)) b.sound
            (record {
              clock = refl;
              none =
                  λ j l. ap (joined (kept_at s j).job) (empty_at s.entries empty j) ∙ joined_none (kept_at s j).job;
              task = λ j l. refl;
              next = λ j l. refl;
            })
            b.invariant;
      }

  module _ (e : Entry) (f : First s.entries e) where
    -- the first entry is of a row of the table, which has an unfinished job
    pub within : e.row - 1 < length rows
    within = at (cases_lt (e.row - 1) (length rows))
      where
        at : (e.row - 1 < length rows) ⊎ (length rows ≤ e.row - 1) → e.row - 1 < length rows
        at (inl l) = l
        at (inr past) = absurd (none-some (slot e.deadline e.begun) (sym (b.beyond (e.row - 1) past) ∙ f.is))

    abbrev line : Row
    line = row_at rows (e.row - 1)

    -- the deadline of an entry that is begun now
    lowered : begun_deadline s e ≡ cond (eqb line.store 0) e.deadline
        (min e.deadline (s.clock + 1 + least_period rows line.store))
    lowered =
        let at = numbered_in rows e.row f.low (omega (arith, within, f.low)) in
        rw (b.table, at) (lowered_is rows s.clock e.deadline (e.row - 1) b.sound within)

    module _ (p : Pending) (job : (kept_at s (e.row - 1)).job ≡ Some p) where
      abbrev task : Task
      task = record { deadline = e.deadline; due_at = p.due; left = p.left; begun = e.begun }

      -- the deadline with which the job goes on
      abbrev new_deadline : ℕ
      new_deadline = views.marked rows line s.clock task

      -- what begin does to the entries
      pub record Marks (m : Entries) : Type 0 where
        pub wide : length m ≡ max_row
        pub here : get_or m (e.row - 1) None ≡ Some (slot new_deadline true)
        pub else' : (j : ℕ) → j ≢ e.row - 1 → get_or m j None ≡ slot_at s j

      has_job : has s.entries e.row ≡ true
      has_job = ap option_is_some f.is

      inside : outside e.row ≡ false
      inside = grind (arith, nat_tests, f.low, f.high)

      -- the entries with this one begun
      abbrev now_marked : Entries
      now_marked =
          after (found_answer s.entries e.row) s.entries e.row (Some (slot (begun_deadline s e) true))

      already : e.begun ≡ true → Marks s.entries
      already t = record { wide = b.wide; here = f.is ∙ same; else' = λ j ne. refl }
        where
          same : ◌≡◌ {A = Option Slot} (Some (slot e.deadline e.begun)) (Some (slot new_deadline true))
          same = rw t refl

      now_begun : e.begun ≡ false → Marks now_marked
      now_begun t =
          let l : e.row - 1 < length s.entries = omega (arith, b.wide, f.low, f.high) in
          rw (found s.entries e.row inside has_job)
          (record {
            wide = length-set s.entries (e.row - 1) _ ∙ b.wide;
            here = get_or-set_same s.entries (e.row - 1) _ None l ∙ same;
            else' = λ j ne. get_or-set_other s.entries (e.row - 1) j _ None ne;
          })
        where
          same : ◌≡◌ {A = Option Slot} (Some (slot (begun_deadline s e) true)) (Some (slot new_deadline true))
          same = ap (λ d. Some (slot d true)) (lowered ∙ sym (cond-false e.begun e.deadline _ t))

      marks : Marks (marked s e)
      marks = cond_both e.begun s.entries now_marked Marks already now_begun

      -- the state within the tick
      abbrev open_state : State
      open_state = begun s (Some e)

      -- after the tick, with o left of the job and q for its entry
      module _
          (o : Option Pending) (m : Entries) (q : Option Slot) (wide : length m ≡ max_row)
          (here : get_or m (e.row - 1) None ≡ q) (else' : (j : ℕ) → j ≢ e.row - 1 → get_or m j None ≡ slot_at s j)
          (both : option_is_some q ≡ option_is_some o) (is : joined o q ≡ views.after rows line s.clock task) where
        abbrev over : State
        over = closed open_state (with_job open_state e.row o) m

        abbrev new_state : RowState
        new_state = record { last = (state_of s e.row).last; job = o }

        kept_here : kept_at over (e.row - 1) ≡ new_state
        kept_here =
            let l : e.row - 1 < length s.states = omega (arith, b.long, f.low, f.high) in
            get_or-set_same s.states (e.row - 1) new_state unasked l

        kept_else : (j : ℕ) → j ≢ e.row - 1 → kept_at over j ≡ kept_at s j
        kept_else j ne = get_or-set_other s.states (e.row - 1) j new_state unasked ne

        -- no request is made in a tick
        last_same : (j : ℕ) → (kept_at over j).last ≡ (kept_at s j).last
        last_same j = at (cases_eq j (e.row - 1))
          where
            at : (j ≡ e.row - 1) ⊎ (j ≡ e.row - 1 → ⊥) → (kept_at over j).last ≡ (kept_at s j).last
            at (inl z) = rw z (ap (λ (k : RowState). k.last) kept_here)
            at (inr ne) = ap (λ (k : RowState). k.last) (kept_else j ne)

        matched : (j : ℕ) → option_is_some (slot_at over j) ≡ option_is_some (kept_at over j).job
        matched j = at (cases_eq j (e.row - 1))
          where
            at : (j ≡ e.row - 1) ⊎ (j ≡ e.row - 1 → ⊥) → option_is_some (slot_at over j) ≡ option_is_some (kept_at over j).job
            at (inl z) = rw z (ap option_is_some here ∙ both ∙ sym (ap (λ (k : RowState). option_is_some k.job) kept_here))
            at (inr ne) =
                ap option_is_some (else' j ne) ∙ b.matched j ∙ sym (ap (λ (k : RowState). option_is_some k.job) (kept_else j ne))

        -- of any other job that is viewed: it is not ranked above this one
        rank :
            (j : ℕ) (a : Task) → j < length rows → (view rows s).task j ≡ Some a →
            (e.deadline ≤ a.deadline) × (e.deadline ≡ a.deadline → a.begun ≡ true → e.begun ≡ true)
        rank j a l is_a =
            let z : j + 1 - 1 ≡ j = omega arith in
            let at : slot_at s j ≡ Some (slot a.deadline a.begun)
            = joined_some (kept_at s j).job (slot_at s j) a is_a in
            let at' : slot_at s (j + 1 - 1) ≡ Some (slot a.deadline a.begun) = rw z at in
            ranked e.deadline a.deadline e.row (j + 1) e.begun a.begun
            (f.least (j + 1) (slot a.deadline a.begun) (omega arith) (omega (arith, b.few)) at')

        worked_view : views.Worked rows (e.row - 1) task (view rows s) (view rows over)
        worked_view =
            record {
              within = within;
              has = ap₂ joined job f.is;
              first = λ j a l is_a. (rank j a l is_a).0;
              ties = λ j a l is_a. (rank j a l is_a).1;
              clock = refl;
              task = ap₂ (λ (k : RowState) x. joined k.job x) kept_here here ∙ is;
              task_else = λ j l ne. ap₂ (λ (k : RowState) x. joined k.job x) (kept_else j ne) (else' j ne);
              next = λ j l. ap (next_of (row_at rows j).period) (last_same j);
            }

        over_between : Between rows (worked (e.row - 1) h) over
        over_between =
            record {
              sound = b.sound;
              few = b.few;
              fits = b.fits;
              table = b.table;
              tick = refl;
              wide = wide;
              long = length-set s.states (e.row - 1) new_state ∙ b.long;
              matched = matched;
              beyond = λ j l. else' j (λ z. omega (arith, within)) ∙ b.beyond j l;
              lasts =
                  λ j. subst (LastIs (idled h) j) (sym (last_same j))
                  (last_still rows h (view rows s) b.invariant.linked j (kept_at s j).last (b.lasts j));
              invariant =
                  invariants.worked_on rows (e.row - 1) task h (view rows s) (view rows over) b.sound worked_view
                  b.invariant;
            }

      abbrev rest : Pending
      rest = record { due = p.due; left = p.left - 1 }

      -- the job is finished
      finished : leb p.left 1 ≡ true →
          Between rows (worked (e.row - 1) h)
          (closed open_state (with_job open_state e.row None)
          (after (found_answer (marked s e) e.row) (marked s e) e.row None))
      finished t =
          let has_entry : has (marked s e) e.row ≡ true = ap option_is_some marks.here in
          let l : e.row - 1 < length (marked s e) = omega (arith, marks.wide, f.low, f.high) in
          rw (found (marked s e) e.row inside has_entry)
          (over_between None (set (marked s e) (e.row - 1) None) None
          (length-set (marked s e) (e.row - 1) None ∙ marks.wide)
          (get_or-set_same (marked s e) (e.row - 1) None None l)
          (λ j ne. get_or-set_other (marked s e) (e.row - 1) j None None ne ∙ marks.else' j ne) refl
          (sym (cond-true (leb p.left 1) None _ t)))

      -- the job goes on
      unfinished : leb p.left 1 ≡ false →
          Between rows (worked (e.row - 1) h)
          (closed open_state (with_job open_state e.row (Some rest)) (marked s e))
      unfinished t =
          over_between (Some rest) (marked s e) (Some (slot new_deadline true)) marks.wide marks.here
          marks.else' refl (sym (cond-false (leb p.left 1) None _ t))

      worked_by : Between rows (worked (e.row - 1) h) (ended open_state e.row)
      worked_by =
          rw (ne_eqb e.row 0 (λ z. omega (arith, f.low)), job)
          (cond_both (leb p.left 1) _ _ (Between rows (worked (e.row - 1) h)) finished unfinished)

    pub first_job : (p : Pending) × ((kept_at s (e.row - 1)).job ≡ Some p)
    first_job = is_some (kept_at s (e.row - 1)).job (sym (b.matched (e.row - 1)) ∙ ap option_is_some f.is)

    pub work_between : Between rows (worked (e.row - 1) h) (ended (begun s (Some e)) e.row)
    work_between = worked_by first_job.0 first_job.1
