-- A release between two ticks: there is a cell for the new entry, and the view goes on by a request.
use Rattle.std.proofs.lemmas.Option.{none-some}
use Rattle.std.proofs.Common.{◌≡◌, ℕ, zero, suc, ◌+◌, ◌-◌, ◌<◌, ◌≤◌, true, false, eqb, ◌≢◌, ◌⊎◌, List, [], ◌∷◌, length, get_or, set, is_some, Some, None, Ok, Option, sym, refl, ap, ◌∙◌, subst, ap₂, inl, inr, arith, length-set, get_or-set_other, get_or-set_same}
use Rattle.feasibility.specs.Schedules.{relative_deadline}
use Rattle.feasibility.specs.Tables.{row_at}
use Rattle.feasibility.specs.declared.row.Row.{Row}
use Rattle.guarantee.proofs.Between.{Between, LastIs, joined, kept_at, slot_at, view}
use Rattle.guarantee.proofs.Facts.{next_of, is_none}
use Rattle.guarantee.proofs.HistorySteps.{asked_cases, asked_more, asked_now, last_now, last_else}
use Rattle.guarantee.proofs.Invariants as invariants
use Rattle.guarantee.specs.Histories.{History, asked}
use Rattle.guarantee.specs.Rules.{released}
use Rattle.guarantee.specs.States.{State, unasked}
use Rattle.guarantee.specs.declared.state.RowState.{RowState}
use Rattle.ready.specs.Entries.{Entries, filled, has, outside, slot, put_answer}
use Rattle.ready.specs.declared.entry.Slot.{Slot}
use Rattle.std.proofs.lemmas.Bool.{cases_eq, ne_eqb}
use Rattle.std.proofs.lemmas.Bool.Decides.{nat_tests}

-- entries at the first n places only
filled_below : (m : Entries) (n : ℕ) → ((k : ℕ) → n ≤ k → get_or m k None ≡ None) → filled m ≤ n
filled_below [] n f = omega arith
filled_below (None ∷ m) zero f = filled_below m zero (λ k h. f (suc k) (omega arith))
filled_below (Some x ∷ m) zero f = absurd (none-some x (sym (f 0 (omega arith))))
filled_below (None ∷ m) (suc n) f = let h = filled_below m n (λ k h. f (suc k) (omega (arith, h))) in omega arith
filled_below (Some x ∷ m) (suc n) f = let h = filled_below m n (λ k h. f (suc k) (omega (arith, h))) in omega arith

-- and not at all of them
filled_less :
    (m : Entries) (n i : ℕ) → i < n → get_or m i None ≡ None → ((k : ℕ) → n ≤ k → get_or m k None ≡ None) → filled m < n
filled_less [] n i h e f = omega arith
filled_less (o ∷ m) zero i h e f = absurd (omega (arith, h))
filled_less (None ∷ m) (suc n) zero h e f =
    let b = filled_below m n (λ k h. f (suc k) (omega (arith, h))) in omega arith
filled_less (Some x ∷ m) (suc n) zero h e f = absurd (none-some x (sym e))
filled_less (None ∷ m) (suc n) (suc i) h e f =
    let b = filled_less m n i (omega (arith, h)) e (λ k h. f (suc k) (omega (arith, h))) in omega arith
filled_less (Some x ∷ m) (suc n) (suc i) h e f =
    let b = filled_less m n i (omega (arith, h)) e (λ k h. f (suc k) (omega (arith, h))) in omega arith

module _ (rows : List Row) (h : History) (s : State) (b : Between rows h s) (row : ℕ) (low : 1 ≤ row)
    (high : row ≤ length rows) (free : (kept_at s (row - 1)).job ≡ None)
    (lawful : next_of (row_at rows (row - 1)).period (kept_at s (row - 1)).last ≤ s.clock) where
  abbrev due_time : ℕ
  due_time = s.clock + relative_deadline (row_at rows (row - 1))

  abbrev new_state : RowState
  new_state = record {
    last = Some s.clock;
    job = Some (record { due = due_time; left = (row_at rows (row - 1)).cost });
  }

  abbrev new_slot : Option Slot
  new_slot = Some (slot due_time false)

  -- the state with the new job and its entry
  abbrev with_entry : State
  with_entry = record {
    clock = s.clock;
    table = s.table;
    tick = s.tick;
    states = set s.states (row - 1) new_state;
    entries = set s.entries (row - 1) new_slot;
    cells = s.cells;
  }

  no_entry : slot_at s (row - 1) ≡ None
  no_entry = is_none (slot_at s (row - 1)) (b.matched (row - 1) ∙ ap is_some free)

  put : put_answer s.cells s.entries row ≡ Ok tt
  put =
      let inside : outside row ≡ false = grind (arith, nat_tests, low, high, b.few) in
      let none : has s.entries row ≡ false = ap is_some no_entry in
      let less = filled_less s.entries (length rows) (row - 1) (omega arith) no_entry b.beyond in
      let room : eqb (filled s.entries) s.cells ≡ false
      = ne_eqb (filled s.entries) s.cells (λ z. omega (arith, less, b.fits)) in
      rw (inside, none, room) refl

  kept_here : kept_at with_entry (row - 1) ≡ new_state
  kept_here =
      let l : row - 1 < length s.states = omega (arith, b.long, b.few) in
      get_or-set_same s.states (row - 1) new_state unasked l

  kept_else : (j : ℕ) → j ≢ row - 1 → kept_at with_entry j ≡ kept_at s j
  kept_else j ne = get_or-set_other s.states (row - 1) j new_state unasked ne

  slot_here : slot_at with_entry (row - 1) ≡ new_slot
  slot_here =
      let l : row - 1 < length s.entries = omega (arith, b.wide, b.few) in
      get_or-set_same s.entries (row - 1) new_slot None l

  slot_else : (j : ℕ) → j ≢ row - 1 → slot_at with_entry j ≡ slot_at s j
  slot_else j ne = get_or-set_other s.entries (row - 1) j new_slot None ne

  matched : (j : ℕ) → is_some (slot_at with_entry j) ≡ is_some (kept_at with_entry j).job
  matched j = at (cases_eq j (row - 1))
    where
      at :
          (j ≡ row - 1) ⊎ (j ≡ row - 1 → ⊥) → is_some (slot_at with_entry j) ≡ is_some (kept_at with_entry j).job
      at (inl p) =
          rw p (ap is_some slot_here ∙ sym (ap (λ (k : RowState). is_some k.job) kept_here))
      at (inr ne) =
          ap is_some (slot_else j ne) ∙ b.matched j ∙
          sym (ap (λ (k : RowState). is_some k.job) (kept_else j ne))

  lasts : (j : ℕ) → LastIs (asked (row - 1) h) j (kept_at with_entry j).last
  lasts j = at (cases_eq j (row - 1))
    where
      here : LastIs (asked (row - 1) h) (row - 1) (Some s.clock)
      here =
          let now = b.invariant.linked.clock in (
            ap ((asked (row - 1) h).asks (row - 1)) now ∙ asked_now (row - 1) h,
            last_now (row - 1) h ∙ sym now,
          )

      else_kept : j ≢ row - 1 → (o : Option ℕ) → LastIs h j o → LastIs (asked (row - 1) h) j o
      else_kept ne None none = λ a e. at_request a (asked_cases (row - 1) h j a e)
        where
          at_request : (a : ℕ) → ((j ≡ row - 1) × (a ≡ h.clock)) ⊎ (h.asks j a ≡ true) → ⊥
          at_request a (inl new) = ne new.0
          at_request a (inr old) = none a old
      else_kept ne (Some last) is =
          (asked_more (row - 1) h j last is.0, last_else (row - 1) h j ne ∙ is.1)

      at : (j ≡ row - 1) ⊎ (j ≡ row - 1 → ⊥) → LastIs (asked (row - 1) h) j (kept_at with_entry j).last
      at (inl p) =
          rw p (subst (λ (k : RowState). LastIs (asked (row - 1) h) (row - 1) k.last) (sym kept_here) here)
      at (inr ne) =
          subst (λ (k : RowState). LastIs (asked (row - 1) h) j k.last) (sym (kept_else j ne))
          (else_kept ne (kept_at s j).last (b.lasts j))

  request_between : Between rows (asked (row - 1) h) with_entry
  request_between =
      record {
        sound = b.sound;
        few = b.few;
        fits = b.fits;
        table = b.table;
        tick = b.tick;
        wide = length-set s.entries (row - 1) new_slot ∙ b.wide;
        long = length-set s.states (row - 1) new_state ∙ b.long;
        matched = matched;
        beyond = λ j l. slot_else j (λ e. omega arith) ∙ b.beyond j l;
        lasts = lasts;
        invariant =
            invariants.released rows (row - 1) h (view rows s) (view rows with_entry) b.sound
            (record {
              within = omega arith;
              free = ap (λ o. joined o (slot_at s (row - 1))) free;
              lawful = lawful;
              clock = refl;
              task = ap₂ (λ (k : RowState) o. joined k.job o) kept_here slot_here;
              next = ap (λ (k : RowState). next_of (row_at rows (row - 1)).period k.last) kept_here;
              task_else = λ j l ne. ap₂ (λ (k : RowState) o. joined k.job o) (kept_else j ne) (slot_else j ne);
              next_else = λ j l ne. ap (λ (k : RowState). next_of (row_at rows j).period k.last) (kept_else j ne);
            })
            b.invariant;
      }

  pub released_between : Between rows (asked (row - 1) h) (released s row (row_at rows (row - 1)))
  released_between = rw put request_between
