-- The first of the entries at the places below i, as the search for it goes on.
use Rattle.std.proofs.Common.{◌≡◌, ℕ, suc, ◌+◌, ◌-◌, ◌<◌, ◌≤◌, true, false, [], ◌∷◌, length, get_or, drop, Some, None, Option, option_map, fold, zero-add, sym, subst, ap, ◌∙◌, refl, inl, inr, arith, MatchOption}
use Rattle.ready.specs.Entries.{Entries, slot, entry, held, filled, IsFirst}
use Rattle.ready.specs.Order.{before, sooner}
use Rattle.ready.specs.Places.{earliest}
use Rattle.ready.specs.declared.entry.Entry.{Entry}
use Rattle.ready.specs.declared.entry.Slot.{Slot}
use Rattle.std.proofs.lemmas.Bool.Decides.{nat_tests}
use Rattle.std.proofs.lemmas.Bool.{cases_eq, cond_both}
use Rattle.std.specs.List.{enumerate_from, filter_map}

record Leads (m : Entries) (i : ℕ) (e : Entry) : Type 0 where
  pub low : 1 ≤ e.row
  pub high : e.row ≤ i
  pub is : held m e.row ≡ Some (slot e.deadline e.begun)
  pub least : (k : ℕ) (x : Slot) → k < i → get_or m k None ≡ Some x → before (entry (k + 1) x) e ≡ false

abbrev FirstBelow : Entries → ℕ → Option Entry → Type 0
FirstBelow m i r = MatchOption r ((k : ℕ) → k < i → get_or m k None ≡ None) (Leads m i)

irreflexive : (x : Entry) → before x x ≡ false
irreflexive x = grind (arith, nat_tests)

-- what does not come before z does not come before what comes before z
through : (x y z : Entry) → before x z ≡ false → before y z ≡ true → before x y ≡ false
through x y z p q = grind (arith, nat_tests)

none_filled : (m : Entries) → ((k : ℕ) → k < length m → get_or m k None ≡ None) → filled m ≡ 0
none_filled [] f = refl
none_filled (None ∷ m) f = none_filled m (λ k h. f (suc k) (omega arith))
none_filled (Some x ∷ m) f = cc (f 0 (omega arith))

module _ (m : Entries) (i : ℕ) where
  -- nothing at i
  still : (best : Option Entry) → FirstBelow m i best → get_or m i None ≡ None → FirstBelow m (i + 1) best
  still None f e = λ k h. elim (cases_eq k i) [ inl p ↦ rw p e | inr n ↦ f k (omega arith) ]
  still (Some b) f e =
      record {
        low = f.low;
        high = omega (arith, f.high);
        is = f.is;
        least = λ k x h at. elim (cases_eq k i) [ inl p ↦ cc | inr n ↦ f.least k x (omega arith) at ];
      }

  alone :
      (x : Slot) → get_or m i None ≡ Some x →
      ((k : ℕ) (y : Slot) → k < i → get_or m k None ≡ Some y → before (entry (k + 1) y) (entry (i + 1) x) ≡ false) →
      Leads m (i + 1) (entry (i + 1) x)
  alone x e f =
      record {
        low = omega arith;
        high = omega arith;
        is = let z : i + 1 - 1 ≡ i = omega arith in rw z e;
        least =
            λ k y h at. elim (cases_eq k i) [
              | inl p ↦ let q : y ≡ x = cc in rw (p, q) (irreflexive (entry (i + 1) x))
              | inr n ↦ f k y (omega arith) at
            ];
      }

  -- x at i
  onward :
      (best : Option Entry) (x : Slot) → FirstBelow m i best → get_or m i None ≡ Some x →
      FirstBelow m (i + 1) (sooner best (entry (i + 1) x))
  onward None x f e = alone x e (λ k y h at. let z = f k h in cc)
  onward (Some b) x f e =
      cond_both (before (entry (i + 1) x) b) (Some (entry (i + 1) x)) (Some b) (FirstBelow m (i + 1))
      (λ t. alone x e
      (λ k y h at. through (entry (k + 1) y) (entry (i + 1) x) b (f.least k y h at) t))
      (λ t. record {
        low = f.low;
        high = omega (arith, f.high);
        is = f.is;
        least =
            λ k y h at. elim (cases_eq k i) [
              | inl p ↦ let q : y ≡ x = cc in rw (p, q) t
              | inr n ↦ f.least k y (omega arith) at
            ];
      })

ends : (m : Entries) (best : Option Entry) → length m ≡ 32 → FirstBelow m 32 best → IsFirst m best
ends m None long f = none_filled m (λ k h. f k (omega arith))
ends m (Some b) long f =
    record {
      low = f.low;
      high = f.high;
      is = f.is;
      least =
          λ row x low high at. let z : row - 1 + 1 ≡ row = omega arith in rw z at (f.least (row - 1) x (omega arith) at);
    }

abbrev there : ℕ × Option Slot → Option Entry
there p = option_map (entry (p.0 + 1)) p.1

-- what the search comes to from place i on, best being the first of those below
abbrev pub search_from : Entries → ℕ → Option Entry → Option Entry
search_from m i best = fold sooner best (filter_map there (enumerate_from i (drop i m)))

-- the search among the places from i on, where those below are gone through
along :
    (m rest : Entries) (i n : ℕ) (best : Option Entry) → n ≡ i + length rest →
    ((k j : ℕ) → j ≡ i + k → get_or m j None ≡ get_or rest k None) → FirstBelow m i best →
    FirstBelow m n (fold sooner best (filter_map there (enumerate_from i rest)))
along m [] i n best e a f = let q : i ≡ n = omega arith in subst (λ k. FirstBelow m k best) q f
along m (None ∷ rest) i n best e a f =
    along m rest (i + 1) n best (omega arith) (λ k j p. a (suc k) j (omega arith))
    (still m i best f (a 0 i (omega arith)))
along m (Some x ∷ rest) i n best e a f =
    along m rest (i + 1) n (sooner best (entry (i + 1) x)) (omega arith) (λ k j p. a (suc k) j (omega arith))
    (onward m i best x f (a 0 i (omega arith)))

-- what a search among all places comes to
pub earliest_first : (m : Entries) (r : Option Entry) → length m ≡ 32 → r ≡ earliest m → IsFirst m r
earliest_first m r long e =
    subst (IsFirst m) (sym e)
    (ends m _ long
    (along m m 0 32 None (omega arith) (λ k j p. ap (λ i. get_or m i None) (p ∙ zero-add k)) (λ k h. absurd (omega arith))))
