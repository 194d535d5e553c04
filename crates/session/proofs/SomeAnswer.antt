-- Every file has an answer: its lines are taken one after another until one is wrong or nothing is left.
use Rattle.std.proofs.Common.{◌≡◌, ℕ, zero, suc, ◌+◌, ◌<◌, ◌≤◌, true, false, ◌≢◌, ◌⊎◌, List, [], ◌∷◌, ◌++◌, length, Some, None, codes, Option, sym, refl, ap, ◌∙◌, subst, ap₂, inl, inr, arith}
use Rattle.feasibility.specs.Drafts.{Taken, Refused}
use Rattle.feasibility.specs.Refusals.{refusal_number}
use Rattle.feasibility.specs.declared.row.Row.{Row}
use Rattle.feasibility.specs.declared.row.RowRefusal.{RowRefusal}
use Rattle.session.proofs.Scanning.{in_line}
use Rattle.session.proofs.Shapes.{no_first, no_later, numbers_count, same_line}
use Rattle.session.proofs.Taking.{taken_or_refused}
use Rattle.session.proofs.Wrong.{row_more}
use Rattle.session.specs.Laws.{Answer, Answers}
use Rattle.session.specs.Laws.Answer.{session, faulty}
use Rattle.session.specs.Limits.{max_arrivals, max_bytes, max_ticks}
use Rattle.session.specs.LineKinds.{AreNumbers, LineOf, Misshapen, NoNumbers, WrongLine}
use Rattle.session.specs.Lines.{next_line}
use Rattle.session.specs.Numbers.{number_in}
use Rattle.session.specs.Sections.{
  row_of,
  arrival_of,
  outside,
  RowLine,
  WrongRow,
  RowsRead,
  RowFault,
  LimitedHeading,
  WrongHeading,
  ArrivalLine,
  WrongArrival,
  ArrivalsRead,
  ArrivalFault,
}
use Rattle.session.specs.Sections.ArrivalsRead.{none_yet as no_arrival, one_more as one_arrival_more}
use Rattle.session.specs.Sections.RowsRead.{none as no_row, more as one_row_more}
use Rattle.session.specs.Sessions.{BeginsWithRows, BeginsWithTicks, BeginsWithArrivals, FirstWrong}
use Rattle.session.specs.Sessions.FirstWrong.{heading, row, ticks, arrivals, arrival, more}
use Rattle.session.specs.declared.arrival.Arrival.{Arrival}
use Rattle.session.specs.declared.fault.Fault.TheVariants.{TooLong, InLine}
use Rattle.session.specs.declared.fault.LineFault.{LineFault}
use Rattle.session.specs.declared.fault.LineFault.TheVariants.{Shape, Field, Row as InRow, Limit}
use Rattle.session.specs.declared.field.FieldFault.{FieldFault}
use Rattle.session.specs.declared.field.FieldFault.TheVariants.{NotANumber}
use Rattle.std.proofs.lemmas.List.{length_push}
use Rattle.std.proofs.lemmas.Bool.{cases_Bool, cases_eq, cases_lt}

-- whether a field is a word
same_bytes : (xs ys : List ℕ) → (xs ≡ ys) ⊎ (xs ≢ ys)
same_bytes [] [] = inl refl
same_bytes [] (y ∷ ys) = inr (λ e. let z : ◌≡◌ {A = ℕ} 0 1 = cc in omega arith)
same_bytes (x ∷ xs) [] = inr (λ e. let z : ◌≡◌ {A = ℕ} 0 1 = cc in omega arith)
same_bytes (x ∷ xs) (y ∷ ys) = by (cases_eq x y) (same_bytes xs ys)
  where
    by : (x ≡ y) ⊎ (x ≢ y) → (xs ≡ ys) ⊎ (xs ≢ ys) → (x ∷ xs ≡ y ∷ ys) ⊎ (x ∷ xs ≢ y ∷ ys)
    by (inl e) (inl f) = inl (ap₂ ◌∷◌ e f)
    by (inr ne) _ = inr (λ e. ne (cc))
    by (inl _) (inr ne) = inr (λ e. ne (cc))

-- whether a line begins with some words
Begins : List (List ℕ) → List (List ℕ) → Type 0
Begins words fs =
    ((fields : List (List ℕ)) × (fs ≡ words ++ fields)) ⊎ ((fields : List (List ℕ)) → fs ≢ words ++ fields)

begins : (words fs : List (List ℕ)) → Begins words fs
unfolding Begins
begins [] fs = inl (fs, refl)
begins (w ∷ ws) [] = inr (λ fields e. let z : ◌≡◌ {A = ℕ} 0 1 = cc in omega arith)
begins (w ∷ ws) (f ∷ fs) = by (same_bytes f w) (begins ws fs)
  where
    by : (f ≡ w) ⊎ (f ≢ w) → Begins ws fs → Begins (w ∷ ws) (f ∷ fs)
    by (inl e) (inl x) = inl (x.0, ap₂ ◌∷◌ e x.1)
    by (inr ne) _ = inr (λ fields e. ne (cc))
    by (inl _) (inr ne) = inr (λ fields e. ne fields (cc))

-- whether fields are numbers
Numbers : List (List ℕ) → Type 0
Numbers fs = ((ns : List ℕ) × AreNumbers fs ns) ⊎ ((ns : List ℕ) → AreNumbers fs ns → ⊥)

numbers : (fs : List (List ℕ)) → Numbers fs
unfolding Numbers
numbers [] = inl ([], tt)
numbers (f ∷ fs) = by (number_in f) refl (numbers fs)
  where
    by : (o : Option ℕ) → number_in f ≡ o → Numbers fs → Numbers (f ∷ fs)
    by None e _ = inr (no_first f fs e)
    by (Some n) e (inl x) = inl (n ∷ x.0, (e, x.1))
    by (Some n) e (inr none) = inr (no_later f fs none)

-- a line where some words and then n numbers belong
ReadLine : List (List ℕ) → ℕ → List ℕ → Type 0
ReadLine words n bs =
    ((ns : List ℕ) × (rest : List ℕ) × LineOf words bs ns rest × (length ns ≡ n)) ⊎
    ((e : LineFault) × WrongLine words n bs e)

module _ (words : List (List ℕ)) (n : ℕ) (bs : List ℕ) where
  module _ (fields : List (List ℕ)) (rest : List ℕ) (line : next_line bs ≡ Some (words ++ fields, rest)) where
    by_fields : (length fields ≡ n) ⊎ (length fields ≢ n) → Numbers fields → ReadLine words n bs
    unfolding ReadLine Numbers
    by_fields (inr ne) _ =
        inr (Shape, λ fields' rest' line'. subst (λ fs. length fs ≢ n) (same_line words fields fields' bs rest rest' line line').0 ne)
    by_fields (inl count) (inr none) =
        inr (Field NotANumber, record { fields = fields; rest = rest; line = line; count = count; not_all = none })
    by_fields (inl count) (inl x) = inl (
      x.0,
      rest,
      record { fields = fields; line = line; numbers = x.1 },
      sym (numbers_count fields x.0 x.1) ∙ count,
    )

  by_words : (fs : List (List ℕ)) (rest : List ℕ) → next_line bs ≡ Some (fs, rest) → Begins words fs → ReadLine words n bs
  unfolding Begins ReadLine
  by_words fs rest line (inl x) =
      by_fields x.0 rest (line ∙ ap (λ f. in_line f rest) x.1) (cases_eq (length x.0) n)
      (numbers x.0)
  by_words fs rest line (inr other) = inr (Shape, λ fields rest' line' _. other fields (same_line [] fs (words ++ fields) bs rest rest' line line').0)

  read_line : ReadLine words n bs
  unfolding ReadLine
  read_line = by (next_line bs) refl
    where
      by : (o : Option (List (List ℕ) × List ℕ)) → next_line bs ≡ o → ReadLine words n bs
      by None e = inr (Shape, λ fields rest line _. let z : ◌≡◌ {A = ℕ} 0 1 = cc in omega arith)
      by (Some p) e = by_words p.0 p.1 e (begins words p.0)

-- a kind of such a line, with faults of its own: its numbers decide
by_line :
    {A : Type 0} (words : List (List ℕ)) (n : ℕ) (bs : List ℕ) (Wrong : LineFault → Type 0) →
    (Misshapen words n bs → Wrong Shape) → ((e : FieldFault) → NoNumbers words n bs → Wrong (Field e)) →
    ((ns rest : List ℕ) → LineOf words bs ns rest → length ns ≡ n → A ⊎ ((e : LineFault) × Wrong e)) →
    A ⊎ ((e : LineFault) × Wrong e)
unfolding ReadLine
by_line {A} words n bs Wrong shape field right = by (read_line words n bs)
  where
    wrong : (e : LineFault) → WrongLine words n bs e → Wrong e
    wrong Shape w = shape w
    wrong (Field e) w = field e w
    wrong (InRow e) w = absurd w
    wrong Limit w = absurd w

    by : ReadLine words n bs → A ⊎ ((e : LineFault) × Wrong e)
    by (inl x) = right x.0 x.1 x.2 x.3
    by (inr w) = inr (w.0, wrong w.0 w.1)

-- the next row of a table of these rows
ReadRow : List Row → List ℕ → Type 0
ReadRow rows bs =
    ((rows' : List Row) × (rest : List ℕ) × RowLine rows bs rows' rest) ⊎ ((e : LineFault) × WrongRow rows bs e)

read_row_lem : (rows : List Row) (bs : List ℕ) → ReadRow rows bs
unfolding ReadRow
read_row_lem rows bs = by_line [] 3 bs (WrongRow rows bs) (λ w. w) (λ e w. w) right
  where
    right : (ns rest : List ℕ) → LineOf [] bs ns rest → length ns ≡ 3 → ReadRow rows bs
    right [] rest l count = absurd (omega arith)
    right (c ∷ []) rest l count = absurd (omega arith)
    right (c ∷ p ∷ []) rest l count = absurd (omega arith)
    right (c ∷ p ∷ s ∷ n ∷ ns) rest l count = absurd (omega arith)
    right (c ∷ p ∷ s ∷ []) rest l count = at (taken_or_refused rows (row_of c p s))
      where
        at :
            ((h : ℕ) × Taken rows (row_of c p s) (rows ++ row_of c p s ∷ []) h) ⊎
            ((e : RowRefusal) × Refused rows (row_of c p s) (refusal_number e)) →
            ReadRow rows bs
        at (inl t) = inl (
          rows ++ row_of c p s ∷ [],
          rest,
          record { cost = c; period = p; store = s; hyperperiod = t.0; line = l; taken = t.1 },
        )
        at (inr r) =
            inr (InRow r.0, record { cost = c; period = p; store = s; rest = rest; line = l; refused = r.1 })

-- the rows from here on, where k more belong
ReadRows : ℕ → List ℕ → Type 0
ReadRows n bs =
    ((rows : List Row) × (rest : List ℕ) × RowsRead bs rows rest × (length rows ≡ n)) ⊎
    ((e : LineFault) × (line : ℕ) × RowFault n bs e line)

read_rows_lem :
    (n : ℕ) (bs : List ℕ) (k : ℕ) (rows : List Row) (rest : List ℕ) → RowsRead bs rows rest → length rows + k ≡ n →
    ReadRows n bs
unfolding ReadRows ReadRow
read_rows_lem n bs zero rows rest read all = inl (rows, rest, read, omega arith)
read_rows_lem n bs (suc k) rows rest read some = by (read_row_lem rows rest) (read_rows_lem n bs k)
  where
    by :
        ReadRow rows rest →
        ((rows : List Row) (rest : List ℕ) → RowsRead bs rows rest → length rows + k ≡ n → ReadRows n bs) →
        ReadRows n bs
    by (inl x) next = next x.0 x.1 (one_row_more read x.2) (omega (arith, row_more x.2))
    by (inr w) _ = inr (
      w.0,
      length rows + 2,
      record { rows = rows; rest = rest; read = read; fewer = omega arith; wrong = w.1; line_is = refl },
    )

-- a heading with a limit
ReadHeading : List ℕ → ℕ → List ℕ → Type 0
ReadHeading word max bs =
    ((n : ℕ) × (rest : List ℕ) × LimitedHeading word max bs n rest) ⊎ ((e : LineFault) × WrongHeading word max bs e)

read_heading : (word : List ℕ) (max : ℕ) (bs : List ℕ) → ReadHeading word max bs
unfolding ReadHeading
read_heading word max bs = by_line (word ∷ []) 1 bs (WrongHeading word max bs) (λ w. w) (λ e w. w) right
  where
    right : (ns rest : List ℕ) → LineOf (word ∷ []) bs ns rest → length ns ≡ 1 → ReadHeading word max bs
    right [] rest l count = absurd (omega arith)
    right (n ∷ m ∷ ns) rest l count = absurd (omega arith)
    right (n ∷ []) rest l count = at (cases_lt max n)
      where
        at : (max < n) ⊎ (n ≤ max) → ReadHeading word max bs
        at (inl past) = inr (Limit, record { number = n; rest = rest; line = l; past = past })
        at (inr within) = inl (n, rest, record { line = l; within = within })

-- the next arrival at a table of so many rows
ReadArrival : ℕ → List ℕ → Type 0
ReadArrival rows bs =
    ((time : ℕ) × (j : ℕ) × (rest : List ℕ) × ArrivalLine rows bs time j rest) ⊎
    ((e : LineFault) × WrongArrival rows bs e)

read_arrival_lem : (rows : ℕ) (bs : List ℕ) → ReadArrival rows bs
unfolding ReadArrival
read_arrival_lem rows bs = by_line [] 2 bs (WrongArrival rows bs) (λ w. w) (λ e w. w) right
  where
    right : (ns rest : List ℕ) → LineOf [] bs ns rest → length ns ≡ 2 → ReadArrival rows bs
    right [] rest l count = absurd (omega arith)
    right (t ∷ []) rest l count = absurd (omega arith)
    right (t ∷ j ∷ n ∷ ns) rest l count = absurd (omega arith)
    right (t ∷ j ∷ []) rest l count = at (cases_Bool (outside rows t j))
      where
        at : (outside rows t j ≡ true) ⊎ (outside rows t j ≡ false) → ReadArrival rows bs
        at (inl past) = inr (Limit, record { time = t; row = j; rest = rest; line = l; past = past })
        at (inr inside) = inl (t, j, rest, record { line = l; inside = inside })

-- the arrivals from here on, where k more belong
ReadArrivals : ℕ → ℕ → ℕ → List ℕ → Type 0
ReadArrivals rows m from bs =
    ((xs : List Arrival) × (rest : List ℕ) × ArrivalsRead rows bs xs rest × (length xs ≡ m)) ⊎
    ((e : LineFault) × (line : ℕ) × ArrivalFault rows m from bs e line)

read_arrivals_lem :
    (rows m from : ℕ) (bs : List ℕ) (k : ℕ) (xs : List Arrival) (rest : List ℕ) → ArrivalsRead rows bs xs rest →
    length xs + k ≡ m → ReadArrivals rows m from bs
unfolding ReadArrivals ReadArrival
read_arrivals_lem rows m from bs zero xs rest read all = inl (xs, rest, read, omega arith)
read_arrivals_lem rows m from bs (suc k) xs rest read some = by (read_arrival_lem rows rest) (read_arrivals_lem rows m from bs k)
  where
    by :
        ReadArrival rows rest →
        ((xs : List Arrival) (rest : List ℕ) → ArrivalsRead rows bs xs rest → length xs + k ≡ m →
        ReadArrivals rows m from bs) →
        ReadArrivals rows m from bs
    by (inl x) next =
        next (xs ++ arrival_of x.0 x.1 ∷ []) x.2 (one_arrival_more x.0 x.1 read x.3)
        (omega (arith, length_push xs (arrival_of x.0 x.1)))
    by (inr w) _ = inr (
      w.0,
      from + length xs,
      record { arrivals = xs; rest = rest; read = read; fewer = omega arith; wrong = w.1; line_is = refl },
    )

-- a file that is not too long, from its last section back to its first
module _ (bs : List ℕ) (short : length bs ≤ max_bytes) where
  Found : Type 0
  Found = (a : Answer) × Answers bs a

  wrong : {e : LineFault} {line : ℕ} → FirstWrong bs e line → Found
  unfolding Found
  wrong {e} {line} w = (faulty (InLine (record { fault = e; line = line })), (short, w))

  at_arrivals : (rows : List Row) (t m : ℕ) (rest : List ℕ) → BeginsWithArrivals bs rows t m rest → Found
  unfolding Found ReadArrivals
  at_arrivals rows t m rest b = by (read_arrivals_lem (length rows) m (length rows + 4) rest m [] rest no_arrival (omega arith))
    where
      last :
          (xs : List Arrival) (after : List ℕ) → ArrivalsRead (length rows) rest xs after →
          BeginsWithArrivals bs rows t (length xs) rest → Found
      last xs [] read b = (session rows t xs, record { short = short; after = rest; begins = b; read = read })
      last xs (c ∷ cs) read b = wrong (more b read (λ e. let z : ◌≡◌ {A = ℕ} 0 1 = cc in omega arith))

      by : ReadArrivals (length rows) m (length rows + 4) rest → Found
      by (inl x) = last x.0 x.1 x.2 (subst (λ k. BeginsWithArrivals bs rows t k rest) (sym x.3) b)
      by (inr w) = wrong (arrival b w.2)

  at_ticks : (rows : List Row) (t : ℕ) (rest : List ℕ) → BeginsWithTicks bs rows t rest → Found
  unfolding Found ReadHeading
  at_ticks rows t rest b = by (read_heading (codes "arrivals") max_arrivals rest)
    where
      by : ReadHeading (codes "arrivals") max_arrivals rest → Found
      by (inl x) = at_arrivals rows t x.0 x.1 (record { after = rest; begins = b; heading = x.2 })
      by (inr w) = wrong (arrivals b w.1)

  at_rows : (rows : List Row) (rest : List ℕ) → BeginsWithRows bs rows rest → Found
  unfolding Found ReadHeading
  at_rows rows rest b = by (read_heading (codes "ticks") max_ticks rest)
    where
      by : ReadHeading (codes "ticks") max_ticks rest → Found
      by (inl x) = at_ticks rows x.0 x.1 (record { after = rest; begins = b; heading = x.2 })
      by (inr w) = wrong (ticks b w.1)

  at_start : Found
  unfolding Found ReadLine ReadRows
  at_start = by (read_line (codes "rows" ∷ []) 1 bs)
    where
      right : (ns rest : List ℕ) → LineOf (codes "rows" ∷ []) bs ns rest → length ns ≡ 1 → Found
      right [] rest l count = absurd (omega arith)
      right (n ∷ m ∷ ns) rest l count = absurd (omega arith)
      right (n ∷ []) rest l count = at (read_rows_lem n rest n [] rest no_row (omega arith))
        where
          at : ReadRows n rest → Found
          at (inl x) =
              at_rows x.0 x.1
              (record {
                after = rest;
                heading = subst (λ k. LineOf (codes "rows" ∷ []) bs (k ∷ []) rest) (sym x.3) l;
                read = x.2;
              })
          at (inr w) = wrong (row l w.2)

      by : ReadLine (codes "rows" ∷ []) 1 bs → Found
      by (inl x) = right x.0 x.1 x.2 x.3
      by (inr w) = wrong (heading w.1)

pub answered : (bs : List ℕ) → (a : Answer) × Answers bs a
unfolding Found
answered bs = by (cases_lt max_bytes (length bs))
  where
    by : (max_bytes < length bs) ⊎ (length bs ≤ max_bytes) → (a : Answer) × Answers bs a
    by (inl long) = (faulty TooLong, long)
    by (inr short) = at_start bs short
