-- Of a file exactly one answer is right. That there is no second: its lines are taken one after another, and each leads to
-- one state or to one end.
use Rattle.std.proofs.Common.{◌≡◌, ℕ, ◌+◌, ◌<◌, ◌≤◌, true, false, ◌≢◌, ◌⊎◌, List, [], ◌∷◌, ◌++◌, length, codes, sym, refl, ap, ◌∙◌, subst, inl, inr, arith}
use Rattle.feasibility.specs.Drafts.{Taken, Refused}
use Rattle.feasibility.specs.Refusals.{refusal_number}
use Rattle.feasibility.specs.declared.row.Row.{Row}
use Rattle.feasibility.specs.declared.row.RowRefusal.{RowRefusal}
use Rattle.session.proofs.Shapes.{numbers_count, same_line, same_numbers}
use Rattle.session.proofs.SomeAnswer.{answered}
use Rattle.session.proofs.Taking.{not_both, one_cause}
use Rattle.session.proofs.Wrong.{row_more as one_row_more}
use Rattle.session.specs.Faults.{told_fault}
use Rattle.session.specs.Laws.{Answer, Answers, ExactlyOneAnswer, OneAnswer}
use Rattle.session.specs.Laws.Answer.{session, faulty}
use Rattle.session.specs.Limits.{max_arrivals, max_bytes, max_ticks}
use Rattle.session.specs.LineKinds.{AreNumbers, LineOf, Misshapen, NoNumbers, WrongLine}
use Rattle.session.specs.Sections.{
  row_of,
  arrival_of,
  outside,
  WrongRow,
  WrongHeading,
  WrongArrival,
  RowsRead,
  ArrivalsRead,
}
use Rattle.session.specs.Sections.ArrivalsRead.{none_yet as no_arrival, one_more as one_arrival_more}
use Rattle.session.specs.Sections.RowsRead.{none, more as row_more}
use Rattle.session.specs.Sessions.{BeginsWithRows, BeginsWithTicks, BeginsWithArrivals, IsSession, IsFault, FirstWrong}
use Rattle.session.specs.Sessions.FirstWrong.{heading, row, ticks, arrivals, arrival, more}
use Rattle.session.specs.declared.arrival.Arrival.{Arrival}
use Rattle.session.specs.declared.fault.Fault.{Fault}
use Rattle.session.specs.declared.fault.Fault.TheVariants.{TooLong, InLine}
use Rattle.session.specs.declared.fault.LineFault.{LineFault}
use Rattle.session.specs.declared.fault.LineFault.TheVariants.{Shape, Field, Row as InRow, Limit}
use Rattle.session.specs.declared.field.FieldFault.{FieldFault}
use Rattle.session.specs.declared.field.FieldFault.TheVariants.{NotANumber}
use Rattle.std.proofs.lemmas.List.{length_push}
use Rattle.std.proofs.lemmas.Bool.{both_ways, cases_lt}

module _ {words : List (List ℕ)} {n : ℕ} {bs ns rest : List ℕ} where
  shaped : Misshapen words n bs → LineOf words bs ns rest → length ns ≡ n → ⊥
  shaped bad l count = bad l.fields rest l.line (numbers_count l.fields ns l.numbers ∙ count)

  all_read : NoNumbers words n bs → LineOf words bs ns rest → ⊥
  all_read bad l =
      let same = same_line words l.fields bad.fields bs rest bad.rest l.line bad.line in
      bad.not_all ns (subst (λ fs. AreNumbers fs ns) same.0 l.numbers)

-- where the reading of a file stands, and where a line takes it
data State : Type 0 where
  start : List ℕ → State
  in_rows : ℕ → List Row → List ℕ → State
  past_ticks : List Row → ℕ → List ℕ → State
  in_arrivals : List Row → ℕ → ℕ → List Arrival → List ℕ → State

data Turn : Type 0 where
  go : State → Turn
  stop : Answer → Turn

abbrev wrong : LineFault → ℕ → Answer
wrong e line = faulty (InLine (record { fault = e; line = line }))

-- a turn by a line: by its fault, or by its numbers
data ByLine (words : List (List ℕ)) (n : ℕ) (bs : List ℕ) (line : ℕ) (K : List ℕ → List ℕ → Turn → Type 0) :
    Turn → Type 0 where
  misshapen : Misshapen words n bs → ByLine words n bs line K (stop (wrong Shape line))
  no_numbers : {e : FieldFault} → NoNumbers words n bs → ByLine words n bs line K (stop (wrong (Field e) line))
  by_numbers :
      {ns rest : List ℕ} {r : Turn} → LineOf words bs ns rest → length ns ≡ n → K ns rest r →
      ByLine words n bs line K r

one_reason : (e e' : FieldFault) → e ≡ e'
one_reason NotANumber NotANumber = refl

-- two turns by the same numbers are the same
abbrev One : (List ℕ → List ℕ → Turn → Type 0) → Type 0
One K = (ns rest : List ℕ) (r r' : Turn) → K ns rest r → K ns rest r' → r ≡ r'

module _
    {words : List (List ℕ)} {n : ℕ} {bs : List ℕ} {line : ℕ} {K : List ℕ → List ℕ → Turn → Type 0} where
  by_fault : (e : LineFault) → WrongLine words n bs e → ByLine words n bs line K (stop (wrong e line))
  by_fault Shape w = misshapen w
  by_fault (Field e) w = no_numbers w
  by_fault (InRow e) w = absurd w
  by_fault Limit w = absurd w

  one_by_line : One K → {r r' : Turn} → ByLine words n bs line K r → ByLine words n bs line K r' → r ≡ r'
  one_by_line one (misshapen a) (misshapen b) = refl
  one_by_line one (misshapen a) (no_numbers b) = absurd (a b.fields b.rest b.line b.count)
  one_by_line one (misshapen a) (by_numbers l count _) = absurd (shaped a l count)
  one_by_line one (no_numbers a) (misshapen b) = absurd (b a.fields a.rest a.line a.count)
  one_by_line one (no_numbers {e} a) (no_numbers {e = e'} b) = ap (λ f. stop (wrong (Field f) line)) (one_reason e e')
  one_by_line one (no_numbers a) (by_numbers l _ _) = absurd (all_read a l)
  one_by_line one (by_numbers l count _) (misshapen b) = absurd (shaped b l count)
  one_by_line one (by_numbers l _ _) (no_numbers b) = absurd (all_read b l)
  one_by_line one {r} {r'} (by_numbers {ns} {rest} l _ k) (by_numbers {ns = ns'} {rest = rest'} l' _ k') =
      let same = same_line words l'.fields l.fields bs rest' rest l'.line l.line in
      let again = subst (λ fs. AreNumbers fs ns') same.0 l'.numbers in
      let k'' = subst (λ xs. K xs rest' r') (same_numbers l.fields ns' ns again l.numbers) k' in
      one ns rest r r' k (subst (λ xs. K ns xs r') same.1 k'')

-- the turns by the numbers of each kind of line
data FirstTurn : List ℕ → List ℕ → Turn → Type 0 where
  begun : {n : ℕ} {rest : List ℕ} → FirstTurn (n ∷ []) rest (go (in_rows n [] rest))

one_first : One FirstTurn
one_first _ _ _ _ begun begun = refl

data RowTurn (n : ℕ) (rows : List Row) : List ℕ → List ℕ → Turn → Type 0 where
  took :
      {c p s h : ℕ} {rows' : List Row} {rest : List ℕ} → Taken rows (row_of c p s) rows' h →
      RowTurn n rows (c ∷ p ∷ s ∷ []) rest (go (in_rows n rows' rest))
  refused :
      {c p s : ℕ} {rest : List ℕ} (e : RowRefusal) → Refused rows (row_of c p s) (refusal_number e) →
      RowTurn n rows (c ∷ p ∷ s ∷ []) rest (stop (wrong (InRow e) (length rows + 2)))

one_row : {n : ℕ} {rows : List Row} → One (RowTurn n rows)
one_row {n} _ rest _ _ (took a) (took b) = ap (λ rs. go (in_rows n rs rest)) (a.after ∙ sym b.after)
one_row _ _ _ _ (took a) (refused e b) = absurd (not_both a b)
one_row _ _ _ _ (refused e a) (took b) = absurd (not_both b a)
one_row {rows = rows} _ _ _ _ (refused e a) (refused e' b) =
    ap (λ k. stop (wrong (InRow k) (length rows + 2))) (one_cause e e' a b)

data LimitedTurn (max line : ℕ) (next : ℕ → List ℕ → State) : List ℕ → List ℕ → Turn → Type 0 where
  within : {n : ℕ} {rest : List ℕ} → n ≤ max → LimitedTurn max line next (n ∷ []) rest (go (next n rest))
  past : {n : ℕ} {rest : List ℕ} → max < n → LimitedTurn max line next (n ∷ []) rest (stop (wrong Limit line))

one_limited : {max line : ℕ} {next : ℕ → List ℕ → State} → One (LimitedTurn max line next)
one_limited _ _ _ _ (within a) (within b) = refl
one_limited _ _ _ _ (within a) (past b) = absurd (omega arith)
one_limited _ _ _ _ (past a) (within b) = absurd (omega arith)
one_limited _ _ _ _ (past a) (past b) = refl

data ArrivalTurn (rows : List Row) (t m : ℕ) (xs : List Arrival) : List ℕ → List ℕ → Turn → Type 0 where
  came :
      {time j : ℕ} {rest : List ℕ} → outside (length rows) time j ≡ false →
      ArrivalTurn rows t m xs (time ∷ j ∷ []) rest (go (in_arrivals rows t m (xs ++ arrival_of time j ∷ []) rest))
  kept_out :
      {time j : ℕ} {rest : List ℕ} → outside (length rows) time j ≡ true →
      ArrivalTurn rows t m xs (time ∷ j ∷ []) rest (stop (wrong Limit (length rows + 4 + length xs)))

one_arrival : {rows : List Row} {t m : ℕ} {xs : List Arrival} → One (ArrivalTurn rows t m xs)
one_arrival _ _ _ _ (came a) (came b) = refl
one_arrival _ _ _ _ (came a) (kept_out b) = absurd (both_ways _ a b)
one_arrival _ _ _ _ (kept_out a) (came b) = absurd (both_ways _ b a)
one_arrival _ _ _ _ (kept_out a) (kept_out b) = refl

-- the turns from each state, and the end to which they lead
data Next : State → Turn → Type 0 where
  at_start : {bs : List ℕ} {r : Turn} → ByLine (codes "rows" ∷ []) 1 bs 1 FirstTurn r → Next (start bs) r
  at_row :
      {n : ℕ} {rows : List Row} {bs : List ℕ} {r : Turn} → length rows < n →
      ByLine [] 3 bs (length rows + 2) (RowTurn n rows) r → Next (in_rows n rows bs) r
  at_ticks :
      {n : ℕ} {rows : List Row} {bs : List ℕ} {r : Turn} → length rows ≡ n →
      ByLine (codes "ticks" ∷ []) 1 bs (length rows + 2)
      (LimitedTurn max_ticks (length rows + 2) (past_ticks rows)) r →
      Next (in_rows n rows bs) r
  at_arrivals :
      {rows : List Row} {t : ℕ} {bs : List ℕ} {r : Turn} →
      ByLine (codes "arrivals" ∷ []) 1 bs (length rows + 3)
      (LimitedTurn max_arrivals (length rows + 3) (λ m. in_arrivals rows t m [])) r →
      Next (past_ticks rows t bs) r
  at_arrival :
      {rows : List Row} {t m : ℕ} {xs : List Arrival} {bs : List ℕ} {r : Turn} → length xs < m →
      ByLine [] 2 bs (length rows + 4 + length xs) (ArrivalTurn rows t m xs) r → Next (in_arrivals rows t m xs bs) r
  at_end :
      {rows : List Row} {t m : ℕ} {xs : List Arrival} {bs : List ℕ} → length xs ≡ m → bs ≡ [] →
      Next (in_arrivals rows t m xs bs) (stop (session rows t xs))
  at_more :
      {rows : List Row} {t m : ℕ} {xs : List Arrival} {bs : List ℕ} → length xs ≡ m → bs ≢ [] →
      Next (in_arrivals rows t m xs bs) (stop (wrong Shape (length rows + length xs + 4)))

apart : {a b : ℕ} → a < b → a ≡ b → ⊥
apart l e = omega arith

one_next : (s : State) (r r' : Turn) → Next s r → Next s r' → r ≡ r'
one_next _ _ _ (at_start a) (at_start b) = one_by_line one_first a b
one_next _ _ _ (at_row l a) (at_row _ b) = one_by_line one_row a b
one_next _ _ _ (at_row l a) (at_ticks e b) = absurd (apart l e)
one_next _ _ _ (at_ticks e a) (at_row l b) = absurd (apart l e)
one_next _ _ _ (at_ticks e a) (at_ticks _ b) = one_by_line one_limited a b
one_next _ _ _ (at_arrivals a) (at_arrivals b) = one_by_line one_limited a b
one_next _ _ _ (at_arrival l a) (at_arrival _ b) = one_by_line one_arrival a b
one_next _ _ _ (at_arrival l a) (at_end e _) = absurd (apart l e)
one_next _ _ _ (at_arrival l a) (at_more e _) = absurd (apart l e)
one_next _ _ _ (at_end e _) (at_arrival l b) = absurd (apart l e)
one_next _ _ _ (at_end e _) (at_end _ _) = refl
one_next _ _ _ (at_end e z) (at_more _ nz) = absurd (nz z)
one_next _ _ _ (at_more e _) (at_arrival l b) = absurd (apart l e)
one_next _ _ _ (at_more e nz) (at_end _ z) = absurd (nz z)
one_next _ _ _ (at_more e _) (at_more _ _) = refl

data Ends : State → Answer → Type 0 where
  now : {s : State} {o : Answer} → Next s (stop o) → Ends s o
  later : {s s' : State} {o : Answer} → Next s (go s') → Ends s' o → Ends s o

one_end : {s : State} {o o' : Answer} → Ends s o → Ends s o' → o ≡ o'
one_end {s} {o} {o'} (now a) (now b) = let e = one_next s (stop o) (stop o') a b in cc
one_end {s} {o} {o'} (now a) (later {s' = s'} b _) = let e = one_next s (stop o) (go s') a b in cc
one_end {s} {o} {o'} (later {s' = s'} a _) (now b) = let e = one_next s (go s') (stop o') a b in cc
one_end {s} {o} {o'} (later {s' = s₁} a x) (later {s' = s₂} b y) =
    let e = one_next s (go s₁) (go s₂) a b in
    let same : s₂ ≡ s₁ = cc in
    one_end x (subst (λ s'. Ends s' o') same y)

-- what is read of a file leads from its start to where the reading stands
past_rows :
    {bs rest : List ℕ} {rows : List Row} {o : Answer} (n : ℕ) → RowsRead bs rows rest → length rows ≤ n →
    Ends (in_rows n rows rest) o → Ends (in_rows n [] bs) o
past_rows n none _ end = end
past_rows n (row_more {rows} read l) most end =
    let fewer : length rows < n = omega (arith, one_row_more l, most) in
    past_rows n read (omega arith) (later (at_row fewer (by_numbers l.line refl (took l.taken))) end)

past_some :
    {rows : List Row} {t m : ℕ} {bs rest : List ℕ} {xs : List Arrival} {o : Answer} →
    ArrivalsRead (length rows) bs xs rest → length xs ≤ m →
    Ends (in_arrivals rows t m xs rest) o → Ends (in_arrivals rows t m [] bs) o
past_some no_arrival _ end = end
past_some {rows} {t} {m} (one_arrival_more {arrivals = xs} time j read l) most end =
    let fewer : length xs < m = omega (arith, length_push xs (arrival_of time j), most) in
    past_some read (omega arith) (later (at_arrival fewer (by_numbers l.line refl (came l.inside))) end)

module _ {bs : List ℕ} {o : Answer} where
  from_rows :
      {rows : List Row} {rest : List ℕ} → BeginsWithRows bs rows rest → Ends (in_rows (length rows) rows rest) o →
      Ends (start bs) o
  from_rows {rows} b end =
      later (at_start (by_numbers b.heading refl begun)) (past_rows (length rows) b.read (omega arith) end)

  from_ticks :
      {rows : List Row} {t : ℕ} {rest : List ℕ} → BeginsWithTicks bs rows t rest → Ends (past_ticks rows t rest) o →
      Ends (start bs) o
  from_ticks b end =
      from_rows b.begins
      (later (at_ticks refl (by_numbers b.heading.line refl (within b.heading.within))) end)

  from_arrivals :
      {rows : List Row} {t m : ℕ} {rest : List ℕ} → BeginsWithArrivals bs rows t m rest →
      Ends (in_arrivals rows t m [] rest) o → Ends (start bs) o
  from_arrivals b end =
      from_ticks b.begins
      (later (at_arrivals (by_numbers b.heading.line refl (within b.heading.within))) end)

-- what is wrong with a line
wrong_row :
    {n : ℕ} {rows : List Row} {bs : List ℕ} (e : LineFault) → WrongRow rows bs e →
    ByLine [] 3 bs (length rows + 2) (RowTurn n rows) (stop (wrong e (length rows + 2)))
wrong_row Shape w = by_fault Shape w
wrong_row (Field e) w = by_fault (Field e) w
wrong_row (InRow e) w = by_numbers w.line refl (refused e w.refused)
wrong_row Limit w = absurd w

wrong_heading :
    {word : List ℕ} {max line : ℕ} {next : ℕ → List ℕ → State} {bs : List ℕ} (e : LineFault) →
    WrongHeading word max bs e →
    ByLine (word ∷ []) 1 bs line (LimitedTurn max line next) (stop (wrong e line))
wrong_heading Shape w = by_fault Shape w
wrong_heading (Field e) w = by_fault (Field e) w
wrong_heading (InRow e) w = absurd w
wrong_heading Limit w = by_numbers w.line refl (past w.past)

wrong_arrival :
    {rows : List Row} {t m : ℕ} {xs : List Arrival} {bs : List ℕ} (e : LineFault) → WrongArrival (length rows) bs e →
    ByLine [] 2 bs (length rows + 4 + length xs) (ArrivalTurn rows t m xs)
    (stop (wrong e (length rows + 4 + length xs)))
wrong_arrival Shape w = by_fault Shape w
wrong_arrival (Field e) w = by_fault (Field e) w
wrong_arrival (InRow e) w = absurd w
wrong_arrival Limit w = by_numbers w.line refl (kept_out w.past)

wrong_ends : {bs : List ℕ} {e : LineFault} {line : ℕ} → FirstWrong bs e line → Ends (start bs) (wrong e line)
wrong_ends {e = e} (heading w) = now (at_start (by_fault e w))
wrong_ends {bs} {e} {line} (row {n = n} l w) =
    subst (λ k. Ends (start bs) (wrong e k)) (sym w.line_is)
    (later (at_start (by_numbers l refl begun))
    (past_rows n w.read (omega (arith, w.fewer)) (now (at_row w.fewer (wrong_row e w.wrong)))))
wrong_ends {e = e} (ticks b w) = from_rows b (now (at_ticks refl (wrong_heading e w)))
wrong_ends {e = e} (arrivals b w) = from_ticks b (now (at_arrivals (wrong_heading e w)))
wrong_ends {bs} {e} {line} (arrival b w) =
    subst (λ k. Ends (start bs) (wrong e k)) (sym w.line_is)
    (from_arrivals b
    (past_some w.read (omega (arith, w.fewer)) (now (at_arrival w.fewer (wrong_arrival e w.wrong)))))
wrong_ends (more b read some) = from_arrivals b (past_some read (omega arith) (now (at_more refl some)))

session_ends :
    {bs : List ℕ} {rows : List Row} {t : ℕ} {xs : List Arrival} → IsSession bs rows t xs →
    Ends (start bs) (session rows t xs)
session_ends s = from_arrivals s.begins (past_some s.read (omega arith) (now (at_end refl refl)))

-- a file that is too long has the one answer that it is; any other leads to its end
too_long : (bs : List ℕ) (a : Answer) → max_bytes < length bs → Answers bs a → a ≡ faulty TooLong
too_long bs (session rows t xs) long s = absurd (omega (arith, s.short))
too_long bs (faulty TooLong) long _ = refl
too_long bs (faulty (InLine p)) long w = absurd (omega (arith, w.0))

ends : (bs : List ℕ) (a : Answer) → length bs ≤ max_bytes → Answers bs a → Ends (start bs) a
ends bs (session rows t xs) short s = session_ends s
ends bs (faulty TooLong) short long = absurd (omega arith)
ends bs (faulty (InLine p)) short w = wrong_ends w.1

at_most_one : (bs : List ℕ) (a b : Answer) → Answers bs a → Answers bs b → a ≡ b
at_most_one bs a b x y = by (cases_lt max_bytes (length bs))
  where
    by : (max_bytes < length bs) ⊎ (length bs ≤ max_bytes) → a ≡ b
    by (inl long) = too_long bs a long x ∙ sym (too_long bs b long y)
    by (inr short) = one_end (ends bs a short x) (ends bs b short y)

pub exactly_one : ExactlyOneAnswer
exactly_one bs = let a = answered bs in (a.0, a.1, λ b right. at_most_one bs b a.0 right a.1)

-- so two sessions are the same, none is faulty, and two faults are told alike
pub one_answer : OneAnswer
one_answer bs = (two_sessions, session_or_fault, two_faults)
  where
    two_sessions :
        (rows rows' : List Row) (t t' : ℕ) (xs xs' : List Arrival) → IsSession bs rows t xs →
        IsSession bs rows' t' xs' → (rows ≡ rows') × (t ≡ t') × (xs ≡ xs')
    two_sessions rows rows' t t' xs xs' a b =
        let e = at_most_one bs (session rows t xs) (session rows' t' xs') a b in ((cc), (cc), (cc))

    session_or_fault :
        (rows : List Row) (t : ℕ) (xs : List Arrival) (f : Fault) → IsSession bs rows t xs → IsFault bs f → ⊥
    session_or_fault rows t xs f a b =
        let e = at_most_one bs (session rows t xs) (faulty f) a b in let z : ◌≡◌ {A = ℕ} 0 1 = cc in omega arith

    two_faults : (f f' : Fault) → IsFault bs f → IsFault bs f' → told_fault f ≡ told_fault f'
    two_faults f f' a b =
        let e = at_most_one bs (faulty f) (faulty f') a b in let same : f ≡ f' = cc in ap told_fault same
