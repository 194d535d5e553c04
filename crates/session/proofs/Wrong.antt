-- The sections of a file put together: where the first wrong line is, and that there is none.
use Rattle.std.proofs.Common.{◌≡◌, ℕ, ◌+◌, ◌≢◌, List, [], length, codes, Ok, Err, Result, MatchResult, sym, ap, ◌∙◌, subst, arith}
use Rattle.feasibility.specs.declared.row.Row.{Row}
use Rattle.session.specs.Limits.{max_arrivals, max_ticks}
use Rattle.session.specs.Sections.{
  row_of,
  RowLine,
  LimitedHeading,
  WrongHeading,
  ArrivalsRead,
  ArrivalFault,
}
use Rattle.session.specs.Sessions.{BeginsWithRows, BeginsWithTicks, BeginsWithArrivals, FirstWrong}
use Rattle.session.specs.Sessions.FirstWrong.{ticks, arrivals, arrival, more}
use Rattle.session.specs.declared.arrival.Arrival.{Arrival}
use Rattle.session.specs.declared.fault.LineFault.{LineFault}
use Rattle.session.specs.declared.fault.PlacedFault.{PlacedFault}
use Rattle.std.specs.Result.{IsErrAnd}
use Rattle.session.specs.declared.fault.LineFault.TheVariants.{Shape}
use Rattle.std.proofs.lemmas.List.{length_push}

-- a row line makes the table one row longer
pub row_more :
    {rows rows' : List Row} {bs rest : List ℕ} → RowLine rows bs rows' rest → length rows' ≡ length rows + 1
row_more {rows} l = ap length l.taken.after ∙ length_push rows (row_of l.cost l.period l.store)

-- a line's answer, and the same with the line's number at the fault
pub line_right :
    {T : Type 0} (P : T → Type 0) (Q : LineFault → Type 0) (R : LineFault → PlacedFault → Type 0)
    (answer : Result T LineFault) (placed : Result T PlacedFault) {x : T} → MatchResult answer P Q →
    MatchResult answer (λ x. placed ≡ Ok x) (λ e. IsErrAnd placed (R e)) → placed ≡ Ok x → P x
line_right P Q R (Ok y) (Ok z) {x = x} all same is = let e : y ≡ x = cc in subst P e all
line_right P Q R (Ok y) (Err p) all same is = cc
line_right P Q R (Err e) (Ok z) all same is = absurd same
line_right P Q R (Err e) (Err p) all same is = cc

pub line_wrong :
    {T : Type 0} (P : T → Type 0) (Q : LineFault → Type 0) (R : LineFault → PlacedFault → Type 0) (line : ℕ)
    (answer : Result T LineFault) (placed : Result T PlacedFault) {p : PlacedFault} → MatchResult answer P Q →
    MatchResult answer (λ x. placed ≡ Ok x) (λ e. IsErrAnd placed (R e)) → placed ≡ Err p →
    ((e : LineFault) (p : PlacedFault) → R e p → (p.fault ≡ e) × (p.line ≡ line)) → Q p.fault × (p.line ≡ line)
line_wrong P Q R line (Ok y) (Ok z) all same is each = cc
line_wrong P Q R line (Ok y) (Err q) all same is each = cc
line_wrong P Q R line (Err e) (Ok z) all same is each = absurd same
line_wrong P Q R line (Err e) (Err q) {p = p} all same is each =
    let one : q ≡ p = cc in
    let told = each e q same in
    subst (λ r. Q r.fault × (r.line ≡ line)) one (subst Q (sym told.0) all, told.1)

pub placed :
    {bs : List ℕ} {e : LineFault} {line line' : ℕ} → FirstWrong bs e line → line' ≡ line → FirstWrong bs e line'
placed {bs} {e} wrong there = subst (FirstWrong bs e) (sym there) wrong

-- n is the number of rows, as the code has it
module _
    {bs opened : List ℕ} {rows : List Row} {r₁ : List ℕ} {n : ℕ} (same : opened ≡ bs) (begun : BeginsWithRows opened rows r₁)
    (is : n ≡ length rows) where
  begins : BeginsWithRows bs rows r₁
  begins = subst (λ bs. BeginsWithRows bs rows r₁) same begun

  pub ticks_wrong :
      {e : LineFault} {line : ℕ} → WrongHeading (codes "ticks") max_ticks r₁ e → line ≡ n + 2 → FirstWrong bs e line
  ticks_wrong wrong there = placed (ticks begins wrong) (there ∙ ap (λ k. k + 2) is)

  module _ {t : ℕ} {r₂ : List ℕ} (line₂ : LimitedHeading (codes "ticks") max_ticks r₁ t r₂) where
    with_ticks : BeginsWithTicks bs rows t r₂
    with_ticks = record { after = r₁; begins = begins; heading = line₂ }

    pub arrivals_wrong :
        {e : LineFault} {line : ℕ} → WrongHeading (codes "arrivals") max_arrivals r₂ e → line ≡ n + 3 →
        FirstWrong bs e line
    arrivals_wrong wrong there = placed (arrivals with_ticks wrong) (there ∙ ap (λ k. k + 3) is)

    module _ {m : ℕ} {r₃ : List ℕ} (line₃ : LimitedHeading (codes "arrivals") max_arrivals r₂ m r₃) where
      with_arrivals : BeginsWithArrivals bs rows t m r₃
      with_arrivals = record { after = r₂; begins = with_ticks; heading = line₃ }

      pub arrival_wrong : {e : LineFault} {line : ℕ} → ArrivalFault n m (n + 4) r₃ e line → FirstWrong bs e line
      arrival_wrong {e} {line} wrong =
          arrival with_arrivals (subst (λ k. ArrivalFault k m (k + 4) r₃ e line) is wrong)

      pub more_wrong :
          {xs : List Arrival} {r₄ : List ℕ} {e : LineFault} {line : ℕ} → ArrivalsRead n r₃ xs r₄ → length xs ≡ m →
          e ≡ Shape → line ≡ n + m + 4 → r₄ ≢ [] → FirstWrong bs e line
      more_wrong {xs} {r₄} {line = line} read all shape there some =
          let whole = subst (λ k. BeginsWithArrivals bs rows t k r₃) (sym all) with_arrivals in
          let read_all = subst (λ k. ArrivalsRead k r₃ xs r₄) is read in
          subst (λ e. FirstWrong bs e line) (sym shape)
          (placed (more whole read_all some) (omega (arith, there, is, all)))
