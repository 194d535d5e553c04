use Rattle.session.proofs.Scanning.{has_none}
use Rattle.session.proofs.reader.Reader.end_line.Goals as goal
use Rattle.session.proofs.reader.Reader.end_line.Goals.{then-is_some-via-then-is_some, then-is_some-via-else-is_some+then-is_at_end}
use Rattle.session.specs.Lines.{has, next_line}
use Rattle.session.specs.Reading.{left}
use Rattle.std.specs.Option.{is_some}
use Rattle.std.proofs.Common.{◌≡◌, true, false, Some, None, Option, MatchOption, sym, refl, ap, ◌∙◌}

where_some :
    {A : Type 0} (o : Option A) (P R : Type 0) (Q : A → Type 0) → is_some o ≡ true → MatchOption o P Q →
    ((x : A) → Q x → R) → R
where_some None P R Q is m each = cc
where_some (Some x) P R Q is m each = each x m

where_none : {A : Type 0} (o : Option A) (P : Type 0) (Q : A → Type 0) → is_some o ≡ false → MatchOption o P Q → P
where_none None P Q is m = m
where_none (Some x) P Q is m = cc

pub returns-then-is_some : goal.returns-then-is_some
returns-then-is_some c =
    let line = c.next_field.ensures.line in
    elim c.then-is_some.branch [
      | then-is_some-via-then-is_some w ↦ (
        refl,
        where_some c.next_field.result _ _ _ (sym c.is_some.ensures ∙ w.if-is_some.true) line
            (λ f is. ap (has 0) is ∙ has_none f.bytes.now (next_line (left c.next_field.new.self))),
      )
      | then-is_some-via-else-is_some+then-is_at_end w ↦
          let over = where_none c.next_field.result _ _ (sym c.is_some.ensures ∙ w.if-is_some.false) line in
          (refl, ap (has 0) (sym over.0) ∙ ap (λ bs. has 0 (next_line bs)) w.if-is_at_end.ensures)
    ]
