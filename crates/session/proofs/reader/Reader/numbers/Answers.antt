use Rattle.session.proofs.Answering.{Answered, all_answered, answer_is, are_numbers, how_many, no_answer, one_answered, too_few, whole}
use Rattle.session.proofs.Shapes.{count_wrong}
use Rattle.session.proofs.reader.Reader.numbers.Goals as goal
use Rattle.session.specs.Lines.{next_line}
use Rattle.session.specs.Reading.{left}
use Rattle.std.proofs.lemmas.List.{length-take, take_all, take_more_set}
use Rattle.std.proofs.lemmas.Result.{err_from_is_err_and}
use Rattle.std.specs.Result.{result_ok}
use Rattle.std.proofs.Common.{map, Some, Ok, sym, ap, ◌∙◌, subst, arith, length-set}

pub returns-in_err-field : goal.returns-in_err-field
returns-in_err-field g c =
    let p = err_from_is_err_and c.from_residual.result c.from_residual.ensures.1 in
    let l = c.loop-answer in
    let e = c.in_err-field.ensures in
    rw (p.1, p.2, e.0)
    (count_wrong g.row.N (left c.args.self.now)
    (too_few l.invariant.so_far g.row.N e.1 (simp length-take (omega (arith, c.loop-answer-test.true)))))

pub loop-answer-preserved : goal.loop-answer-preserved
loop-answer-preserved g c =
    let l = c.loop-answer in
    record {
      so_far =
          subst (Answered (next_line (left c.args.self.now)) (next_line (left c.field.new.self)))
          (sym (take_more_set l.answer-items l.answer-index c.number.result (omega (arith, l.invariant.room, c.loop-answer-test.true))))
          (one_answered c.in_ok-field.field-0.bytes.now c.number.result l.invariant.so_far c.in_ok-field.ensures
          (answer_is c.in_ok-field.field-0.bytes.now c.number.result c.number.ensures));
      room = length-set l.answer-items l.answer-index c.number.result ∙ l.invariant.room;
    }

pub returns-in_err-numbers : goal.returns-in_err-numbers
returns-in_err-numbers g c =
    let p = err_from_is_err_and c.from_residual-in_err-numbers.result c.from_residual-in_err-numbers.ensures.1 in
    let l = c.loop-answer in
    let a = all_answered l.answer-index l.answer-items l.invariant.so_far (omega (arith, l.invariant.room, c.loop-answer-test.false)) in
    rw (p.1, p.2)
    record {
      fields = a.fields;
      rest = left c.end_line.new.self;
      line = whole a (left c.end_line.new.self) c.in_ok-end_line.ensures;
      count = how_many a ∙ l.invariant.room;
      not_all =
          no_answer a.fields l.answer-items c.loop-i.i (Ok 0) a.numbers
          (omega (arith, l.invariant.room, c.loop-i-test.true)) (ap result_ok c.in_err-numbers.was);
    }

pub returns : goal.returns
returns g c =
    let l = c.loop-answer in
    let n = c.loop-i in
    let a = all_answered l.answer-index l.answer-items l.invariant.so_far (omega (arith, l.invariant.room, c.loop-answer-test.false)) in
    record {
      fields = a.fields;
      line = whole a (left c.end_line.new.self) c.in_ok-end_line.ensures;
      numbers =
          are_numbers a.fields n.numbers
          (a.numbers ∙ ap (map result_ok) (sym (take_all n.i l.answer-items (omega (arith, l.invariant.room, c.loop-i-test.false)))) ∙
          n.invariant.so_far ∙ ap (map Some) (take_all n.i n.numbers (omega (arith, n.invariant.room, c.loop-i-test.false))));
    }
