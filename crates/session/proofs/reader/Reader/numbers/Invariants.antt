use Rattle.session.proofs.Answering.{Answered}
use Rattle.session.proofs.reader.Reader.numbers.Given as goal
use Rattle.session.specs.Lines.{next_line}
use Rattle.session.specs.Reading.{left}
use Rattle.std.specs.Result.{result_ok}
use Rattle.std.proofs.Common.{◌≡◌, length, map, take, Some}

-- the fields so far are answered
abbrev pub invariant-loop-answer : goal.invariant-loop-answer
invariant-loop-answer g l = record {
  so_far : Answered (next_line (left l.initial.self)) (next_line (left l.self)) (take l.answer-index l.answer-items);
  room : length l.answer-items ≡ g.row.N;
}

-- the answers so far are numbers
abbrev pub invariant-loop-i : goal.invariant-loop-i
invariant-loop-i g l = record {
  so_far : map result_ok (take l.i l.answer-items) ≡ map Some (take l.i l.numbers);
  room : length l.numbers ≡ g.row.N;
}
