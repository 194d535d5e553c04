use Rattle.std.proofs.Common.{◌≡◌, ◌+◌, ◌*◌, ◌≤◌, [], ◌∷◌, ◌++◌, length, drop}
use Rattle.report.proofs.lines.line.Given as goal
use Rattle.report.specs.Lines.{spaced}
use Rattle.std.specs.List.{flat_map}

abbrev pub invariant-loop-i : goal.invariant-loop-i
invariant-loop-i l = record {
  text : drop l.at l.space ≡ flat_map spaced (drop l.i l.numbers) ++ 10 ∷ [];
  room : length l.word + 21 * l.i ≤ l.at;
  within : l.at ≤ 71;
}
