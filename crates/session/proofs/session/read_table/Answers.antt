use Rattle.session.proofs.Wrong.{line_right, line_wrong, placed}
use Rattle.session.proofs.session.read_table.Goals as goal
use Rattle.session.specs.LineKinds.{LineOf}
use Rattle.session.specs.Reading.{left}
use Rattle.session.specs.Sessions.FirstWrong.{heading, row}
use Rattle.std.proofs.lemmas.Result.{err_from_is_err_and, MatchResult-weaker}
use Rattle.std.proofs.Common.{[], ◌∷◌, codes, sym, subst, rules}

pub returns-in_err-count : goal.returns-in_err-count
returns-in_err-count c =
    let p = err_from_is_err_and c.from_residual.result c.from_residual.ensures.1 in
    let wrong
    = line_wrong _ _ _ 1 c.heading.result c.map_err.result c.heading.ensures c.map_err.ensures.cases
    c.in_err-count.was (λ e p k. search rules) in
    rw (p.1, p.2) (placed (heading wrong.0) wrong.1)

pub returns : goal.returns
returns c =
    let bs = left c.args.reader.now in
    let after = left c.heading.new.self in
    let line
    = line_right _ _ _ c.heading.result c.map_err.result c.heading.ensures c.map_err.ensures.cases c.in_ok-count.was in
    MatchResult-weaker c.read_rows.result c.read_rows.ensures
    (λ d read. record {
      after = after;
      heading = subst (λ n. LineOf (codes "rows" ∷ []) bs (n ∷ []) after) (sym read.1) line.0;
      read = read.0;
    }) (λ p wrong. row line.0 wrong)
