use Rattle.session.proofs.Wrong.{line_right, row_more}
use Rattle.session.proofs.rows.read_rows.Goals as goal
use Rattle.session.specs.Reading.{left}
use Rattle.session.specs.Sections.{RowsRead}
use Rattle.session.specs.Sections.RowsRead.{none, more}
use Rattle.std.proofs.Common.{◌+◌, length, sym, ap, subst, arith}

pub loop-line-init : goal.loop-line-init
loop-line-init c =
    let bs = left c.args.reader.now in (
      subst (λ rows. RowsRead bs rows bs) (sym c.new-draft.ensures) none,
      ap (λ rows. length rows + 2) c.new-draft.ensures,
    )

pub loop-line-preserved : goal.loop-line-preserved
loop-line-preserved c =
    let line
    = line_right _ _ _ c.read_row.result c.map_err.result c.read_row.ensures c.map_err.ensures.cases c.in_ok-map_err.was in
    (more c.loop-line.invariant.0 line, omega (arith, c.loop-line.invariant.1, row_more line))
