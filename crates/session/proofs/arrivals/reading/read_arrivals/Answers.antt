use Rattle.session.proofs.Wrong.{line_right}
use Rattle.session.proofs.arrivals.reading.read_arrivals.Goals as goal
use Rattle.session.specs.Reading.{left, arrivals_of}
use Rattle.session.specs.Sections.{ArrivalsRead}
use Rattle.session.specs.Sections.ArrivalsRead.{none_yet, one_more}
use Rattle.std.proofs.lemmas.List.{length_push}
use Rattle.std.proofs.Common.{length, sym, ap, subst, arith}

pub loop-line-init : goal.loop-line-init
loop-line-init c =
    let bs = left c.args.reader.now in (
      subst (λ xs. ArrivalsRead c.args.rows bs xs bs) (sym c.new-arrivals.ensures) none_yet,
      omega (arith, ap length c.new-arrivals.ensures),
    )

pub loop-line-preserved : goal.loop-line-preserved
loop-line-preserved c =
    let a = c.in_ok-map_err.field-0 in
    let bs = left c.args.reader.now in
    let rest = left c.read_arrival.new.reader in
    let line
    = line_right _ _ _ c.read_arrival.result c.map_err.result c.read_arrival.ensures c.map_err.ensures.cases
    c.in_ok-map_err.was in (
      subst (λ xs. ArrivalsRead c.args.rows bs xs rest) (sym c.push.ensures)
          (one_more a.time a.row c.loop-line.invariant.0 line),
      omega (
        arith,
        c.loop-line.invariant.1,
        ap length c.push.ensures,
        length_push (arrivals_of c.loop-line.arrivals) a,
      ),
    )
