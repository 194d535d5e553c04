use Rattle.session.proofs.Shapes.{no_heading, no_value}
use Rattle.session.proofs.reader.Reader.field_after.Goals as goal
use Rattle.session.specs.Reading.{left}
use Rattle.std.proofs.lemmas.Result.{err_from_is_err_and}

pub returns-in_err-name : goal.returns-in_err-name
returns-in_err-name c =
    let p = err_from_is_err_and c.from_residual.result c.from_residual.ensures.1 in
    let e = c.in_err-name.ensures in
    rw (p.1, p.2) (e.0, no_heading c.args.word.now (left c.args.self.now) (e.1 1))

pub returns-in_err-value : goal.returns-in_err-value
returns-in_err-value c =
    let p = err_from_is_err_and c.from_residual-in_err-value.result c.from_residual-in_err-value.ensures.1 in
    let e = c.in_err-value.ensures in
    rw (p.1, p.2)
    (e.0, no_value c.args.word.now c.in_ok-name.name.bytes.now (left c.args.self.now) _ c.in_ok-name.ensures e.1)
