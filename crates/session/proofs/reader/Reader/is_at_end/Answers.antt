use Rattle.session.proofs.Scanning.{at_end}
use Rattle.session.proofs.reader.Reader.is_at_end.Goals as goal

pub returns : goal.returns
returns c =
    let s = c.args.self.now in at_end s.input.now s.at s.within
