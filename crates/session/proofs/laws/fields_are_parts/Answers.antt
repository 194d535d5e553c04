use Rattle.session.proofs.Standing.{fields_are_parts_lem}
use Rattle.session.proofs.laws.fields_are_parts.Goals as goal

pub returns : goal.returns
returns c = fields_are_parts_lem
