use Rattle.session.proofs.Scanning.{bounds_none, bounds_some, field_front, field_past, run_of, spaces_past}
use Rattle.session.proofs.reader.fields.field_bounds.Goals as goal
use Rattle.session.specs.Bytes.{in_field, is_space}
use Rattle.session.specs.Places.{Run}
use Rattle.session.specs.Scans.{front_field, past_field}
use Rattle.std.proofs.lemmas.List.{take_rest}
use Rattle.std.proofs.lemmas.List.Edits.{between_none, length-between}
use Rattle.std.specs.List.{between, prefix_len}
use Rattle.std.proofs.Common.{◌≡◌, ◌+◌, ◌≤◌, length, drop, sym, ap, ◌∙◌, subst, arith}

pub returns : goal.returns
returns c =
    let xs = c.args.input.now in
    let from = c.args.from in
    let spaces = c.run_length in
    let bytes = c.run_length-2 in
    let start = from + spaces.result in
    let end = start + bytes.result in
    let n : spaces.result ≡ prefix_len is_space (drop from xs)
    = spaces.ensures.value ∙ ap (prefix_len is_space) (take_rest xs from) in
    let m : bytes.result ≡ prefix_len in_field (drop start xs)
    = bytes.ensures.value ∙ ap (prefix_len in_field) (take_rest xs start) in
    let skipped = spaces_past xs from spaces.result n in
    let front = field_front xs from spaces.result bytes.result m in
    let past = field_past xs from spaces.result bytes.result m in
    let within : end ≤ length xs = omega arith in
    let of_all = front ∙ ap front_field skipped in
    record {
      within = (omega arith, within);
      front = of_all;
      long = λ lt. omega (arith, length-between xs start end within);
      empty = λ same. sym of_all ∙ ap (λ i. between start i xs) (sym same) ∙ between_none xs start;
      rest = past ∙ ap past_field skipped;
      none = bounds_none xs from start end skipped front past;
      some = bounds_some xs from start end skipped front past within;
      runs = (
        subst (λ n. Run is_space xs from (from + n)) (sym n) (run_of is_space xs from c.requires),
        subst (λ n. Run in_field xs start (start + n)) (sym m) (run_of in_field xs start (omega arith)),
      );
    }
