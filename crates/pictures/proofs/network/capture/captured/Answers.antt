use Rattle.std.proofs.Common.{◌≡◌, length, take, arith, sym}
use Rattle.std.proofs.lemmas.List.{length-take-le, take_all}
use Rattle.pictures.proofs.network.capture.captured.Goals as goal

pub slice_bounds-result-end : goal.slice_bounds-result-end
slice_bounds-result-end c = sym (length-take-le 127 c.args.bytes.now (omega (arith, c.if-bytes-gt-LONGEST.true)))

pub returns-then-bytes-gt-LONGEST-clause-short : goal.returns-then-bytes-gt-LONGEST-clause-short
returns-then-bytes-gt-LONGEST-clause-short c =
    let all : length (take 127 c.args.bytes.now) ≡ 127 =
    length-take-le 127 c.args.bytes.now (omega (arith, c.if-bytes-gt-LONGEST.true)) in
    omega (arith, all)

pub returns-else-bytes-gt-LONGEST-clause-bytes : goal.returns-else-bytes-gt-LONGEST-clause-bytes
returns-else-bytes-gt-LONGEST-clause-bytes c = sym (take_all 127 c.args.bytes.now (omega (arith, c.if-bytes-gt-LONGEST.false)))
