use Rattle.std.proofs.Common.{◌*◌, ◌+◌, ℕ, List, slice_index, arith}
use Rattle.std.specs.Result.{result_ok}
use Rattle.hex.proofs.Pairs.{decode_sized-pairs}
use Rattle.mote_text.proofs.Common.{cases_lt, le-ltb}
use Rattle.mote_text.proofs.HexPairs.{read_all, read_more}
use Rattle.mote_text.proofs.hex_digits.DigitValues.read.Goals as goal

pub bytes-preserved : goal.bytes-preserved
bytes-preserved c =
    let digits : List ℕ = c.args.digits.now in
    let i : ℕ = c.bytes.i in
    read_more digits c.bytes.place i c.bytes.bits _ _ (omega arith) (omega arith)
    (c.args.self.now.right (slice_index digits (2 * i)) (omega (arith, c.type_inv.digits (2 * i))))
    (c.args.self.now.right (slice_index digits (2 * i + 1)) (omega (arith, c.type_inv.digits (2 * i + 1)))) c.bytes.invariant

pub returns : goal.returns
returns c = grind (arith, result_ok, decode_sized-pairs, cases_lt, read_all, le-ltb)
