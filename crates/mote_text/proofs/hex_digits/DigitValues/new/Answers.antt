use Rattle.std.proofs.Common.{◌≡◌, slice_index, sym, arith}
use Rattle.mote_text.proofs.DigitTables.{digits_after_zeros, digits_read, filled_more, filled_right, filled_start}
use Rattle.mote_text.proofs.hex_digits.DigitValues.new.Goals as goal

pub digits-init : goal.digits-init
digits-init c = sym filled_start

pub digits-preserved : goal.digits-preserved
digits-preserved c = grind (arith, digits_after_zeros, digits_read, filled_more)

pub invariant_of-result : goal.invariant_of-result
invariant_of-result c =
    let last : c.digits.i ≡ 22 = omega arith in
    grind (arith, slice_index, filled_right)
