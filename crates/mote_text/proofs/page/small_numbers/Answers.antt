use Rattle.std.specs.Fmt.{digits}
use Rattle.std.proofs.Common.{refl}
use Rattle.mote_text.proofs.SmallNumbers.{all_in}
use Rattle.mote_text.proofs.page.small_numbers.Goals as goal

pub returns : goal.returns
unfolding digits
returns c = record {
  numbers = all_in _ refl;
  size = refl;
}
