use Rattle.std.proofs.Common.{arith, ap, ◌∙◌, ◌++◌, take}
use Rattle.std.proofs.lemmas.List.{take-take}
use Rattle.mote_text.proofs.SmallNumbers.{last_digits_in}
use Rattle.mote_text.proofs.page.Page.put_two_digits.Goals as goal

pub returns : goal.returns
returns g c = record {
  text =
      c.put_block.ensures.text
      ∙ ap (λ text. take c.args.at c.args.self.now.bytes ++ text) (
      grind (arith, take-take) ∙ last_digits_in _ c.small_numbers.ensures.numbers c.args.n c.requires.few
      );
  few = c.put_block.ensures.few;
}
