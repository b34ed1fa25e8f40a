use Rattle.std.proofs.Common.{rules, arith, ap, ◌∙◌, ◌++◌, take}
use Rattle.std.proofs.lemmas.List.{take-take}
use Rattle.mote_text.proofs.SmallNumbers.{digits_in, narrow}
use Rattle.mote_text.proofs.page.Page.put_small_digits.Goals as goal

pub put_block-requires : goal.put_block-requires
put_block-requires g c = (
  search rules,
  (
    omega (arith, narrow c.args.n (omega arith), (c.small_numbers-numbers.ensures.numbers c.args.n (omega arith)).1),
    (search rules, search rules),
  ),
)

pub returns : goal.returns
returns g c =
    let few = narrow c.args.n (omega arith) in
    let number = c.small_numbers-numbers.ensures.numbers c.args.n (omega arith) in
    record {
      text =
          c.put_block.ensures.text
          ∙ ap (λ text. take c.args.at c.args.self.now.bytes ++ text) (
          grind (arith, number.1, take-take) ∙ digits_in _ c.small_numbers-numbers.ensures.numbers c.args.n (omega arith)
          );
      few = omega (arith, c.put_block.ensures.few, number.1, few);
    }
