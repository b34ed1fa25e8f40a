use Rattle.std.proofs.Common.{rules, arith, ap, sym, ◌∙◌, ◌++◌, take, decimal}
use Rattle.std.proofs.lemmas.List.{take-take}
use Rattle.mote_text.proofs.Blanked.{blanked_one}
use Rattle.mote_text.proofs.SmallNumbers.{narrow}
use Rattle.mote_text.proofs.page.Page.put_small_number.Goals as goal

pub put_block-requires : goal.put_block-requires
put_block-requires g c = (
  search rules,
  (
    omega (arith, narrow c.args.n (omega arith), (c.small_numbers-numbers.ensures.numbers c.args.n (omega arith)).1),
    (search rules, search rules),
  ),
)

pub returns : goal.returns
returns g c =
    let few = narrow c.args.n (omega arith) in
    let number = c.small_numbers-numbers.ensures.numbers c.args.n (omega arith) in
    record {
      text =
          c.put_block.ensures.text
          ∙ ap (λ text. take c.args.at c.args.self.now.bytes ++ text) (
          grind (arith, number.1, take-take) ∙ number.0 ∙ sym (blanked_one (decimal c.args.n))
          );
      few = omega (arith, c.put_block.ensures.few, number.1);
    }
