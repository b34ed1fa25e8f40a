use Rattle.std.proofs.Common.{arith, ap, sym, ◌∙◌, ◌++◌, ◌∷◌, [], ◌+◌, ◌/◌, ◌%◌, take, decimal, append_assoc}
use Rattle.mote_text.proofs.Blanked.{blanked_one}
use Rattle.mote_text.proofs.SmallNumbers.{with_last_digits}
use Rattle.mote_text.proofs.page.Page.put_short_number.Goals as goal

pub returns : goal.returns
returns g c =
    let n = c.args.n in
    let before = take c.args.at c.args.self.now.bytes in
    let last = (48 + n % 100 / 10) ∷ (48 + n % 100 % 10) ∷ 32 ∷ [] in
    record {
      text =
          c.put_two_digits.ensures.text ∙ ap (λ front. front ++ last) c.put_small_digits-end.ensures.text
          ∙ append_assoc before (decimal (n / 100)) last
          ∙ ap (λ text. before ++ text) (with_last_digits n c.requires.least c.requires.most ∙ sym (blanked_one (decimal n)));
      few = omega (arith, c.put_two_digits.ensures.few, c.put_small_digits-end.ensures.few);
    }
