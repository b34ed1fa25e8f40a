use Rattle.std.proofs.Common.{◌∙◌, ◌++◌, ap, append_assoc, string_bytes}
use Rattle.std.proofs.lemmas.Result.{IfOk-weaker}
use Rattle.pictures.specs.Words.{lost_front, lost_reason}
use Rattle.pictures.proofs.words.inputs.push_lost.Goals as goal

pub returns : goal.returns
returns c =
    IfOk-weaker c.push_lost_reason.result _ _
    (λ x is. is ∙ ap (λ text. text ++ lost_reason c.args.number) c.in_ok-push_str.ensures.bytes
    ∙ append_assoc (string_bytes c.args.out.now) lost_front (lost_reason c.args.number))
    c.push_lost_reason.ensures
