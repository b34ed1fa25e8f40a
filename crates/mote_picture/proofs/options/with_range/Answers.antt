use Rattle.std.proofs.Common.{◌∙◌, ap, ap₂}
use Rattle.std.proofs.lemmas.Result.{IfOk-weaker}
use Rattle.clap.specs.Built.{AddsArg}
use Rattle.clap.specs.Simple.{app_of, with_rule}
use Rattle.mote_picture.proofs.options.with_range.Goals as goal

pub returns : goal.returns
returns c =
    let first = c.in_ok-arg.ensures.shape c.from_option.ensures.local ∙ ap (with_rule (app_of c.args.command)) c.from_option.ensures.rule in
    IfOk-weaker c.arg-2.result (AddsArg _ c.to_option.result) _ (λ ranged added. added.shape c.to_option.ensures.local
    ∙ ap₂ with_rule first c.to_option.ensures.rule) c.arg-2.ensures
