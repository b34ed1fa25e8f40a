use Rattle.std.proofs.Common.{◌∙◌, ap, ap₂}
use Rattle.command_line.proofs.Common.{IfOk-weaker, app_of}
use Rattle.clap.specs.Built.{AddsArg}
use Rattle.clap.specs.Simple.{with_rule}
use Rattle.command_line.proofs.options.with_sizes.Goals as goal

pub returns : goal.returns
returns c =
    let first = c.in_ok-arg.ensures.shape c.mmem_option.ensures.local ∙ ap (with_rule (app_of c.args.command)) c.mmem_option.ensures.rule in
    let second = c.in_ok-arg-2.ensures.shape c.heap_option.ensures.local ∙ ap₂ with_rule first c.heap_option.ensures.rule in
    let third = c.in_ok-arg-3.ensures.shape c.quota_option.ensures.local ∙ ap₂ with_rule second c.quota_option.ensures.rule in
    IfOk-weaker c.arg-4.result (AddsArg _ c.header_option.result) _ (λ sized added. added.shape c.header_option.ensures.local
    ∙ ap₂ with_rule third c.header_option.ensures.rule) c.arg-4.ensures
