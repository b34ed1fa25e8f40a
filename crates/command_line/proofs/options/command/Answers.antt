use Rattle.std.proofs.Common.{true, ◌≡◌, ◌∙◌, ap, ap₂}
use Rattle.command_line.proofs.Common.{IfOk-weaker, app_of}
use Rattle.clap.specs.Built.{AddsArg}
use Rattle.clap.specs.Simple.{app_of_fields, on_top, with_rule}
use Rattle.command_line.specs.CommandLine.{versioned, with_sizes}
use Rattle.command_line.proofs.options.command.Goals as goal

pub returns : goal.returns
returns c =
    let numbered : app_of c.version.result ≡ versioned c.args.program.name.now =
    ap app_of_fields c.version.ensures ∙ ap (on_top (λ shape. record shape { has_version = true })) c.new.ensures.app in
    let named_so : app_of c.about.result ≡ versioned c.args.program.name.now = ap app_of_fields c.about.ensures ∙ numbered in
    let explained : app_of c.after_help-command.result ≡ versioned c.args.program.name.now =
    ap app_of_fields c.after_help-command.ensures ∙ named_so in
    let sized = c.in_ok-with_sizes.ensures ∙ ap with_sizes explained in
    let flagged = c.in_ok-arg.ensures.shape c.quiet_flag.ensures.local ∙ ap₂ with_rule sized c.quiet_flag.ensures.rule in
    IfOk-weaker c.arg-2.result (AddsArg _ c.names_argument.result) _ (λ command added. added.shape c.names_argument.ensures.local
    ∙ ap₂ with_rule flagged c.names_argument.ensures.rule) c.arg-2.ensures
