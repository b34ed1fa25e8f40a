use Rattle.std.proofs.Common.{true, ◌≡◌, ◌∙◌, ap, ap₂}
use Rattle.std.proofs.lemmas.Result.{IfOk-weaker}
use Rattle.clap.specs.Built.{AddsArg}
use Rattle.clap.specs.Simple.{app_of, app_of_fields, on_top, with_rule}
use Rattle.command_line.specs.CommandLine.{versioned, with_sizes}
use Rattle.mote_picture.specs.CommandLine.{with_range}
use Rattle.mote_picture.proofs.options.command.Goals as goal

pub returns : goal.returns
returns c =
    let numbered : app_of c.version.result ≡ versioned c.args.program.name.now =
    ap app_of_fields c.version.ensures ∙ ap (on_top (λ shape. record shape { has_version = true })) c.new.ensures.app in
    let named_so : app_of c.about.result ≡ versioned c.args.program.name.now = ap app_of_fields c.about.ensures ∙ numbered in
    let explained : app_of c.after_help-command.result ≡ versioned c.args.program.name.now =
    ap app_of_fields c.after_help-command.ensures ∙ named_so in
    let sized = c.in_ok-command.ensures ∙ ap with_sizes explained in
    let ranged = c.in_ok-with_range.ensures ∙ ap with_range sized in
    let unfolded = c.in_ok-arg.ensures.shape c.flag.ensures.local ∙ ap₂ with_rule ranged c.flag.ensures.rule in
    let paged = c.in_ok-arg-2.ensures.shape c.in_ok-page_flag.ensures.local ∙ ap₂ with_rule unfolded c.in_ok-page_flag.ensures.rule in
    let dumped = c.in_ok-arg-3.ensures.shape c.flag-2.ensures.local ∙ ap₂ with_rule paged c.flag-2.ensures.rule in
    IfOk-weaker c.arg-4.result (AddsArg _ c.names_argument.result) _ (λ command added. added.shape c.names_argument.ensures.local
    ∙ ap₂ with_rule dumped c.names_argument.ensures.rule) c.arg-4.ensures
