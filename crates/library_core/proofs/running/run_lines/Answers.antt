use Rattle.std.proofs.Common.{◌≡◌, ◌∙◌, ℕ, List, false, sym, ap, length, arith, rules, Result, Ok, Err, IfOk, Some}
use Rattle.std.proofs.lemmas.Bool.Decides.{nat_tests}
use Rattle.std.specs.Str.{IsUtf8}
use Rattle.std.specs.Str.Lines.{lines}
use Rattle.mote_run.specs.Code.Runs.{config_of}
use Rattle.library_core.specs.Outcomes.{AreOfLines, AreRefused, Refuses}
use Rattle.library_core.specs.declared.refusal.Refusal.{Refusal}
use Rattle.kernel_core.specs.Machine.{is_bootable}
use Rattle.node_memory.specs.declared.sizes.Sizes.{Sizes}
use Rattle.library_core.specs.Configurations.{sizes_of}
use Rattle.library_core.specs.declared.configuration.Configuration.{Configuration}
use Rattle.library_core.specs.Reasons.{size_reason}
use Rattle.library_core.specs.declared.refusal.SizeReason.{SizeReason}
use Rattle.library_core.proofs.ReadLines.{as_many, handed_on}
use Rattle.library_core.proofs.running.run_lines.Goals as goal

-- no mote boots with a bad size
not_bootable : (sizes : Sizes) (applications : ℕ) (reason : SizeReason) → size_reason sizes applications ≡ Some reason
    → is_bootable (config_of sizes applications) ≡ false
not_bootable sizes applications reason is = grind (arith, nat_tests, is)

on_ok : {T E : Type 0} (P Q : T → Type 0) (r : Result T E) → ((x : T) → P x → Q x) → IfOk r P → IfOk r Q
on_ok P Q (Ok x) f p = f x p
on_ok P Q (Err e) f p = tt

refused_lines : (configuration : Configuration) (text : List ℕ) (refusal : Refusal) → IsUtf8 text → AreRefused (lines text) refusal
    → Refuses configuration text refusal
refused_lines configuration text Refusal.NotText is_text refused = absurd refused
refused_lines configuration text (Refusal.BadSizes reason) is_text refused = absurd refused
refused_lines configuration text Refusal.OutOfMemory is_text refused = tt
refused_lines configuration text refusal is_text refused = (is_text, refused)

pub returns-in_err-applications-clause-refused : goal.returns-in_err-applications-clause-refused
returns-in_err-applications-clause-refused c =
    handed_on (Refuses c.args.configuration.now c.args.lines.now) c.in_err-applications.field-0.0 c.from_residual.result
    c.from_residual.ensures
    (refused_lines c.args.configuration.now c.args.lines.now c.in_err-applications.field-0.0 c.in-Ok.ensures.cases.1
    (rw c.in-Ok.ensures.cases.0 at c.in_err-applications.ensures.refused))

pub returns-clause-run : goal.returns-clause-run
returns-clause-run c =
    on_ok _ _ c.run_applications.result
    (λ ran is_text. record {
      applications = c.in_ok-applications.applications.items;
      are_of_lines = rw c.in-Ok.ensures.cases.0 at c.in_ok-applications.ensures.of_lines;
      is_text = rw (c.sizes-sizes.ensures, c.is_quiet-quiet.ensures) at is_text;
    })
    c.run_applications.ensures.text

pub returns-in-Some-clause-refused : goal.returns-in-Some-clause-refused
returns-in-Some-clause-refused c =
    let text = c.args.lines.now in let sizes = sizes_of c.args.configuration.now in
    let are : AreOfLines (lines text) c.in_ok-applications.applications.items =
    rw c.in-Ok.ensures.cases.0 at c.in_ok-applications.ensures.of_lines in
    let many = as_many (lines text) c.in_ok-applications.applications.items are in
    let as_long : c.len.result ≡ length c.in_ok-applications.applications.items = search rules in
    let because : size_reason sizes (length (lines text)) ≡ Some c.in-Some.reason =
    ap (size_reason sizes) (many ∙ sym as_long)
    ∙ (sym (ap (λ (sizes : Sizes). size_reason sizes c.len.result) c.sizes-sizes.ensures) ∙ (sym c.size_reason.ensures ∙ c.in-Some.is)) in (
      c.in-Ok.ensures.cases.1,
      record {
        are_named = (c.in_ok-applications.applications.items, are);
        are_few = omega (arith, many, c.in_ok-applications.ensures.few);
        is_bad = not_bootable sizes (length (lines text)) c.in-Some.reason because;
        is_reason = because;
      },
    )
