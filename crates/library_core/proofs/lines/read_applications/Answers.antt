use Rattle.std.specs.Str.Iter.{lines_rest}
use Rattle.std.specs.Str.Lines.{lines}
use Rattle.library_core.specs.Outcomes.{AreRefused}
use Rattle.std.proofs.Common.{◌≡◌, ◌∷◌, rules, length, drop, arith, length-append, ◌+◌, []}
use Rattle.std.proofs.lemmas.Iterator.Consumers.{YieldsList-end, YieldsList-so_far, YieldsList-turn}
use Rattle.std.proofs.lemmas.Iterator.Splits.{YieldsList-from_lines}
use Rattle.library_core.proofs.ReadLines.{handed_on, next_line, one_more, refused_line, texts_of}
use Rattle.library_core.proofs.lines.read_applications.Goals as goal

pub loop-line-init : goal.loop-line-init
loop-line-init c = let none : c.new-applications.result.items ≡ [] = search rules in rw none (tt, omega arith)

pub loop-line-preserved : goal.loop-line-preserved
loop-line-preserved c =
    let many : c.len.result ≡ length c.loop-line.applications.items = search rules in
    rw c.in_ok-push.ensures.items (
      one_more c.loop-line.yielded _ c.in-Some.line _ c.loop-line.invariant.0 c.in_ok-application.ensures.named,
      omega (
        arith,
        length-append c.loop-line.applications.items (c.in_ok-application.application ∷ []),
        many,
        c.in_ok-application.ensures.few,
      ),
    )

pub returns-in_err-application-clause-refused : goal.returns-in_err-application-clause-refused
returns-in_err-application-clause-refused c =
    let read = c.loop-line.yielded in
    let all = lines c.args.text.now in
    let rest : lines_rest c.into_iter-line-iterator.result ≡ c.args.text.now = search rules in
    let many : c.len.result ≡ length c.loop-line.applications.items = search rules in
    let yields = YieldsList-from_lines c.args.text.now rest in
    let turn = YieldsList-turn yields read _ c.loop-line.yielded_by _ _ c.in-Some.line c.in-Some.is c.next.ensures.steps in
    let before = YieldsList-so_far yields read _ c.loop-line.yielded_by in
    let is_line = next_line all (length read) c.in-Some.line.now turn.0 turn.1 in
    handed_on (AreRefused all) c.in_err-application.field-0.0 c.from_residual.result c.from_residual.ensures
    (refused_line (texts_of read) c.loop-line.applications.items c.in-Some.line.now (drop (length read + 1) all) c.len.result
    (rw before is_line) c.loop-line.invariant.0 many c.in_err-application.field-0.0 c.in_err-application.ensures.refused)

pub returns-clause-of_lines : goal.returns-clause-of_lines
returns-clause-of_lines c =
    let rest : lines_rest c.into_iter-line-iterator.result ≡ c.args.text.now = search rules in
    let end = YieldsList-end (YieldsList-from_lines c.args.text.now rest) c.loop-line.yielded _ c.loop-line.yielded_by _ _ c.in-None.is
    c.next.ensures.steps in
    rw end.0 at c.loop-line.invariant.0
