use Rattle.std.proofs.Common.{◌≡◌, ◌∙◌, Some, None, sym, ap, ap₂, codes, arith, rules}
use Rattle.std.proofs.lemmas.Bool.{true≢false}
use Rattle.std.proofs.lemmas.Str.Pattern.{split_parts, split_text_parts}
use Rattle.pictures.specs.Transcript.Code.{origin_in}
use Rattle.pictures.specs.Transcript.Turns.{is_call, is_stimulus, is_turn}
use Rattle.pictures.specs.Transcript.Words.{read_number}
use Rattle.pictures.proofs.ReadNumbers.{decimal_of_read, read_decimal}
use Rattle.pictures.proofs.TurnParts.{call_found, first_arrow, is_accepted, is_application, origin_found, origin_read, pid_found, turn_parts}
use Rattle.pictures.proofs.transcript.turn.read_turn.Goals.{else-is_stimulus-via-then-is_stimulus+else-is_call, else-is_stimulus-via-else-is_stimulus}
use Rattle.pictures.proofs.transcript.turn.read_turn.Goals as goal

pub returns-then-is_call-clause-written : goal.returns-then-is_call-clause-written
returns-then-is_call-clause-written c =
    let line = c.args.line.now in
    let whole = split_text_parts (codes " -> ") line (Some (c.in_ok-front.front, c.in_ok-front.call)) c.in_ok-front.ensures.cases in
    let first = split_parts 32 c.in_ok-front.front.now (Some (c.in_ok-pid.pid, c.in_ok-pid.rest)) c.in_ok-pid.ensures.cases (omega arith) in
    let second = split_parts 32 c.in_ok-pid.rest.now (Some (c.in_ok-origin.origin, c.in_ok-origin.stimulus)) c.in_ok-origin.ensures.cases
    (omega arith) in
    turn_parts line c.in_ok-front.front.now c.in_ok-front.call.now c.in_ok-pid.pid.now c.in_ok-pid.rest.now c.in_ok-origin.origin.now
    c.in_ok-origin.stimulus.now _ _
    whole first.0 second.0 (decimal_of_read c.in_ok-pid.pid.now c.in_ok-pid-2.pid (sym c.in_ok-pid-2.ensures)) c.in_ok-origin-2.ensures.written

pub returns-then-is_call-clause-first : goal.returns-then-is_call-clause-first
unfolding is_turn
returns-then-is_call-clause-first c = record {
  text = returns-then-is_call-clause-written c;
  form = search rules;
  first = first_arrow c.args.line.now c.in_ok-front.front c.in_ok-front.call c.in_ok-front.ensures.cases;
}

pub returns-in_err-front-clause-none : goal.returns-in_err-front-clause-none
returns-in_err-front-clause-none c = rw c.from_residual.ensures (λ turn is. call_found is None c.in_err-front.ensures.cases)

pub returns-in_err-pid-clause-none : goal.returns-in_err-pid-clause-none
returns-in_err-pid-clause-none c = rw c.from_residual-in_err-pid.ensures (λ turn is.
    let call = call_found is (Some (c.in_ok-front.front, c.in_ok-front.call)) c.in_ok-front.ensures.cases in
    pid_found is c.in_ok-front.front.now call.0 None c.in_err-pid.ensures.cases)

pub returns-in_err-origin-clause-none : goal.returns-in_err-origin-clause-none
returns-in_err-origin-clause-none c = rw c.from_residual-in_err-origin.ensures (λ turn is.
    let call = call_found is (Some (c.in_ok-front.front, c.in_ok-front.call)) c.in_ok-front.ensures.cases in
    let pid = pid_found is c.in_ok-front.front.now call.0 (Some (c.in_ok-pid.pid, c.in_ok-pid.rest)) c.in_ok-pid.ensures.cases in
    origin_found is c.in_ok-pid.rest.now pid.1 None c.in_err-origin.ensures.cases)

pub returns-in_err-pid-2-clause-none : goal.returns-in_err-pid-2-clause-none
returns-in_err-pid-2-clause-none c = rw c.from_residual-in_err-pid-2.ensures (λ turn is.
    let call = call_found is (Some (c.in_ok-front.front, c.in_ok-front.call)) c.in_ok-front.ensures.cases in
    let pid = pid_found is c.in_ok-front.front.now call.0 (Some (c.in_ok-pid.pid, c.in_ok-pid.rest)) c.in_ok-pid.ensures.cases in
    let read : None ≡ Some turn.pid = c.in_err-pid-2.ensures ∙ ap read_number pid.0 ∙ read_decimal turn.pid (omega (arith, is_application is)) in
    absurd (cc))

pub returns-then-pid-lt4-clause-none : goal.returns-then-pid-lt4-clause-none
returns-then-pid-lt4-clause-none c = λ turn is.
    let call = call_found is (Some (c.in_ok-front.front, c.in_ok-front.call)) c.in_ok-front.ensures.cases in
    let pid = pid_found is c.in_ok-front.front.now call.0 (Some (c.in_ok-pid.pid, c.in_ok-pid.rest)) c.in_ok-pid.ensures.cases in
    let read = c.in_ok-pid-2.ensures ∙ ap read_number pid.0 ∙ read_decimal turn.pid (omega (arith, is_application is)) in
    let same : c.in_ok-pid-2.pid ≡ turn.pid = cc in
    let application = is_application is in
    grind arith

pub returns-in_err-origin-2-clause-none : goal.returns-in_err-origin-2-clause-none
returns-in_err-origin-2-clause-none c = rw c.from_residual-in_err-origin-2.ensures (λ turn is.
    let call = call_found is (Some (c.in_ok-front.front, c.in_ok-front.call)) c.in_ok-front.ensures.cases in
    let pid = pid_found is c.in_ok-front.front.now call.0 (Some (c.in_ok-pid.pid, c.in_ok-pid.rest)) c.in_ok-pid.ensures.cases in
    let origin = origin_found is c.in_ok-pid.rest.now pid.1 (Some (c.in_ok-origin.origin, c.in_ok-origin.stimulus)) c.in_ok-origin.ensures.cases in
    let read : None ≡ Some turn.origin = c.in_err-origin-2.ensures.whole ∙ ap origin_in origin.0 ∙ origin_read turn.origin in
    absurd (cc))

pub returns-else-is_stimulus-clause-none : goal.returns-else-is_stimulus-clause-none
returns-else-is_stimulus-clause-none c = λ turn is.
    let call = call_found is (Some (c.in_ok-front.front, c.in_ok-front.call)) c.in_ok-front.ensures.cases in
    let pid = pid_found is c.in_ok-front.front.now call.0 (Some (c.in_ok-pid.pid, c.in_ok-pid.rest)) c.in_ok-pid.ensures.cases in
    let origin = origin_found is c.in_ok-pid.rest.now pid.1 (Some (c.in_ok-origin.origin, c.in_ok-origin.stimulus)) c.in_ok-origin.ensures.cases in
    let read = c.in_ok-origin-2.ensures.whole ∙ ap origin_in origin.0 ∙ origin_read turn.origin in
    let same : c.in_ok-origin-2.origin ≡ turn.origin = cc in
    let accepted = is_accepted is in
    elim c.else-is_stimulus.branch [
      | else-is_stimulus-via-then-is_stimulus+else-is_call w ↦
          let is_so = w.is_call.ensures ∙ ap is_call call.1 ∙ accepted.1 in true≢false (sym is_so ∙ w.if-is_call.false)
      | else-is_stimulus-via-else-is_stimulus w ↦
          let is_so = c.is_stimulus.ensures ∙ ap₂ is_stimulus same origin.1 ∙ accepted.0 in true≢false (sym is_so ∙ w.if-is_stimulus.false)
    ]
