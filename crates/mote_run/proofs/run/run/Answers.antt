use Rattle.std.proofs.Common.{ap, refl}
use Rattle.kernel_core.specs.Mote.{Mote}
use Rattle.std.proofs.lemmas.Result.{IfOk-from_err}
use Rattle.mote_run.proofs.Pieces.{not_read}
use Rattle.mote_run.proofs.Promise.{boots_so, closed, promised, ran_failed}
use Rattle.mote_run.proofs.run.run.Goals as goal

pub returns-in_err-end-clause-promise : goal.returns-in_err-end-clause-promise
returns-in_err-end-clause-promise g c = λ s k config boots.
    let ran = rw (c.new-mote.ensures.text, ap (λ (m : Mote). m.machine) c.new-mote.ensures.kernel, boots) at (c.in_err-end.ensures.ran s k) in
    let further = rw (c.new-mote.ensures.text, ap (λ (m : Mote). m.machine) c.new-mote.ensures.kernel, boots) at (c.in_err-end.ensures.no_further s k) in
    promised (ran_failed c.from_residual.ensures.0 c.from_residual.ensures.1 ran.2)
    (c.runs_keep_laws.ensures.laws config (boots_so config c.requires.booted boots)) ran.1 further

pub returns-in_err-close-clause-promise : goal.returns-in_err-close-clause-promise
returns-in_err-close-clause-promise g c = λ s k config boots.
    let ran = rw (c.new-mote.ensures.text, ap (λ (m : Mote). m.machine) c.new-mote.ensures.kernel, boots) at (c.in_ok-end.ensures.ran s k) in
    let further = rw (c.new-mote.ensures.text, ap (λ (m : Mote). m.machine) c.new-mote.ensures.kernel, boots) at (c.in_ok-end.ensures.no_further s k) in
    let answer = c.from_residual-in_err-close.result in
    promised (closed ran.2 (c.in_err-close.ensures.writes k).1
    (not_read answer c.from_residual-in_err-close.ensures.1)
    (IfOk-from_err answer _ c.from_residual-in_err-close.ensures.0))
    (c.runs_keep_laws.ensures.laws config (boots_so config c.requires.booted boots)) ran.1 further

pub returns-clause-promise : goal.returns-clause-promise
returns-clause-promise g c = λ s k config boots.
    let ran = rw (c.new-mote.ensures.text, ap (λ (m : Mote). m.machine) c.new-mote.ensures.kernel, boots) at (c.in_ok-end.ensures.ran s k) in
    let further = rw (c.new-mote.ensures.text, ap (λ (m : Mote). m.machine) c.new-mote.ensures.kernel, boots) at (c.in_ok-end.ensures.no_further s k) in
    promised (closed ran.2 (c.in_ok-close.ensures.writes k) (λ is. absurd (cc)) (c.in_ok-close.ensures.empty, refl))
    (c.runs_keep_laws.ensures.laws config (boots_so config c.requires.booted boots)) ran.1 further
