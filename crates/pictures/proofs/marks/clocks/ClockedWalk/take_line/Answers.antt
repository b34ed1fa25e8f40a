use Rattle.std.proofs.Common.{◌∙◌, unwrap_or, refl, ap, arith}
use Rattle.pictures.proofs.Clocks.{clock_more}
use Rattle.pictures.proofs.marks.clocks.ClockedWalk.take_line.Goals as goal

pub returns-clause-clock : goal.returns-clause-clock
returns-clause-clock c = λ so_far.
    let here = c.ticks_of.ensures ∙ ap (λ ticks. unwrap_or ticks 0) c.read_line-line.ensures.ticks in
    c.note.ensures.clock ∙ c.saturating_add-clock.ensures
    ∙ clock_more c.args.lines.now c.args.number c.args.self.now.clock c.ticks_of.result _ refl
    (omega (arith, c.if-number-lines.false)) so_far here
