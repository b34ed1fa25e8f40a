use Rattle.std.proofs.Common.{◌≢◌, ◌-◌, ◌∙◌, sym, arith}
use Rattle.mote_types.proofs.Voices.{says_of_at, says_of_set, says_of_set_other, slice_get_set_other}
use Rattle.mote_types.proofs.ask.ask.Goals as goal

pub returns-clause-answer : goal.returns-clause-answer
returns-clause-answer g c =
    c.ask_box.ensures.answer
    ∙ sym (says_of_at _ c.args.apps.now c.args.pid.0 c.index-apps-pid.result _ c.requires.application c.requires.present)

pub returns-clause-law : goal.returns-clause-law
returns-clause-law g c = λ next later.
    says_of_set _ c.args.apps.now c.args.pid.0 c.ask_box.new.app _ c.requires.application c.requires.present
    ∙ (c.ask_box.ensures.law next later
    ∙ sym (says_of_at _ c.args.apps.now c.args.pid.0 c.index-apps-pid.result _ c.requires.application c.requires.present))

pub returns-clause-silent : goal.returns-clause-silent
returns-clause-silent g c = λ p l apart.
    says_of_set_other _ c.args.apps.now p c.args.pid.0 c.ask_box.new.app l c.requires.application apart

pub returns-clause-others : goal.returns-clause-others
returns-clause-others g c = λ p least apart.
    let far : p - 4 ≢ c.args.pid.0 - 4 = λ same. apart (omega (arith, same, least, c.requires.application)) in
    slice_get_set_other c.args.apps.now (c.args.pid.0 - 4) (p - 4) c.ask_box.new.app far
