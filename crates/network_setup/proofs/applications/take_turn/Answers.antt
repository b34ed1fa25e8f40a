use Rattle.std.proofs.Common.{◌∙◌, [], ◌∷◌, ap, sym}
use Rattle.mote_types.proofs.Voices.{says_of_at, says_of_set, says_of_set_other}
use Rattle.network_setup.specs.MoteApps.{mote_app_says}
use Rattle.network_setup.specs.declared.mote_app.MoteApp.{MoteApp}
use Rattle.network_setup.proofs.applications.take_turn.Goals as goal

pub returns-clause-made : goal.returns-clause-made
returns-clause-made c =
    let items = c.args.applications.now.items in
    c.turn_into.ensures.answer
    ∙ (ap (λ (app : MoteApp). mote_app_says app (c.args.stimulus.now ∷ [])) c.index_mut.ensures.value
    ∙ sym (says_of_at mote_app_says items c.args.pid.0 c.index_mut.result.now _ c.requires.application c.requires.present))

pub returns-clause-law : goal.returns-clause-law
returns-clause-law c = λ next later.
    let items = c.args.applications.now.items in
    says_of_set mote_app_says items c.args.pid.0 c.turn_into.new.self _ c.requires.application c.requires.present
    ∙ (c.turn_into.ensures.law next later
    ∙ (ap (λ (app : MoteApp). mote_app_says app (c.args.stimulus.now ∷ next ∷ later)) c.index_mut.ensures.value
    ∙ sym (says_of_at mote_app_says items c.args.pid.0 c.index_mut.result.now _ c.requires.application c.requires.present)))

pub returns-clause-others : goal.returns-clause-others
returns-clause-others c = λ p stimuli apart.
    says_of_set_other mote_app_says c.args.applications.now.items p c.args.pid.0 c.turn_into.new.self stimuli c.requires.application apart
