use Rattle.std.proofs.Common.{◌∙◌, refl}
use Rattle.mote_session.proofs.Keeping.{keeps}
use Rattle.mote_session.proofs.session.Session.over.Goals as goal

pub returns-clause-history : goal.returns-clause-history
returns-clause-history c =
    let made = c.of.ensures in
    keeps c.histories_keep_promise.ensures (record {
      bootable = c.requires.bootable;
      stands = rw (made.2) (rw (made.0) (rw (c.requires.machine) (λ says answers. (0, refl))));
      inputs = made.1 ∙ c.requires.inputs;
      last = λ none. made.3;
    })
