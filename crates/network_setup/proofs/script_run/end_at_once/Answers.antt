use Rattle.std.proofs.Common.{◌∙◌, drop, refl, take}
use Rattle.std.proofs.lemmas.List.{take-append-drop}
use Rattle.network_setup.proofs.script_run.end_at_once.Goals as goal

pub returns-in-Err-clause-ended : goal.returns-in-Err-clause-ended
returns-in-Err-clause-ended g c = λ named.
    let bytes = c.as_slice.result.now in
    let front = c.in-Err.ensures.prefix named in
    (take front.0 bytes, front.1, (refl, drop front.0 bytes, take-append-drop front.0 bytes ∙ (c.as_slice.ensures.value ∙ c.last_text.ensures)))
