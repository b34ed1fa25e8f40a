use Rattle.std.proofs.lemmas.Result.{err_from_is_err_and}
use Rattle.network_setup.proofs.setup.Setup.take_other_line.Goals as goal

pub returns-in_err-words : goal.returns-in_err-words
returns-in_err-words c =
    let p = err_from_is_err_and c.from_residual.result c.from_residual.ensures.1 in
    rw (p.1, p.2, c.in_err-words.ensures.memory) tt
