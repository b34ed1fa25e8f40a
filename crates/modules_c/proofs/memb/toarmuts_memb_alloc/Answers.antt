use Rattle.std.proofs.Common.{◌∙◌, sym, true, refl}
use Rattle.memb_core.proofs.Blocks.{first_unused_told, told_set}
use Rattle.modules_c.proofs.memb.toarmuts_memb_alloc.Goals as goal

pub returns-in-Some-clause-number : goal.returns-in-Some-clause-number
returns-in-Some-clause-number c below usable bytes_at = first_unused_told usable bytes_at c.args.used.now ∙ sym c.in-Some.ensures

pub returns-in-Some-clause-block : goal.returns-in-Some-clause-block
returns-in-Some-clause-block c below usable bytes_at is_zeros =
    let is = told_set usable bytes_at c.args.used.now c.in-Some.number bytes_at true below (λ c ne. refl) in cc

pub returns-in-None-clause-full : goal.returns-in-None-clause-full
returns-in-None-clause-full c same usable bytes_at = first_unused_told usable bytes_at c.args.used.now ∙ sym c.in-None.ensures
