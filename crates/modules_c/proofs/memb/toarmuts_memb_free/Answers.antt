use Rattle.std.proofs.Common.{◌∙◌, sym, false, refl, rules}
use Rattle.memb_core.proofs.Blocks.{live_told, told_set, used_below}
use Rattle.modules_c.proofs.memb.toarmuts_memb_free.Goals as goal

pub returns-then-not-is_set-clause-live : goal.returns-then-not-is_set-clause-live
returns-then-not-is_set-clause-live c usable bytes_at = sym (live_told usable bytes_at c.args.used.now c.args.number ∙ search rules)

pub returns-clause-live : goal.returns-clause-live
returns-clause-live c usable bytes_at = sym (live_told usable bytes_at c.args.used.now c.args.number ∙ search rules)

pub returns-clause-block : goal.returns-clause-block
returns-clause-block c same usable bytes_at =
    told_set usable bytes_at c.args.used.now c.args.number bytes_at false
    (used_below c.args.used.now c.args.number (search rules)) (λ c ne. refl)
