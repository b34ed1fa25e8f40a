use Rattle.std.proofs.Common.{◌∙◌, sym}
use Rattle.memb_core.proofs.Blocks.{unused_count_told}
use Rattle.modules_c.proofs.memb.toarmuts_memb_numfree.Goals as goal

pub returns : goal.returns
returns c usable bytes_at = c.count_unset.ensures ∙ sym (unused_count_told usable bytes_at c.args.used.now)
