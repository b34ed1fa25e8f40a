use Rattle.std.proofs.Common.{append_assoc}
use Rattle.std.proofs.lemmas.Result.{IfOk-weaker}
use Rattle.pictures.proofs.svg.page.pool_columns.linked_title.Goals as goal

pub returns : goal.returns
returns c = IfOk-weaker c.format.result _ _ (λ title is. simp append_assoc is) c.format.ensures.ok
