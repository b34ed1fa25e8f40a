use Rattle.std.proofs.Common.{inr, rules}
use Rattle.std.proofs.lemmas.Result.{IfOk-weaker}
use Rattle.pictures.proofs.svg.page.memory_columns.draw_heap.Goals as goal

pub returns : goal.returns
returns c =
    let bytes = c.bytes_shown-bytes in
    IfOk-weaker c.draw_heap_column.result _ _ (λ _ is. inr (search rules, (bytes.result, bytes.ensures, is))) c.draw_heap_column.ensures
