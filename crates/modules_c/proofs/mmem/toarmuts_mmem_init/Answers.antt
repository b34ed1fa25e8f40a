use Rattle.std.proofs.Common.{◌≡◌, replicate, length, ap, sym, subst, ◌∙◌, rules, List}
use Rattle.modules_c.specs.Mmem.Stored.{stored, IsTable}
use Rattle.modules_c.specs.declared.mmem.block.Block.{Block}
use Rattle.modules_c.proofs.MmemStores.{store_unused, table_unused}
use Rattle.modules_c.proofs.mmem.toarmuts_mmem_init.Goals as goal

pub returns-clause-store : goal.returns-clause-store
returns-clause-store c buffer =
    let count = length c.args.blocks.now in
    let all : c.fill.new.self ≡ replicate count (record { offset = 0; size = 0 }) = search rules in
    ap (λ (table : List Block). stored table buffer) all ∙ store_unused count buffer

pub returns-clause-table : goal.returns-clause-table
returns-clause-table c capacity =
    let count = length c.args.blocks.now in
    let all : c.fill.new.self ≡ replicate count (record { offset = 0; size = 0 }) = search rules in
    subst (λ (table : List Block). IsTable table capacity) (sym all) (table_unused count capacity)
