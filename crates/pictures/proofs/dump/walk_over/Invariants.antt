use Rattle.std.proofs.Common.{◌≡◌, ◌-◌, get_or, length}
use Rattle.pictures.specs.Code.Dump.{HasRoom, IsCurrent}
use Rattle.pictures.specs.Rows.{bytes_of, text_at}
use Rattle.pictures.proofs.Told.{IsInStep}
use Rattle.pictures.proofs.dump.walk_over.Given as goal

abbrev pub invariant-loop-index : goal.invariant-loop-index
invariant-loop-index l = record {
  clock : l.walk.clock ≡ get_or l.clocks (l.index - 1) 0;
  scale : l.walk.scale ≡ l.initial.walk.scale;
  first : l.walk.dump.first ≡ l.initial.walk.dump.first;
  current : IsCurrent l.walk;
  told : HasRoom (λ line. get_or l.clocks line 0) l.initial.walk.scale.units (length l.clocks)
      → IsInStep (λ line. get_or l.clocks line 0) l.initial.walk.scale.units (text_at (bytes_of l.lines)) l.index l.walk;
}
