use Rattle.heap_core.proofs.Lemmas.{[], ◌∷◌, ◌-◌, ◌≤◌, refl, arith, None, LeavesGap, lengths, ended}
use Rattle.heap_core.proofs.region.Region.leave.Goals as goal
use Rattle.heap_core.proofs.region.Region.leave.Goals.{Else-from-end}

pub returns-then-end-self-clause-left : goal.returns-then-end-self-clause-left
returns-then-end-self-clause-left c =
    let heap = c.args.self.now in record {
      mid = [];
      to = c.args.from;
      told = refl;
      changes = grind arith;
      linked = refl;
      count = omega arith;
      free = λ other. refl;
      behind = λ other behind told ends joined. (
          grind (arith, ended heap.header other heap.span.at c.args.end heap.footprint behind told (omega arith)));
    }

pub returns-then-from-end-clause-left : goal.returns-then-from-end-clause-left
returns-then-from-end-clause-left c = grind arith

long : (c : Else-from-end) → LeavesGap c.args.self.now.header c.args.from c.args.end × (16 ≤ c.args.end - c.args.from)
long c = grind (arith, lengths c.args.self.now)

pub overflow_sub-end : goal.overflow_sub-end
overflow_sub-end c = grind arith

pub put_chunk-requires-clause-inside : goal.put_chunk-requires-clause-inside
put_chunk-requires-clause-inside c = omega (arith, (long (goal.at.put_chunk-requires-clause-inside c).Else-from-end).1)

pub returns-clause-left : goal.returns-clause-left
returns-clause-left c =
    let heap = c.args.self.now in let b = heap.span.at in let l = long (goal.at.returns-clause-left c).Else-from-end in
    record {
      mid = (record { at = c.args.from; len = c.args.end - c.args.from; owner = None; size = 0; link = c.args.link }) ∷ [];
      to = c.args.end;
      told = grind arith;
      changes = grind arith;
      linked = (refl, refl);
      count = omega arith;
      free = λ other. refl;
      behind = grind arith;
    }

pub returns-clause-first : goal.returns-clause-first
returns-clause-first c = grind arith

pub returns-clause-rest : goal.returns-clause-rest
returns-clause-rest c =
    grind (arith, long (goal.at.returns-clause-rest c).Else-from-end)
