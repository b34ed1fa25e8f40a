use Rattle.heap_core.proofs.Lemmas.{rules, inl, inr, arith, Around, place_cases, free_top, free_gap, behind_gap, above_all, around}
use Rattle.heap_core.proofs.Lemmas.Gaps.{InGap}
use Rattle.heap_core.proofs.region.Region.free_end.Goals as goal
use Rattle.heap_core.proofs.region.Region.free_end.Goals.{Else-target-self}

pub returns-then-target-self : goal.returns-then-target-self
returns-then-target-self c =
    record {
      free = elim (place_cases c.requires.gaps.chunks c.requires.some c.requires.place) [
        | inl top ↦ grind (arith, free_top)
        | inr low ↦ grind arith
      ];
      along = search rules;
      link = grind (arith, above_all);
    }

found : (c : Else-target-self) → (low : InGap c.args.self.now c.args.arena.now.bytes c.args.target c.args.n)
    × Around c.args.self.now c.args.arena.now.bytes low.gap.gap
found c = elim (place_cases c.requires.gaps.chunks c.requires.some c.requires.place)
    [ inl top ↦ absurd (c.if-target-self.false top.at) | inr low ↦ (low, around c.requires.gaps.chunks low.gap.stands) ]

pub len_at-requires-clause-inside : goal.len_at-requires-clause-inside
len_at-requires-clause-inside c =
    let f = found (goal.at.len_at-requires-clause-inside c).Else-target-self in grind (arith, f.0.gap)

pub overflow_add-result : goal.overflow_add-result
overflow_add-result c = let f = found (goal.at.overflow_add-result c).Else-target-self in grind (arith, f.0.gap)

pub link_at-requires-clause-inside : goal.link_at-requires-clause-inside
link_at-requires-clause-inside c =
    let f = found (goal.at.link_at-requires-clause-inside c).Else-target-self in grind (arith, f.0.gap)

pub link_at-requires-clause-free : goal.link_at-requires-clause-free
link_at-requires-clause-free c =
    let f = found (goal.at.link_at-requires-clause-free c).Else-target-self in grind (arith, f.0.gap)

pub returns : goal.returns
returns c =
    let target = c.args.target in
    let f = found (goal.at.returns c).Else-target-self in let a = f.1 in
    record { free = grind (arith, free_gap); along = search rules; link = grind (arith, behind_gap) }
