use Rattle.heap_core.proofs.Lemmas.{refl, sym, ◌∙◌, subst, arith, chunks_of, LinkedTo, LinkChanged, None, linked_append, linked_none, no_last, link_changed, around, IsGapOf}
use Rattle.heap_core.proofs.region.Region.link_below.Goals as goal
use Rattle.heap_core.proofs.region.Region.link_below.Goals.{In-Some}

gap_stands : (c : In-Some) → IsGapOf (chunks_of c.args.self.now c.args.arena.now.bytes) c.in-Some.gap
gap_stands c = grind arith

pub put_link-requires : goal.put_link-requires
put_link-requires c =
    grind (arith, around c.requires.chunks (gap_stands (goal.at.put_link-requires c).In-Some).0)

pub returns-in-Some-clause-relinked : goal.returns-in-Some-clause-relinked
returns-in-Some-clause-relinked c =
    let heap = c.args.self.now in let s = gap_stands (goal.at.returns-in-Some-clause-relinked c).In-Some in
    subst (λ last. LinkChanged heap heap c.args.arena.now.bytes c.put_link.new.arena.bytes last c.args.first) (sym c.in-Some.is)
    (link_changed (around c.requires.chunks s.0) c.args.first s.1 c.put_link.ensures.chunk c.put_link.ensures.others)

pub returns-in-Some-clause-rest : goal.returns-in-Some-clause-rest
returns-in-Some-clause-rest c =
    grind (arith, around c.requires.chunks (gap_stands (goal.at.returns-in-Some-clause-rest c).In-Some).0)

pub returns-in-None-clause-relinked : goal.returns-in-None-clause-relinked
unfolding chunks_of
returns-in-None-clause-relinked c = record {
  chunks = grind arith;
  block = refl;
  stands = λ other h. h;
  linked = λ before behind end is last linked later. (
      subst (λ k. LinkedTo c.args.first k None) (sym is)
      (linked_append c.args.first c.args.first None before behind (linked_none c.args.first before
      (no_last before (sym last ∙ c.in-None.is))) later));
  gaps = refl;
  count = refl;
}
