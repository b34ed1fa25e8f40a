use Rattle.std.proofs.Common.{◌≡◌, ◌∙◌, ◌<◌, [], ◌++◌, ◌∷◌, length, sym, ap, arith}
use Rattle.std.proofs.lemmas.List.{length-map, get_or-map}
use Rattle.pictures.specs.declared.facts.chains.Chain.{Chain}
use Rattle.pictures.specs.Chains.{blocks_after}
use Rattle.pictures.specs.Chains.AreChains.{more}
use Rattle.pictures.specs.Lists.{changed}
use Rattle.pictures.proofs.Chained.{set_blocks}
use Rattle.pictures.proofs.facts.chains.Lists.carry_out.Goals as goal

pub invariant_of-self-2 : goal.invariant_of-self-2
invariant_of-self-2 c =
    let lists = c.self.inside.lists.items in
    let chains = c.self.inside.chains.items in
    let list = c.in-Some.list in
    let chain : Chain = record { line = c.args.line; list = list; blocks = c.carry_out.new.blocks } in
    let pushed : c.push.new.self.items ≡ chains ++ chain ∷ [] = c.in_ok-push.ensures.items in
    let has = c.self.invariant.0 in
    let there : list < length lists = omega (arith, c.len.ensures, c.if-list-len.false) in
    let inside : list < 8 = omega (arith, there, has.size, length-map lists (λ blocks. blocks.items)) in
    let before : c.in_ok-blocks.blocks.items ≡ blocks_after list [] chains =
    c.in_ok-blocks.ensures.items ∙ c.as_slice.ensures.value ∙ ap (λ blocks. blocks.items) c.index.ensures
    ∙ sym (get_or-map (λ blocks. blocks.items) lists list c.index.result.now [] there) ∙ has.blocks list inside in
    let change : chain.blocks.items ≡ changed c.in-Some.change (blocks_after list [] chains) =
    c.in_ok-carry_out.ensures ∙ ap (changed c.in-Some.change) before in
    let kept : c.in_ok-kept.kept.items ≡ chain.blocks.items = c.in_ok-kept.ensures.items ∙ c.as_slice-2.ensures.value in (
      set_blocks lists c.push.new.self.items c.in_ok-kept.kept chains chain kept pushed has inside,
      rw pushed (more c.self.invariant.1 chain c.in-Some.change inside change),
    )
