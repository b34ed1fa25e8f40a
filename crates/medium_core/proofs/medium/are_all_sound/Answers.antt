use Rattle.std.proofs.Common.{◌≡◌, Bool, false, ap, sym, ◌∙◌, arith, get_or}
use Rattle.std.proofs.lemmas.Grind.{common_steps}
use Rattle.std.proofs.lemmas.List.Folds.{list_all-map, list_all_at}
use Rattle.std.specs.Global.{Vec}
use Rattle.std.specs.List.{list_all}
use Rattle.medium_core.specs.declared.link.Link.{Link}
use Rattle.medium_core.specs.Links.{is_link}
use Rattle.medium_core.proofs.medium.are_all_sound.Goals as goal

abbrev all_of : Vec Link → Bool
all_of v = list_all is_link v.items

pub returns-then-not-are_sound : goal.returns-then-not-are_sound
returns-then-not-are_sound c =
    let here : all_of c.links-item.result ≡ false = sym (ap (list_all is_link) c.as_slice.ensures.value) ∙ sym c.if-not-are_sound.ensures in
    let there : all_of (get_or c.args.lists.now c.loop-links.links-index c.links-item.result) ≡ false = sym (ap all_of c.links-item.is) ∙ here in
    sym (list_all-map (list_all is_link) (λ (v : Vec Link). v.items) c.args.lists.now
    ∙ list_all_at all_of c.args.lists.now c.loop-links.links-index c.links-item.result (omega (arith, c.loop-links-test.true)) there)

pub returns : goal.returns
returns c =
    let mapped = list_all-map (list_all is_link) (λ (v : Vec Link). v.items) c.args.lists.now in
    let all = c.loop-links.invariant in
    grind (arith, common_steps, mapped)
