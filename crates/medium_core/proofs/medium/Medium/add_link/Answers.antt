use Rattle.std.proofs.Common.{◌≡◌, ℕ, zero, suc, ◌<◌, ◌++◌, List, [], ◌∷◌, length, get_or, set, ap, sym, refl, ◌∙◌, arith}
use Rattle.std.proofs.lemmas.List.{map-set}
use Rattle.std.specs.Global.{Vec}
use Rattle.medium_core.specs.Air.{Air, with_link}
use Rattle.medium_core.specs.Code.Airs.{link_lists}
use Rattle.medium_core.specs.Code.Queue.{Queue}
use Rattle.medium_core.specs.declared.link.Link.{Link}
use Rattle.medium_core.proofs.medium.Medium.add_link.Goals as goal
use Rattle.medium_core.proofs.medium.Medium.add_link.Goals.{in-Ok, in-Err}

own_items : (lists : List (Vec Link)) (i : ℕ) (d : Vec Link) → i < length lists → get_or (link_lists lists) i [] ≡ (get_or lists i d).items
own_items [] i d h = absurd (omega arith)
own_items (x ∷ lists) zero d h = refl
own_items (x ∷ lists) (suc i) d h = own_items lists i d (omega arith)

set_same : (lists : List (List Link)) (i : ℕ) → set lists i (get_or lists i []) ≡ lists
set_same [] i = refl
set_same (x ∷ lists) zero = refl
set_same (x ∷ lists) (suc i) = ap (λ (l : List (List Link)). x ∷ l) (set_same lists i)

air : ℕ → List (List Link) → Queue → Air
air clock links queue = record { clock = clock; room = queue.room; links = links; flights = queue.flights }

added_at : (clock from : ℕ) (lists : List (Vec Link)) (own written : Vec Link) (link : Link) (queue : Queue) →
    from < length lists → own ≡ get_or lists from own → written.items ≡ own.items ++ link ∷ [] →
    air clock (link_lists (set lists from written)) queue ≡ with_link from link (air clock (link_lists lists) queue)
unfolding air
added_at clock from lists own written link queue h here more =
    let e : get_or (link_lists lists) from [] ≡ own.items = own_items lists from own h ∙ ap (λ (v : Vec Link). v.items) (sym here) in
    let m = map-set (λ (v : Vec Link). v.items) lists from written in
    rw (e, m, more) refl

same_at : (clock from : ℕ) (lists : List (Vec Link)) (own written : Vec Link) (queue : Queue) →
    from < length lists → own ≡ get_or lists from own → written.items ≡ own.items →
    air clock (link_lists (set lists from written)) queue ≡ air clock (link_lists lists) queue
unfolding air
same_at clock from lists own written queue h here same =
    let e : get_or (link_lists lists) from [] ≡ own.items = own_items lists from own h ∙ ap (λ (v : Vec Link). v.items) (sym here) in
    let m = map-set (λ (v : Vec Link). v.items) lists from written in
    ap (λ (l : List (List Link)). air clock l queue) (m ∙ (ap (set (link_lists lists) from) (same ∙ sym e) ∙ set_same (link_lists lists) from))

pub returns-clause-added : goal.returns-clause-added
unfolding air
returns-clause-added c =
    elim c.match-push.branch [
      | in-Ok w ↦
          rw w.result-is
          (added_at c.self.inside.clock c.args.from c.self.inside.links.items c.index_mut.result.now c.push.new.self c.args.link
          c.self.inside.flights (omega arith) c.index_mut.ensures.value w.in-Ok.ensures.items
          ∙ ap (with_link c.args.from c.args.link) c.self.view_is)
      | in-Err w ↦ rw w.result-is tt
    ]

pub returns-clause-refused : goal.returns-clause-refused
unfolding air
returns-clause-refused c =
    elim c.match-push.branch [
      | in-Ok w ↦ rw w.result-is tt
      | in-Err w ↦
          rw w.result-is
          (same_at c.self.inside.clock c.args.from c.self.inside.links.items c.index_mut.result.now c.push.new.self
          c.self.inside.flights (omega arith) c.index_mut.ensures.value w.in-Err.ensures.items
          ∙ c.self.view_is)
    ]
