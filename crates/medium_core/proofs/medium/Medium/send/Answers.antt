use Rattle.std.proofs.Common.{◌≡◌, ℕ, zero, suc, ◌-◌, ◌<◌, List, [], ◌∷◌, length, get_or, set, ap, sym, refl, ◌∙◌, arith}
use Rattle.std.proofs.lemmas.List.{map-set, with_items_is}
use Rattle.std.specs.Global.{Vec}
use Rattle.std.specs.Vec.{with_items}
use Rattle.arrayvec.specs.ArrayVec.{ArrayVec}
use Rattle.medium_core.specs.Air.{Air, after_frames, begun, sent}
use Rattle.medium_core.specs.Flights.{with_flights}
use Rattle.medium_core.specs.Code.Airs.{link_lists}
use Rattle.medium_core.specs.Code.Queue.{Queue}
use Rattle.medium_core.specs.declared.link.Link.{Link}
use Rattle.medium_core.proofs.Room.{length_after}
use Rattle.medium_core.proofs.medium.Medium.send.Goals as goal

own_items : (lists : List (Vec Link)) (i : ℕ) (d : Vec Link) → i < length lists → get_or (link_lists lists) i [] ≡ (get_or lists i d).items
own_items [] i d h = absurd (omega arith)
own_items (x ∷ lists) zero d h = refl
own_items (x ∷ lists) (suc i) d h = own_items lists i d (omega arith)

air : ℕ → List (List Link) → Queue → Air
air clock links queue = record { clock = clock; room = queue.room; links = links; flights = queue.flights }

sent_at : (clock from : ℕ) (bytes : ArrayVec ℕ) (lists : List (Vec Link)) (own written : Vec Link) (items : List Link) (queue added : Queue) →
    from < length lists → own ≡ get_or lists from own → items ≡ own.items →
    written.items ≡ after_frames (queue.room - length queue.flights) items →
    added ≡ record queue { flights = with_flights (begun (queue.room - length queue.flights) clock from bytes 0 items) queue.flights } →
    air clock (link_lists (set lists from written)) added ≡ sent from bytes (air clock (link_lists lists) queue)
unfolding air
sent_at clock from bytes lists own written items queue added h here is after more =
    let e : get_or (link_lists lists) from [] ≡ items = own_items lists from own h ∙ (ap (λ (v : Vec Link). v.items) (sym here) ∙ sym is) in
    let m = map-set (λ (v : Vec Link). v.items) lists from written in
    rw (e, m, after, more) refl

pub returns-then-from-len : goal.returns-then-from-len
unfolding air
returns-then-from-len c =
    sent_at c.self.inside.clock c.args.from c.args.bytes.now c.self.inside.links.items c.index_mut.result.now
    (with_items c.index_mut.result.now c.send_over.new.links) c.deref_mut.result.now c.self.inside.flights c.send_over.new.flights
    (omega arith) c.index_mut.ensures.value c.deref_mut.ensures.value
    (with_items_is c.index_mut.result.now c.send_over.new.links
    (ap length c.send_over.ensures.links ∙ (length_after _ c.deref_mut.result.now ∙ c.deref_mut.ensures.len)) ∙ c.send_over.ensures.links)
    c.send_over.ensures.flights
    ∙ ap (sent c.args.from c.args.bytes.now) c.self.view_is
