use Rattle.std.proofs.Common.{ap, sym, subst, ◌∙◌, ◌∷◌, List}
use Rattle.std.proofs.lemmas.Option.{IfSome_then}
use Rattle.medium_core.specs.declared.flight.Flight.{Flight}
use Rattle.medium_core.specs.Code.Queue.{HasRoom, Queue}
use Rattle.medium_core.proofs.Merging.{queue_left, room_left}
use Rattle.medium_core.proofs.flights.Flights.take_next.Goals as goal

pub invariant_of-self : goal.invariant_of-self
invariant_of-self c =
    let popped = c.pop_front-flight in
    record {
      has_room =
          c.put_in_turn.ensures.room _
          (subst (λ n. HasRoom c.self.inside.room n c.self.inside.overtaking popped.new.self.items) (sym popped.ensures.capacity)
          (room_left popped.result _ _ c.self.inside.overtaking c.self.inside.queue.items _ popped.ensures.items c.self.invariant.first
          c.self.invariant.has_room));
      first = c.put_in_turn.ensures.in_turn;
    }

pub returns-clause-some : goal.returns-clause-some
returns-clause-some c =
    IfSome_then c.pop_front-flight.result
    (queue_left c.pop_front-flight.result c.self.inside.overtaking.flights c.self.inside.queue.items c.pop_front-flight.new.self.items c.pop_front-flight.ensures.items
    c.self.invariant.has_room.heap_order c.self.invariant.first)
    (λ flight e. sym (ap (λ (q : Queue). q.flights) c.self.view_is) ∙ (e ∙ ap (λ (l : List Flight). flight ∷ l) (sym c.put_in_turn.ensures.same)))
