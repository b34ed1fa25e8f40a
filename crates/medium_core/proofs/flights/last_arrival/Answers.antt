use Rattle.std.proofs.Common.{◌≡◌, ℕ, ◌-◌, length, get_or, refl, ap, ◌∙◌, arith}
use Rattle.std.proofs.lemmas.Grind.{common_steps}
use Rattle.std.specs.VecDeque.{deque_len}
use Rattle.medium_core.specs.declared.flight.Flight.{Flight}
use Rattle.medium_core.proofs.Merging.{last_read}
use Rattle.medium_core.proofs.flights.last_arrival.Goals as goal

pub returns-in-Some : goal.returns-in-Some
returns-in-Some c =
    let items = c.args.queue.now.items in
    let last = c.in-Some.last.now in
    let long = c.in-Some.ensures.variant.0 refl in
    let count : deque_len c.args.queue.now ≡ length items = grind (arith, common_steps) in
    ap (λ (f : Flight). f.due) c.in-Some.ensures.lookup
    ∙ (ap (λ (n : ℕ). (get_or items (n - 1) last).due) count ∙ last_read 0 items last (omega (arith, long, count)))
