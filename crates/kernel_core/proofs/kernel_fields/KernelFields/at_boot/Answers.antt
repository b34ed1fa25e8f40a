use Rattle.std.proofs.Common.{rules, refl, ◌≡◌}
use Rattle.kernel_core.proofs.Common.{no_timers, range_with_len, Item, no_pending_entries}
use Rattle.device_core.specs.PacketQueue.{no_packets}
use Rattle.kernel_core.specs.Code.Draws.{draws_of_item}
use Rattle.kernel_core.proofs.Totals.{total-none}
use Rattle.kernel_core.proofs.kernel_fields.KernelFields.at_boot.Goals as goal

pub returns : goal.returns
returns c =
    let packets : c.new.result ≡ no_packets = search rules in
    let pending : c.none.result ≡ no_pending_entries = search rules in
    let timers : c.args.tables.timers.value.timers ≡ no_timers = rw c.requires.tables.unarmed refl in
    let starts = total-none draws_of_item (λ p. Item.Start p) (range_with_len 4 c.args.config.apps) (λ p. refl) in
    record {
      machine =
          rw c.requires.tables.fresh (rw c.requires.scheduler (rw timers (rw c.requires.serial (rw packets (rw pending refl)))));
      order = rw (c.requires.tables.fresh, packets) (search (rules, starts));
      inputs = refl;
    }
