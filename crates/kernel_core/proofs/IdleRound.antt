-- A round in which only etimer acts, and finds no due timer.
use Rattle.std.proofs.Common.{◌≡◌, ℕ, ◌+◌, ◌==◌, Bool, true, false, refl, ap, arith, subst, is_some}
use Rattle.kernel_core.proofs.Common.{decide, IsInOrder, length-map, POLL, plain_event, Job, is_idle, unmarked, IsLonePoll, Scheduler, carrying, awaiting_nothing, first_due, KernelFields, machine_of, no_pending_entries, is_cancelled, serve, Machine, free_places, Choices, silent, work_limit, ComesTo, GoesSilently, polled_alone, post_first_due, is_any_due, Entry}
use Rattle.kernel_core.specs.Code.IdleRound.{RestsAfter}
use Rattle.kernel_core.specs.Inputs.{effect}
use Rattle.mote_types.specs.declared.entry.Input.{Input}
use Rattle.process_core.specs.Scheduler.{marked}
use Rattle.kernel_core.proofs.Leftover.{due_stops}
use Rattle.kernel_core.proofs.Reaching.{entry_comes_first, fields_go, fields_reach, then_job, job_silently}
use Rattle.kernel_core.proofs.Silent.{goes_on}
use Rattle.kernel_core.proofs.Repeating.{times_same}

-- if no timer is due, etimer's POLL changes nothing
nothing_posted : (m : Machine) → is_any_due m ≡ false → serve 0 (plain_event POLL) m ≡ m
nothing_posted m none = rw (times_same (free_places m) post_first_due m (due_stops m none), none) refl

idle_carrying : (f : ℕ → ℕ → ℕ → Bool) (s : Scheduler ℕ) → is_idle s ≡ true → is_idle (carrying f s) ≡ true
idle_carrying f s idle = simp length-map idle

pub order_polled : (k : KernelFields) → IsInOrder k → (k.work == work_limit) ≡ false
    → IsInOrder (record k { work = k.work + 1; scheduler = record k.scheduler { state = polled_alone 0 k.scheduler.state } })
order_polled k order room = record {
  work = grind decide;
  applications = order.applications;
  few = order.few;
  idle = order.idle;
  clock = order.clock;
  inputs = order.inputs;
  events = order.events;
  frames = order.frames;
  owners = order.owners;
  draws = omega arith;
}

module _ (choices : Choices) where
  -- such a round is passed: only the delivery is left
  pub poll_passed : (k : KernelFields) → k.halted ≡ false → k.pending ≡ no_pending_entries → (k.work == work_limit) ≡ false
      → is_some (first_due k.clock k.timers.value.timers) ≡ false → IsLonePoll 0 k.scheduler.state
      → GoesSilently choices (machine_of k)
      (machine_of (record k { work = k.work + 1; scheduler = awaiting_nothing (polled_alone 0 k.scheduler.state) k.scheduler.kept }))
  poll_passed k running shown room none lone =
      let counted = record (record k { scheduler = awaiting_nothing lone.begun k.scheduler.kept }) { work = k.work + 1 } in
      let served = record counted { scheduler = awaiting_nothing lone.served k.scheduler.kept } in
      goes_on (job_silently (then_job (job_silently (fields_reach choices k
      (awaiting_nothing lone.begun k.scheduler.kept) Job.Round running shown lone.round) (rw room refl))
      (fields_reach choices counted (awaiting_nothing lone.served k.scheduler.kept) (Job.Serve 0 (plain_event POLL)) running shown lone.poll))
      (ap silent (nothing_posted (machine_of served) none))) (fields_go choices served
      (awaiting_nothing (polled_alone 0 k.scheduler.state) k.scheduler.kept) running shown lone.over)

  -- a tick at rest that makes no timer due: its entry, then such a round
  pub idle_tick : (k : KernelFields) (n : ℕ) → k.halted ≡ false → k.pending ≡ no_pending_entries
      → is_some (first_due (k.clock + n) k.timers.value.timers) ≡ false → IsLonePoll 0 (marked 0 k.scheduler.state)
      → ComesTo (polled_alone 0 (marked 0 k.scheduler.state)) Job.Rest (unmarked 0 (marked 0 k.scheduler.state))
      → unmarked 0 (marked 0 k.scheduler.state) ≡ k.scheduler.state → is_idle k.scheduler.state ≡ true
      → RestsAfter choices (Input.Tick n) (machine_of k) (machine_of (record k { clock = k.clock + n; work = 1; inputs = k.inputs + 1 }))
  idle_tick k n running shown none lone rest same idle =
      let handed = record k { clock = k.clock + n; work = 0; scheduler = awaiting_nothing (marked 0 k.scheduler.state) k.scheduler.kept } in
      record {
        accepted = machine_of handed;
        entry = entry_comes_first (Entry.Input (Input.Tick n)) (effect (Input.Tick n) (record (machine_of k) { work = 0 }))
            (machine_of handed) refl running;
        running = running;
        rest = record {
          before =
              job_silently (then_job (poll_passed handed running shown refl none lone)
              (fields_reach choices (record handed { work = 1; scheduler = awaiting_nothing (polled_alone 0 (marked 0 k.scheduler.state)) k.scheduler.kept })
              (awaiting_nothing k.scheduler.state k.scheduler.kept) Job.Rest running shown
              (subst (λ s. ComesTo (polled_alone 0 (marked 0 k.scheduler.state)) Job.Rest s) same rest))) refl;
          at_rest = rw (running, shown) (idle_carrying (is_cancelled k.timers.value.armings) k.scheduler.state idle);
        };
      }
