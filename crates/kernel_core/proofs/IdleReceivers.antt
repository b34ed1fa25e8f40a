-- Kernel processes that ignore an event are passed without an entry.
use Rattle.std.proofs.Common.{◌≡◌, ℕ, ◌≤◌, Bool, true, false, List, ◌∷◌, refl, ap, arith}
use Rattle.kernel_core.proofs.Common.{decide, Event, Origin, Stimulus, Item, is_any_marked, is_kernel_process, Scheduler, KernelFields, starts, present, draws, machine_of, no_pending_entries, IsInOrder, serve, Machine, scheduled, Choices, silent, GoesSilently}
use Rattle.process_core.specs.Code.KernelReceivers.{behind_kernel_receivers, is_other_than, kernel_receivers_passed}
use Rattle.kernel_core.specs.Code.IdleReceivers.{kernel_events}
use Rattle.kernel_core.proofs.Silent.{goes_on, silent_step, silently_here}

-- kernel processes ignore other events
serve_idle : (p : ℕ) (event : Event) (m : Machine) → is_other_than kernel_events event.code ≡ true → serve p event m ≡ m
serve_idle = grind decide

abbrev with_agenda : List Item → Machine → Machine
with_agenda items = scheduled (λ s. record s { agenda = items })

-- a receiver's items, before these
abbrev receiver_first : ℕ → Origin → Event → List Item → List Item
receiver_first p origin event items = Item.Polls ∷ Item.Give p origin (Stimulus.Event event) ∷ items

-- neither the poll round before a receiver nor the event does anything
module _ (choices : Choices) (m : Machine) (running : m.is_halted ≡ false)
    (unmarked : is_any_marked m.scheduler.processes ≡ false) where
  abbrev IsPassed : List Item → Type 0
  IsPassed items = GoesSilently choices (with_agenda items m) (with_agenda (behind_kernel_receivers kernel_events items) m)

  passed_silently : (items : List Item) → IsPassed items
  passed_silently (Item.Polls ∷ Item.Give p origin (Stimulus.Event event) ∷ items) =
      split (is_kernel_process p) refl (is_other_than kernel_events event.code) refl (passed_silently items)
    where
      split : (kernel : Bool) → is_kernel_process p ≡ kernel → (b : Bool) → is_other_than kernel_events event.code ≡ b
          → IsPassed items → IsPassed (receiver_first p origin event items)
      split true k true e rest =
          let given = with_agenda (Item.Give p origin (Stimulus.Event event) ∷ items) m in
          let served = with_agenda items m in
          rw (k, e) (goes_on (silent_step {b = given} (rw (running, unmarked) refl))
          (goes_on (silent_step {a = given} {b = served} (rw (running, k)
          (ap silent (serve_idle p event (record served { is_halted = false }) e)))) rest))
      split true k false e rest = rw (k, e) (silently_here _)
      split false k b e rest = rw k (silently_here _)
  passed_silently _ = silently_here _

abbrev passed : KernelFields → KernelFields
passed k = record k { scheduler = record k.scheduler { state = kernel_receivers_passed kernel_events k.scheduler.state } }

pub receivers_passed : (choices : Choices) (k : KernelFields) → k.halted ≡ false → k.pending ≡ no_pending_entries
    → GoesSilently choices (machine_of k) (machine_of (passed k))
receivers_passed choices k running shown = split (is_any_marked k.scheduler.state.processes) refl
  where
    split : (b : Bool) → is_any_marked k.scheduler.state.processes ≡ b
        → GoesSilently choices (machine_of k) (machine_of (passed k))
    split true e = rw e (silently_here (machine_of k))
    split false e =
        rw (e, shown) (passed_silently choices (machine_of (record k { pending = no_pending_entries })) running e k.scheduler.state.agenda)

module _ (codes : List ℕ) where
  -- passing receivers starts no process and draws no more

  starts_behind : (items : List Item) → starts (behind_kernel_receivers codes items) ≡ starts items
  starts_behind (Item.Polls ∷ Item.Give p origin (Stimulus.Event event) ∷ items) =
      grind (arith, starts_behind items)
  starts_behind _ = refl

  draws_behind : (items : List Item) → draws (behind_kernel_receivers codes items) ≤ draws items
  draws_behind (Item.Polls ∷ Item.Give p origin (Stimulus.Event event) ∷ items) =
      grind (decide, draws_behind items)
  draws_behind _ = omega arith

pub present_passed : (s : Scheduler ℕ) → present (kernel_receivers_passed kernel_events s) ≡ present s
present_passed s = grind (arith, starts_behind kernel_events s.agenda)

pub order_passed : (k : KernelFields) → IsInOrder k → IsInOrder (passed k)
order_passed k order = grind (decide, draws_behind)
