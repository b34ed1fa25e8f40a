-- Events with which none of the kernel's processes does anything.
use Rattle.std.specs.Prelude.{ℕ, List, [], ◌∷◌}
use Rattle.mote_types.specs.EventNumbers.{POLL, CONTINUE, EXITED}
use Rattle.process_core.specs.Code.KernelReceivers.{kernel_receivers_passed}
use Rattle.process_core.specs.Scheduler.{Scheduler}
use Rattle.kernel_core.specs.declared.call_kind.CallKind.{CallKind}

-- the codes of the events with which one of the kernel's processes does something
abbrev pub kernel_events : List ℕ
kernel_events = POLL ∷ CONTINUE ∷ EXITED ∷ []

-- after a wait, those of the kernel's processes that would get another event next are passed
abbrev pub idle_receivers_passed : {X : Type 0} → CallKind → Scheduler X → Scheduler X
idle_receivers_passed CallKind.Wait s = kernel_receivers_passed kernel_events s
idle_receivers_passed _ s = s
