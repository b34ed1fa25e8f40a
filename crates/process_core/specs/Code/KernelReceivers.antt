-- The kernel's processes that are the next receivers of a broadcast.
use Rattle.std.specs.Prelude.{ℕ, Bool, false, not, ◌&&◌, ◌==◌, List, ◌∷◌, if◌then◌else◌}
use Rattle.std.specs.List.{list_any}
use Rattle.mote_types.specs.declared.event.Stimulus.{Stimulus}
use Rattle.process_core.specs.Agenda.{Item}
use Rattle.process_core.specs.Processes.{is_kernel_process, is_any_marked}
use Rattle.process_core.specs.Scheduler.{Scheduler}

-- whether an event's code is none of these
abbrev pub is_other_than : List ℕ → ℕ → Bool
is_other_than codes code = not (list_any (λ known. known == code) codes)

-- whether a stimulus is an event with such a code
abbrev pub is_other_event : List ℕ → Stimulus → Bool
is_other_event codes (Stimulus.Event event) = is_other_than codes event.code
is_other_event codes _ = false

-- what is left of the agenda after those of the kernel's processes that are next, each after a poll round, and would get
-- an event with another code than these
abbrev pub behind_kernel_receivers : List ℕ → List Item → List Item
behind_kernel_receivers codes (Item.Polls ∷ Item.Give p origin (Stimulus.Event event) ∷ items) =
    if is_kernel_process p && is_other_than codes event.code
    then behind_kernel_receivers codes items
    else Item.Polls ∷ Item.Give p origin (Stimulus.Event event) ∷ items
behind_kernel_receivers codes items = items

-- they get nothing; where a process is marked nothing is left out, since it would be polled before
abbrev pub kernel_receivers_passed : {X : Type 0} → List ℕ → Scheduler X → Scheduler X
kernel_receivers_passed codes s =
    if is_any_marked s.processes then s else record s { agenda = behind_kernel_receivers codes s.agenda }
