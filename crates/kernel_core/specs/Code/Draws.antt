-- The number of arming numbers of callback timers that are drawn, and that the expiries in the queue have numbers that were drawn.
use Rattle.std.specs.Prelude.{◌≡◌, ℕ, ◌+◌, ◌≤◌, ◌<◌, Bool, false, ◌&&◌, List, All, if◌then◌else◌, ◌==◌}
use Rattle.mote_types.specs.declared.event.Event.{Event}
use Rattle.mote_types.specs.declared.event.Stimulus.{Stimulus}
use Rattle.mote_types.specs.EventNumbers.{EXITED}
use Rattle.process_core.specs.Agenda.{Queued, Item, Job}
use Rattle.kernel_core.specs.declared.kernel_fields.KernelFields.{KernelFields}
use Rattle.kernel_core.specs.Code.Totals.{total}

-- whether ctimer learns that a process has ended
abbrev pub is_exit_told : ℕ → Event → Bool
is_exit_told p event = p == 1 && event.code == EXITED

-- so each callback timer of that process gets a new number
abbrev pub draws_of_event : ℕ → Event → ℕ
draws_of_event p event = if is_exit_told p event then 4 else 0

abbrev pub draws_of_item : Item → ℕ
draws_of_item (Item.Give p origin (Stimulus.Event event)) = draws_of_event p event
draws_of_item _ = 0

-- the numbers that are drawn where these items are worked off
abbrev pub draws : List Item → ℕ
draws items = total draws_of_item items

-- the numbers that are drawn where the job is done
abbrev pub draws_of_job : Job ℕ → ℕ
draws_of_job (Job.Serve p event) = draws_of_event p event
draws_of_job _ = 0

-- An expiry is that of an application's callback timer, and has a number that was drawn. EXITED is delivered at once and
-- never waits in the queue
abbrev pub IsQueueable : ℕ → Queued ℕ → Type 0
IsQueueable drawn (Queued.To p event) = (event.code == EXITED) ≡ false
IsQueueable drawn (Queued.ToAll event) = (event.code == EXITED) ≡ false
IsQueueable drawn (Queued.Expiry p c arming) = ((4 ≤ p) × (p ≤ 19) × (c < 4)) × (arming < drawn)

-- an expiry that is delivered is fit
abbrev pub IsQueueableJob : ℕ → Job ℕ → Type 0
IsQueueableJob drawn (Job.CallBack p c arming) = IsQueueable drawn (Queued.Expiry p c arming)
IsQueueableJob drawn _ = Unit {0}

-- the numbers that were drawn, and those that will be drawn by what is on the agenda
abbrev pub drawn_in_all : KernelFields → ℕ
drawn_in_all k = k.timers.value.armings.drawn + draws k.scheduler.state.agenda

abbrev pub HasQueueableEvents : KernelFields → Type 0
HasQueueableEvents k = All (IsQueueable k.timers.value.armings.drawn) k.scheduler.state.events

-- the job's number was drawn, as those of the events that wait, and it draws no more than the agenda was to draw
pub record IsFitJob (next : Job ℕ) (old new : KernelFields) : Type 0 where
  pub events : HasQueueableEvents new
  pub draws : drawn_in_all new + draws_of_job next ≤ drawn_in_all old
  pub job : IsQueueableJob old.timers.value.armings.drawn next
