-- The process list: the processes that are on it, the head first, with what each of them is doing.
use Rattle.std.specs.Prelude.{ℕ, ◌+◌, [], ◌∷◌, Bool, true, false, not, ◌&&◌, List, map, filter, find, if◌then◌else◌, ◌==◌, nat_le, nat_lt}
use Rattle.std.specs.List.{list_any}
use Rattle.std.specs.Option.{option_map_or}
use Rattle.mote_types.specs.Kinds.{ProcessNumber}
use Rattle.mote_types.specs.Limits.{etimer_process, ctimer_process, serial_line_process, packet_process, first_application}
use Rattle.process_core.specs.declared.state.State.{State}
use Rattle.process_core.specs.declared.process.Process.{Process}

abbrev pub is_process : ProcessNumber → Process → Bool
is_process p process = process.number == p

abbrev pub is_kernel_process : ProcessNumber → Bool
is_kernel_process p = nat_lt p first_application

abbrev pub numbers : List Process → List ProcessNumber
numbers list = map (λ process. process.number) list

abbrev pub state_of : ProcessNumber → List Process → State
state_of p list = option_map_or (λ process. process.state) (find (is_process p) list) State.Absent

abbrev pub is_marked : ProcessNumber → List Process → Bool
is_marked p list = list_any (λ process. is_process p process && process.marked) list

abbrev pub is_any_marked : List Process → Bool
is_any_marked list = list_any (λ process. process.marked) list

abbrev pub changed : ProcessNumber → (Process → Process) → List Process → List Process
changed p change list = map (λ process. if is_process p process then change process else process) list

abbrev pub with_state : ProcessNumber → State → List Process → List Process
with_state p state list = changed p (λ process. record process { state = state }) list

abbrev pub with_mark : ProcessNumber → Bool → List Process → List Process
with_mark p marked list = changed p (λ process. record process { marked = marked }) list

abbrev pub without : ProcessNumber → List Process → List Process
without p list = filter (λ process. not (is_process p process)) list

abbrev pub is_on_list : State → Bool
is_on_list State.Absent = false
is_on_list _ = true

-- whether it may be polled: it runs, or is in its own activation
abbrev pub is_alive : State → Bool
is_alive State.Running = true
is_alive State.Called = true
is_alive _ = false

abbrev pub is_running : State → Bool
is_running State.Running = true
is_running _ = false

abbrev pub is_ending : State → Bool
is_ending State.Ending = true
is_ending _ = false

-- the kernel's processes, which are always on the list
abbrev pub at_first : List Process
at_first =
    map (λ p. record { number = p; state = State.Running; marked = false })
    (packet_process ∷ serial_line_process ∷ ctimer_process ∷ etimer_process ∷ [])

abbrev pub is_application : ℕ → ProcessNumber → Bool
is_application applications p = nat_le first_application p && nat_lt p (first_application + applications)
