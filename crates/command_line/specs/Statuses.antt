-- The statuses that the program exits with, and its messages on standard error.
use Rattle.std.specs.Prelude.{◌≡◌, ◌⊎◌, ℕ, List, [], ◌∷◌, ◌++◌, codes, Option, Some, None, option_map, Result, Ok, Err}
use Rattle.mote_text.specs.declared.script.End.{End}
use Rattle.mote_types.specs.declared.fault.BootFault.{BootFault}
use Rattle.mote_types.specs.declared.fault.MoteFault.{MoteFault}
use Rattle.mote_types.specs.declared.fault.RunFault.{RunFault}
use Rattle.command_line.specs.declared.refusal.Refusal.{Refusal}
use Rattle.command_line.specs.declared.failure.Failure.{Failure}
use Rattle.command_line.specs.declared.report.Stream.{Stream}

-- ---- a mote's faults as failures of the program

abbrev pub bad_sizes : Failure
bad_sizes = Failure.Mote (MoteFault.Boot BootFault.BadSizes)

abbrev pub out_of_memory : Failure
out_of_memory = Failure.Mote (MoteFault.Boot BootFault.Memory)

abbrev pub read_failed : Failure
read_failed = Failure.Mote (MoteFault.Run RunFault.Read)

abbrev pub write_failed : Failure
write_failed = Failure.Mote (MoteFault.Run RunFault.Write)

-- ---- statuses

abbrev pub status_of_end : End → ℕ
status_of_end End.Finished = 0
status_of_end (End.BadLine number) = 2
status_of_end End.Halted = 3
status_of_end End.TooLong = 4

abbrev pub status_of_fault : MoteFault → ℕ
status_of_fault (MoteFault.Run RunFault.Read) = 5
status_of_fault (MoteFault.Run RunFault.Write) = 6
status_of_fault (MoteFault.Boot BootFault.BadSizes) = 64
status_of_fault (MoteFault.Boot BootFault.Memory) = 70

abbrev pub status_of_failure : Failure → ℕ
status_of_failure (Failure.Request text) = 0
status_of_failure Failure.NotText = 64
status_of_failure (Failure.Words text) = 64
status_of_failure (Failure.NoApplication name) = 64
status_of_failure Failure.TooManyApplications = 64
status_of_failure (Failure.Mote fault) = status_of_fault fault

-- the status of a whole run of the program
abbrev pub status_of_outcome : Result End Failure → ℕ
status_of_outcome (Ok end) = status_of_end end
status_of_outcome (Err failure) = status_of_failure failure

-- the outcome after a text that the arguments ask for was written, or writing it failed: the others stay as they are
abbrev pub IsShown : Result End Failure → Result End Failure → Type 0
IsShown (Err (Failure.Request text)) result = (result ≡ Err (Failure.Request text)) ⊎ (result ≡ Err write_failed)
IsShown outcome result = result ≡ outcome

-- ---- messages

abbrev pub fault_text : MoteFault → List ℕ
fault_text (MoteFault.Run RunFault.Read) = codes "read failed"
fault_text (MoteFault.Run RunFault.Write) = codes "write failed"
fault_text (MoteFault.Boot BootFault.BadSizes) = codes "bad sizes"
fault_text (MoteFault.Boot BootFault.Memory) = codes "out of memory"

-- the message of a failure; the parser writes its own texts
abbrev pub failure_text : Failure → Option (List ℕ)
failure_text (Failure.Request text) = None
failure_text (Failure.Words text) = None
failure_text Failure.NotText = Some (codes "a word is not text")
failure_text (Failure.NoApplication name) = Some (codes "no application " ++ name.now)
failure_text Failure.TooManyApplications = Some (codes "too many applications")
failure_text (Failure.Mote fault) = Some (fault_text fault)

-- the status of a program with this outcome
pub record IsStatusOf (outcome : Result End Failure) (status : ℕ) : Type 0 where
  pub shown : Result End Failure
  pub is_shown : IsShown outcome shown
  pub is_status : status ≡ status_of_outcome shown

-- where a failure's text is written: a text that the arguments ask for is no error
abbrev pub stream_of_failure : Failure → Stream
stream_of_failure (Failure.Request text) = Stream.Output
stream_of_failure failure = Stream.Error

-- a line with the program's name and the reason
abbrev pub reported_text : List ℕ → Failure → Option (List ℕ)
reported_text program failure = option_map (λ text. program ++ codes ": " ++ text ++ 10 ∷ []) (failure_text failure)

abbrev pub failure_in_words : Refusal → Failure
failure_in_words (Refusal.Request text) = Failure.Request text
failure_in_words (Refusal.Words text) = Failure.Words text
failure_in_words (Refusal.NoApplication name) = Failure.NoApplication name
failure_in_words Refusal.TooManyApplications = Failure.TooManyApplications
failure_in_words Refusal.OutOfMemory = out_of_memory
