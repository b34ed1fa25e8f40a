-- An application as a function: from all stimuli that it received so far to its next call.
use Rattle.std.specs.Prelude.{ℕ, ◌-◌, zero, suc, List, [], ◌∷◌, if◌then◌else◌, nat_lt}
use Rattle.mote_types.specs.Kinds.{ProcessNumber}
use Rattle.mote_types.specs.Limits.{first_application}
use Rattle.mote_types.specs.declared.call.Call.{Call}
use Rattle.mote_types.specs.declared.event.Stimulus.{Stimulus}

-- the call made on the last of these stimuli. It is only asked of lists that aren't empty
abbrev pub Says : Type 0
Says = List Stimulus → Call

abbrev pub Applications : Type 0
Applications = ProcessNumber → Says

-- what the i-th of these applications says; where there is none it waits
abbrev pub nth_says : {B : Type 0} → (B → Says) → List B → ℕ → Says
nth_says says [] i l = Call.Wait
nth_says says (app ∷ apps) zero l = says app l
nth_says says (app ∷ apps) (suc i) l = nth_says says apps i l

-- what each process says: the applications are the processes from 4 on; the kernel's own make no calls
abbrev pub says_of : {B : Type 0} → (B → Says) → List B → Applications
says_of says apps p l = if nat_lt p first_application then Call.Wait else nth_says says apps (p - first_application) l
