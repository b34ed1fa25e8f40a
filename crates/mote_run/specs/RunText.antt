-- What a run writes.
use Rattle.std.specs.Prelude.{◌≡◌, ℕ, Bool, true, length, List, [], ◌++◌, Result, IfOk, OnErr, IsErrOf, if◌then◌else◌}
use Rattle.std.specs.List.{list_any}
use Rattle.mote_types.specs.Applications.{Applications}
use Rattle.mote_types.specs.Entries.{is_halt}
use Rattle.mote_types.specs.declared.entry.Entry.{Entry}
use Rattle.mote_types.specs.declared.entry.Input.{Input}
use Rattle.mote_text.specs.declared.script.End.{End}
use Rattle.mote_text.specs.Script.{inputs, read_lines, whole_lines}
use Rattle.mote_text.specs.Transcript.{text}
use Rattle.kernel_core.specs.declared.config.Config.{Config}
use Rattle.kernel_core.specs.Machine.{booted, is_bootable}
use Rattle.kernel_core.specs.Mote.{Mote}
use Rattle.kernel_core.specs.Run.{Running, Runs, at_start}

pub record HasRead (count : ℕ) (taken_old taken_new : List ℕ) : Type 0 where
  pub bytes : List ℕ
  pub taken : taken_new ≡ taken_old ++ bytes
  pub size : length bytes ≡ count

-- what a run read and wrote: the bytes that were read, whether the end of the script was read, and the bytes that were written
pub record Exchange : Type 0 where
  pub read : List ℕ
  pub is_ended : Bool
  pub written : List ℕ

-- P holds of what was read and written between an old and a new state of the devices, by the bytes taken and given in each state
pub record Exchanged (taken_old taken_new : List ℕ) (is_ended : Bool) (given_old given_new : List ℕ) (P : Exchange → Type 0) : Type 0 where
  pub read : List ℕ
  pub written : List ℕ
  pub taken : taken_new ≡ taken_old ++ read
  pub given : given_new ≡ given_old ++ written
  pub holds : P (record { read = read; is_ended = is_ended; written = written })

-- P holds of each script that begins with the bytes read; if the end was read, only of these bytes
abbrev pub OfEachScript : Exchange → (List ℕ → Type 0) → Type 0
OfEachScript exchange P = (more : List ℕ) → (exchange.is_ended ≡ true → more ≡ []) → P (exchange.read ++ more)

module _ (config : Config) (says : Applications) where
  -- no whole line of these bytes is malformed, and this holds of the entries of the machine's run on their inputs
  pub record OnWholeLines (read : List ℕ) (P : List Entry → Type 0) : Type 0 where
    pub inputs : List Input
    pub have_form : read_lines 1 End.Finished (whole_lines read) ≡ (inputs, End.Finished)
    pub last : Running
    pub runs : Runs says (at_start config) inputs last
    pub holds : P last.entries

module _ (config : Config) (says : Applications) (quiet : Bool) where
  -- out is exactly the text of the machine's run on the script's inputs, and this is how it ends
  pub record IsRunText (script out : List ℕ) (end : End) : Type 0 where
    pub last : Running
    pub runs : Runs says (at_start config) (inputs script).0 last
    pub ends : end ≡ (if list_any is_halt last.entries then End.Halted else (inputs script).1)
    pub is_text : out ≡ text quiet last.entries end

  -- what was read and written, if the run returned `answer`; the fault `read_failed` means that reading failed
  pub record HasRunTo {Fault : Type 0} (read_failed : Fault) (answer : Result End Fault) (exchange : Exchange) : Type 0 where
    -- reading failed: what was written is exactly the text of the run on the whole lines
    pub after_read_fault : IsErrOf answer read_failed
        → OnWholeLines config says exchange.read (λ entries. exchange.written ≡ text quiet entries End.Finished)
    -- the run ended: what was written is the text of the run on the script. If its end was not read, this holds whatever follows
    pub text : IfOk answer (λ end. OfEachScript exchange (λ script. IsRunText script exchange.written end))
    -- a device failed: what was written is a prefix of the text of each such script
    pub front : OnErr answer (OfEachScript exchange (λ script. (whole : List ℕ) (end : End) →
        IsRunText script whole end → (rest : List ℕ) × (whole ≡ exchange.written ++ rest)))

-- the kernel was just booted, for this number of applications
pub record WasBooted (kernel : Mote) (applications : ℕ) : Type 0 where
  pub config : Config
  pub boots : is_bootable config ≡ true
  pub for_all : config.apps ≡ applications
  pub is_booted : kernel.machine ≡ booted config
  pub no_inputs : kernel.inputs ≡ 0
