-- What an outcome says of a run.
use Rattle.std.specs.Prelude.{◌≡◌, ◌+◌, ◌<◌, ◌≤◌, ◌⊎◌, ⊤, ℕ, false, List, [], ◌∷◌, ◌++◌, length, Some}
use Rattle.std.specs.Str.{IsUtf8}
use Rattle.std.specs.Str.Lines.{lines}
use Rattle.mote_types.specs.Applications.{says_of}
use Rattle.mote_text.specs.declared.script.End.{End}
use Rattle.call_lists.specs.Applications.{application_says, IsListed, IsNamed}
use Rattle.call_lists.specs.declared.applications.Application.{Application}
use Rattle.kernel_core.specs.Machine.{is_bootable}
use Rattle.mote_run.specs.Code.Runs.{config_of}
use Rattle.mote_run.specs.RunText.{IsRunText}
use Rattle.library_core.specs.Configurations.{is_quiet, sizes_of}
use Rattle.library_core.specs.Reasons.{HasCalls, IsLineReason, IsNoApplication, call_of_list, line_reason_number, size_reason, size_reason_number}
use Rattle.library_core.specs.declared.outcome.Outcome.{Outcome}
use Rattle.library_core.specs.declared.configuration.Configuration.{Configuration}
use Rattle.library_core.specs.declared.refusal.LineReason.{LineReason}
use Rattle.library_core.specs.declared.refusal.Refusal.{Refusal}
use Rattle.library_core.specs.declared.refusal.SizeReason.{SizeReason}

-- the line names this application, or has its calls
abbrev pub IsOfLine : List ℕ → Application → Type 0
IsOfLine line application = IsNamed line application ⊎ ((text : List ℕ) × HasCalls line text × IsListed text application)

-- an application for each line, in their order
abbrev pub AreOfLines : List (List ℕ) → List Application → Type 0
AreOfLines [] [] = ⊤
AreOfLines (line ∷ following) (application ∷ others) = IsOfLine line application × AreOfLines following others
AreOfLines _ _ = ⊥

-- out is exactly the text of the machine's run of the lines' applications on the script, and this is how it ends
pub record HasRun (configuration : Configuration) (text script out : List ℕ) (end : End) : Type 0 where
  pub applications : List Application
  pub are_of_lines : AreOfLines (lines text) applications
  pub is_text : IsRunText (config_of (sizes_of configuration) (length applications)) (says_of application_says applications)
      (is_quiet configuration) script out end

-- each line names an application, or has its calls
abbrev pub AreNamed : List (List ℕ) → Type 0
AreNamed lines = (applications : List Application) × AreOfLines lines applications

-- the line of this number, from 0 on, is the first that names no application of the mote, for this reason, and one of the first 16
pub record NamesNone (all : List (List ℕ)) (number : ℕ) (reason : LineReason) : Type 0 where
  pub line : List ℕ
  pub before : List (List ℕ)
  pub behind : List (List ℕ)
  pub is_line : all ≡ before ++ line ∷ behind
  pub is_number : number ≡ length before
  pub is_among : number < 16
  pub are_named : AreNamed before
  pub is_none : IsNoApplication line
  pub is_reason : IsLineReason line reason

-- there is a line after 16 that name applications
pub record AreTooMany (all : List (List ℕ)) : Type 0 where
  pub line : List ℕ
  pub before : List (List ℕ)
  pub behind : List (List ℕ)
  pub is_line : all ≡ before ++ line ∷ behind
  pub are_named : AreNamed before
  pub are_full : 16 ≤ length before

-- why a line is no further application after `count` others
abbrev pub IsRefusedLine : List ℕ → ℕ → Refusal → Type 0
IsRefusedLine line count (Refusal.NoApplication number reason) = (number ≡ count) × (count < 16) × IsNoApplication line
    × IsLineReason line reason
IsRefusedLine line count Refusal.TooManyApplications = 16 ≤ count
IsRefusedLine line count refusal = ⊥

-- why lines are no applications
abbrev pub AreRefused : List (List ℕ) → Refusal → Type 0
AreRefused all (Refusal.NoApplication number reason) = NamesNone all number reason
AreRefused all Refusal.TooManyApplications = AreTooMany all
AreRefused all Refusal.OutOfMemory = ⊤
AreRefused all refusal = ⊥

-- each line names an application, and they are at most 16, but no mote boots with them and these sizes: the first size that is
-- bad is the reason
pub record HasBadSizes (configuration : Configuration) (all : List (List ℕ)) (reason : SizeReason) : Type 0 where
  pub are_named : AreNamed all
  pub are_few : length all ≤ 16
  pub is_bad : is_bootable (config_of (sizes_of configuration) (length all)) ≡ false
  pub is_reason : size_reason (sizes_of configuration) (length all) ≡ Some reason

-- why there was no run: the first of these reasons, in this order; memory may be refused at any time
abbrev pub Refuses : Configuration → List ℕ → Refusal → Type 0
Refuses configuration text Refusal.NotText = IsUtf8 text → ⊥
Refuses configuration text (Refusal.NoApplication number reason) = IsUtf8 text × NamesNone (lines text) number reason
Refuses configuration text Refusal.TooManyApplications = IsUtf8 text × AreTooMany (lines text)
Refuses configuration text (Refusal.BadSizes reason) = IsUtf8 text × HasBadSizes configuration (lines text) reason
Refuses configuration text Refusal.OutOfMemory = ⊤

-- the number of a run's end
abbrev pub status_of : End → ℕ
status_of End.Finished = 0
status_of (End.BadLine line) = 2
status_of End.Halted = 3
status_of End.TooLong = 4

-- the number of the malformed line, if there is one
abbrev pub line_of : End → ℕ
line_of (End.BadLine line) = line
line_of end = 0

-- the number of what was refused
abbrev pub refusal_status : Refusal → ℕ
refusal_status Refusal.NotText = 16
refusal_status (Refusal.NoApplication number reason) = 17
refusal_status Refusal.TooManyApplications = 18
refusal_status (Refusal.BadSizes reason) = 19
refusal_status Refusal.OutOfMemory = 21

-- the number, from 1 on, of the line that names no application, where that is why
abbrev pub refusal_line : Refusal → ℕ
refusal_line (Refusal.NoApplication number reason) = number + 1
refusal_line refusal = 0

-- the number of the reason, if it says more than the status
abbrev pub refusal_reason : Refusal → ℕ
refusal_reason (Refusal.NoApplication number reason) = line_reason_number reason
refusal_reason (Refusal.BadSizes reason) = size_reason_number reason
refusal_reason refusal = 0

-- the application that is none, or the first that is one too many, from 0 on
abbrev pub refusal_application : Refusal → ℕ
refusal_application (Refusal.NoApplication number reason) = number
refusal_application Refusal.TooManyApplications = 16
refusal_application refusal = 0

-- the call of its list that is none, from 0 on
abbrev pub refusal_call : Refusal → ℕ
refusal_call (Refusal.NoApplication number reason) = call_of_list reason
refusal_call refusal = 0

-- no reason is reported, and no position
abbrev pub HasNoReason : Outcome → Type 0
HasNoReason outcome = (outcome.reason ≡ 0) × (outcome.application ≡ 0) × (outcome.call ≡ 0)

-- out is the text of that run, and status and line are those of its end
pub record IsRunOf (configuration : Configuration) (text script out : List ℕ) (status line : ℕ) : Type 0 where
  pub end : End
  pub has_run : HasRun configuration text script out end
  pub is_status : status ≡ status_of end
  pub is_line : line ≡ line_of end

-- that run has a text of this length, for which there is no room
pub record IsTooLongFor (room : ℕ) (configuration : Configuration) (text script : List ℕ) (size : ℕ) : Type 0 where
  pub end : End
  pub out : List ℕ
  pub has_run : HasRun configuration text script out end
  pub is_size : size ≡ length out
  pub is_over : room < size

-- the numbers are those of a reason why there was no run
pub record IsRefusalOf (configuration : Configuration) (text : List ℕ) (status line reason application call : ℕ) : Type 0 where
  pub refusal : Refusal
  pub is_refused : Refuses configuration text refusal
  pub is_status : status ≡ refusal_status refusal
  pub is_line : line ≡ refusal_line refusal
  pub is_reason : reason ≡ refusal_reason refusal
  pub is_application : application ≡ refusal_application refusal
  pub is_call : call ≡ refusal_call refusal
