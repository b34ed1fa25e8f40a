-- What a line that says motes sets up, and when it is malformed: `N` or `N..M`, names of applications and sizes, and after `calls` a list
-- of calls.
use Rattle.std.specs.Prelude.{◌≡◌, ◌≢◌, ◌⊎◌, ⊤, ◌+◌, ◌-◌, ℕ, zero, suc, List, [], ◌∷◌, ◌++◌, length, codes, Option, Some, None, IfSome, is_some, option_and_then, option_map, bytes_eq, if◌then◌else◌}
use Rattle.std.specs.Global.{Vec}
use Rattle.call_lists.specs.Applications.{IsListed, IsNamed}
use Rattle.call_lists.specs.Faults.{IsNoList, IsNoName}
use Rattle.kernel_core.specs.Machine.{is_bootable}
use Rattle.kernel_core.specs.declared.config.Config.{Config}
use Rattle.mote_apps.specs.Bundled.{named}
use Rattle.mote_session.specs.SessionView.{SessionView}
use Rattle.mote_text.specs.Script.{argument_of, read_number}
use Rattle.network_setup.specs.Lines.{cut_at, span_said, words_of}
use Rattle.network_setup.specs.SetupView.{HasJustBooted, SetupView, default_config}
use Rattle.network_setup.specs.declared.mote_app.MoteApp.{MoteApp}
use Rattle.network_setup.specs.declared.words.Span.{Span}

-- the configuration with this size, if an option has this name
abbrev pub with_size : List ℕ → ℕ → Config → Option Config
with_size name size config =
    if bytes_eq name (codes "mmem") then Some (record config { mmem = size })
    else if bytes_eq name (codes "heap") then Some (record config { heap = size })
    else if bytes_eq name (codes "header") then Some (record config { header = size })
    else if bytes_eq name (codes "quota") then Some (record config { quota = Some size })
    else None

abbrev pub with_option : List ℕ → List ℕ → Config → Option Config
with_option name number config = option_and_then (λ size. with_size name size config) (read_number number)

-- the sizes that words say: options, each before its number. The first argument is an option whose number comes next
abbrev pub sizes_said : Option (List ℕ) → List (List ℕ) → Config → Option Config
sizes_said None [] config = Some config
sizes_said None (word ∷ words) config = sizes_said (argument_of (codes "--") word) words config
sizes_said (Some name) [] config = None
sizes_said (Some name) (word ∷ words) config = option_and_then (λ c. sizes_said None words c) (with_option name word config)

-- the other words, which are names of applications
abbrev pub names_said : Option (List ℕ) → List (List ℕ) → List (List ℕ)
names_said option [] = []
names_said None (word ∷ words) = let key = argument_of (codes "--") word in (if is_some key then [] else word ∷ []) ++ names_said key words
names_said (Some name) (word ∷ words) = names_said None words

-- the application of this name, as it begins
abbrev pub HasName : List ℕ → MoteApp → Type 0
HasName name (MoteApp.Bundled application) = named name ≡ Some application
HasName name (MoteApp.Boxed application) = IsNamed name application.value

-- the application that makes the calls of this text
abbrev pub HasCalls : List ℕ → MoteApp → Type 0
HasCalls text (MoteApp.Bundled application) = ⊥
HasCalls text (MoteApp.Boxed application) = IsListed text application.value

-- applications of these names, in their order, and after them the one of the list of calls, if there is a list
abbrev pub AreSaid : List (List ℕ) → Option (List ℕ) → List MoteApp → Type 0
AreSaid [] None [] = ⊤
AreSaid [] (Some text) (last ∷ []) = HasCalls text last
AreSaid (name ∷ names) calls (next ∷ others) = HasName name next × AreSaid names calls others
AreSaid _ _ _ = ⊥

-- the number of applications that are said
abbrev pub count_said : List (List ℕ) → Option (List ℕ) → ℕ
count_said words calls = length (names_said None words) + (if is_some calls then 1 else 0)

abbrev pub if_bootable : Config → Option Config
if_bootable config = if is_bootable config then Some config else None

-- the configuration that is said. None, where no mote boots with it
abbrev pub config_said : List (List ℕ) → Option (List ℕ) → Option Config
config_said words calls =
    option_and_then (λ sizes. if_bootable (record sizes { apps = count_said words calls })) (sizes_said None words default_config)

-- one of these names is no application's
abbrev pub OneIsUnknown : List (List ℕ) → Type 0
OneIsUnknown [] = ⊥
OneIsUnknown (name ∷ names) = IsNoName name ⊎ OneIsUnknown names

-- why a line's words and its list of calls say no mote
pub data SaysNoMote (words : List (List ℕ)) (calls : Option (List ℕ)) : Type 0 where
  no_configuration : config_said words calls ≡ None → SaysNoMote words calls
  no_application : OneIsUnknown (names_said None words) → SaysNoMote words calls
  no_list : (text : List ℕ) → calls ≡ Some text → IsNoList text → SaysNoMote words calls

-- one more mote, as its words and its list of calls say. It has just booted, and has no links
pub record HasMote (words : List (List ℕ)) (calls : Option (List ℕ)) (old new : SetupView) : Type 0 where
  pub config : Config
  pub mote : SessionView
  pub own : Vec MoteApp
  pub sizes : config_said words calls ≡ Some config
  pub booted : HasJustBooted config mote
  pub applications : AreSaid (names_said None words) calls own.items
  pub added : new ≡ record old { motes = old.motes ++ mote ∷ []; applications = old.applications ++ own ∷ []; links = old.links ++ [] ∷ [] }

-- n more
abbrev pub HaveMotes : ℕ → List (List ℕ) → Option (List ℕ) → SetupView → SetupView → Type 0
HaveMotes zero words calls old new = new ≡ old
HaveMotes (suc n) words calls old new = (between : SetupView) × HaveMotes n words calls old between × HasMote words calls between new

-- the motes of a line, their words, and their list of calls
pub record MoteLine : Type 0 where
  pub span : Span
  pub words : List (List ℕ)
  pub calls : Option (List ℕ)

-- the list after the word `calls`: it is empty, or follows a space
abbrev pub list_said : List ℕ → Option (List ℕ)
list_said [] = Some []
list_said (byte ∷ []) = None
list_said (byte ∷ next ∷ text) = argument_of (codes " ") (byte ∷ next ∷ text)

-- `3` or `3..40`, and the other words
abbrev pub with_calls : List (List ℕ) → Option (List ℕ) → Option MoteLine
with_calls [] calls = None
with_calls (motes ∷ words) calls = option_map (λ span. record { span = span; words = words; calls = calls }) (span_said motes)

abbrev pub cut_at_calls : List ℕ → Option (List ℕ × List ℕ) → Option MoteLine
cut_at_calls text None = with_calls (words_of text) None
cut_at_calls text (Some parts) = option_and_then (λ calls. with_calls (words_of parts.0) (Some calls)) (list_said parts.1)

-- what is said after `mote `
abbrev pub mote_line : List ℕ → Option MoteLine
mote_line text = cut_at_calls text (cut_at (codes " calls") text)

-- the line adds the motes that it says, whose first number is the next one
pub record AddsMotes (text : List ℕ) (old new : SetupView) : Type 0 where
  pub line : MoteLine
  pub said : mote_line text ≡ Some line
  pub next : line.span.first ≡ length old.motes + 1
  pub added : HaveMotes (line.span.last + 1 - line.span.first) line.words line.calls old new

-- why the line adds no motes: its words aren't those of such a line, or its first number isn't the next one, or they say no mote
abbrev pub SaysNoMotes : List ℕ → SetupView → Type 0
SaysNoMotes text setup =
    IfSome (mote_line text) (λ line. (line.span.first ≢ length setup.motes + 1) ⊎ SaysNoMote line.words line.calls)
