-- Why a text is no application, no call and no list of calls, and why a word is no number.
use Rattle.std.specs.Prelude.{◌≡◌, ◌≢◌, ◌<◌, ◌⊎◌, ⊤, ℕ, List, length, codes, Option, Some, None}
use Rattle.mote_apps.specs.Bundled.{named}
use Rattle.mote_text.specs.Script.{read_number}
use Rattle.mote_types.specs.declared.call.Call.{Call}
use Rattle.call_lists.specs.Calls.{IsCall, IsListOf}
use Rattle.call_lists.specs.Ranges.{ArePossible, IsPossible}
use Rattle.call_lists.specs.declared.fault.CallFault.{CallFault}

-- no application has this name
abbrev pub IsNoName : List ℕ → Type 0
IsNoName name = (named name ≡ None) × (name ≢ codes "clock-watcher")

-- so it is, and the name is reported
abbrev pub TellsNoName : List ℕ → CallFault → Type 0
TellsNoName name (CallFault.NoApplication reported) = (reported.now ≡ name) × IsNoName name
TellsNoName name fault = ⊥

-- no possible call has these words
abbrev pub IsNoCall : List ℕ → Type 0
IsNoCall text = (call : Call) → IsPossible call → IsCall text call → ⊥

-- no 128 calls that there are, among them those that only wait, are a list of this text
abbrev pub IsNoList : List ℕ → Type 0
IsNoList text = (calls : List Call) → ArePossible calls → length calls ≡ 128 → IsListOf text calls → ⊥

abbrev pub LiesOutside : ℕ → ℕ → Option ℕ → Type 0
LiesOutside least most None = ⊤
LiesOutside least most (Some number) = (number < least) ⊎ (most < number)

-- the word is no number from the least to the most, and these are reported
abbrev pub IsNoNumber : List ℕ → ℕ → ℕ → CallFault → Type 0
IsNoNumber word least most (CallFault.NoNumber reported lowest highest) =
    (reported.now ≡ word) × (lowest ≡ least) × (highest ≡ most) × LiesOutside least most (read_number word)
IsNoNumber word least most fault = ⊥
