-- Why there was no run: the reasons, where they apply, and the numbers that C gets.
use Rattle.std.specs.Prelude.{◌≡◌, ◌≢◌, ◌+◌, ◌⊎◌, ◌*◌, ℕ, List, [], ◌++◌, length, codes, flat_map, not, nat_lt, if◌then◌else◌, Option, Some, None}
use Rattle.std.specs.List.{All}
use Rattle.call_lists.specs.Applications.{IsListed}
use Rattle.call_lists.specs.Faults.{IsNoList, IsNoName}
use Rattle.call_lists.specs.declared.applications.Application.{Application}
use Rattle.call_lists.specs.declared.fault.CallFault.{CallFault}
use Rattle.node_memory.specs.Sizes.{is_header, is_region_size}
use Rattle.node_memory.specs.declared.sizes.Sizes.{Sizes}
use Rattle.library_core.specs.declared.refusal.CallReason.{CallReason}
use Rattle.library_core.specs.declared.refusal.LineReason.{LineReason}
use Rattle.library_core.specs.declared.refusal.SizeReason.{SizeReason}

-- sizes

-- why no mote has this quota, where its other sizes are good
abbrev pub quota_reason : ℕ → ℕ → Option ℕ → Option SizeReason
quota_reason mmem applications None = None
quota_reason mmem applications (Some quota) =
    if not (is_region_size 4 quota) then Some SizeReason.Quota
    else if nat_lt mmem (quota * (applications + 1)) then Some SizeReason.AllQuotas
    else None

-- the first of the sizes with which no mote with this number of applications boots
abbrev pub size_reason : Sizes → ℕ → Option SizeReason
size_reason sizes applications =
    if not (is_region_size 4 sizes.mmem) then Some SizeReason.Mmem
    else if not (is_region_size 20 sizes.heap) then Some SizeReason.Heap
    else if not (is_header sizes.header) then Some SizeReason.Header
    else quota_reason sizes.mmem applications sizes.quota

-- applications

-- the line has this text of calls after its first word
abbrev pub HasCalls : List ℕ → List ℕ → Type 0
HasCalls line text = ((line ≡ codes "calls") × (text ≡ [])) ⊎ (line ≡ codes "calls " ++ text)

abbrev pub HasNoCalls : List ℕ → Type 0
HasNoCalls line = (text : List ℕ) → HasCalls line text → ⊥

-- no comma parts it
abbrev pub IsOnePart : List ℕ → Type 0
IsOnePart part = (front behind : List ℕ) → part ≢ front ++ (codes ", " ++ behind)

-- the part is a call, which may have a number in front
abbrev pub IsCallPart : List ℕ → Type 0
IsCallPart part = (part ≢ []) × IsOnePart part × ((application : Application) × IsListed part application)

-- each of these parts, with a comma after it
abbrev pub with_commas : List (List ℕ) → List ℕ
with_commas parts = flat_map (λ part. part ++ codes ", ") parts

-- the part is no call: it is empty, or no 128 calls that there are are a list of it
abbrev pub IsNoCallPart : List ℕ → Type 0
IsNoCallPart part = IsOnePart part × ((part ≡ []) ⊎ IsNoList part)

-- a part ends here
abbrev pub IsBehindPart : List ℕ → Type 0
IsBehindPart behind = (behind ≡ []) ⊎ ((others : List ℕ) × (behind ≡ codes ", " ++ others))

-- after this number of parts that are calls the list has one that is none
pub record HasNoCallAt (text : List ℕ) (number : ℕ) : Type 0 where
  pub before : List (List ℕ)
  pub part : List ℕ
  pub behind : List ℕ
  pub is_text : text ≡ with_commas before ++ (part ++ behind)
  pub is_behind : IsBehindPart behind
  pub is_number : number ≡ length before
  pub are_calls : All IsCallPart before
  pub is_no_call : IsNoCallPart part

-- all parts of the list are calls
pub record HasCallsAlone (text : List ℕ) : Type 0 where
  pub before : List (List ℕ)
  pub last : List ℕ
  pub is_text : text ≡ with_commas before ++ last
  pub are_calls : All IsCallPart before
  pub is_call : IsCallPart last

-- why a part of a list is no call: that of its fault. The other faults than of words, numbers and hex are of its name
abbrev pub call_reason_of : CallFault → CallReason
call_reason_of (CallFault.TooFewWords name) = CallReason.TooFewWords
call_reason_of (CallFault.TooManyWords words) = CallReason.TooManyWords
call_reason_of (CallFault.NoNumber word least most) = CallReason.NoNumber
call_reason_of (CallFault.NoHex word most) = CallReason.NoHex
call_reason_of fault = CallReason.NoName

-- no application has this name, and no list of calls has this text
abbrev pub IsNoApplication : List ℕ → Type 0
IsNoApplication line = IsNoName line × ((text : List ℕ) → HasCalls line text → IsNoList text)

-- why the line is no application
abbrev pub IsLineReason : List ℕ → LineReason → Type 0
IsLineReason line LineReason.NoName = HasNoCalls line
IsLineReason line (LineReason.NoCall number reason) = (text : List ℕ) × HasCalls line text × HasNoCallAt text number
IsLineReason line LineReason.TooManyCalls = (text : List ℕ) × HasCalls line text × HasCallsAlone text

-- numbers

abbrev pub size_reason_number : SizeReason → ℕ
size_reason_number SizeReason.Mmem = 1
size_reason_number SizeReason.Heap = 2
size_reason_number SizeReason.Header = 3
size_reason_number SizeReason.Quota = 4
size_reason_number SizeReason.AllQuotas = 5

abbrev pub call_reason_number : CallReason → ℕ
call_reason_number CallReason.NoName = 7
call_reason_number CallReason.TooFewWords = 8
call_reason_number CallReason.TooManyWords = 9
call_reason_number CallReason.NoNumber = 10
call_reason_number CallReason.NoHex = 11

abbrev pub line_reason_number : LineReason → ℕ
line_reason_number LineReason.NoName = 6
line_reason_number (LineReason.NoCall number reason) = call_reason_number reason
line_reason_number LineReason.TooManyCalls = 12

-- the part of the list that is no call
abbrev pub call_of_list : LineReason → ℕ
call_of_list (LineReason.NoCall number reason) = number
call_of_list reason = 0
