-- Which words a turn has: those of a stimulus of its origin, and those of a call.
use Rattle.std.specs.Prelude.{ℕ, Bool, true, false, ◌&&◌, ◌||◌, ◌==◌, if◌then◌else◌, List, [], ◌∷◌, codes, bytes_eq, nat_le, nat_lt, Option, Some, None, is_some}
use Rattle.std.specs.List.{list_any, slice_split}
use Rattle.pictures.specs.declared.transcript.forms.Form.{Form}
use Rattle.pictures.specs.declared.transcript.turn.Origin.{Origin}
use Rattle.pictures.specs.declared.transcript.turn.Turn.{Turn}
use Rattle.pictures.specs.Transcript.Words.{has_form, read_number}

-- what is between the spaces of a text
abbrev pub words : List ℕ → List (List ℕ)
words text = slice_split (λ byte. byte == 32) text

-- there are as many words as forms, and each has its form
abbrev pub have_forms : List Form → List (List ℕ) → Bool
have_forms [] [] = true
have_forms [] (word ∷ words) = false
have_forms (form ∷ forms) [] = false
have_forms (form ∷ forms) (word ∷ words) = has_form form word && have_forms forms words

-- where a table has forms for a first word, the words after it have these
abbrev pub have_forms_of : Option (List Form) → List (List ℕ) → Bool
have_forms_of None words = false
have_forms_of (Some forms) words = have_forms forms words

abbrev pub is_by : (List ℕ → Option (List Form)) → List (List ℕ) → Bool
is_by table [] = false
is_by table (word ∷ words) = have_forms_of (table word) words

-- ---- the tables

abbrev pub is_one_of : List (List ℕ) → List ℕ → Bool
is_one_of names word = list_any (λ name. bytes_eq word name) names

abbrev pub number : List Form
number = Form.Number ∷ []

abbrev pub numbers : List Form
numbers = Form.Number ∷ number

-- what follows the first word of a reply
abbrev pub reply_forms : List ℕ → Option (List Form)
reply_forms word =
    if bytes_eq word (codes "done") then Some []
    else if is_one_of (codes "refused" ∷ codes "num" ∷ codes "wide" ∷ []) word then Some number
    else if bytes_eq word (codes "flag") then Some (Form.Flag ∷ [])
    else if bytes_eq word (codes "bytes") then Some (Form.Bytes ∷ [])
    else if bytes_eq word (codes "stats") then Some (Form.Number ∷ Form.Number ∷ Form.Number ∷ numbers)
    else None

-- after the name of a call: on processes, events, timers or the serial line
unfoldable pub plain_forms : List ℕ → Option (List Form)
plain_forms word =
    if is_one_of (codes "wait" ∷ codes "exit" ∷ codes "clock" ∷ codes "alloc-event" ∷ []) word then Some []
    else if is_one_of (codes "poll" ∷ codes "start" ∷ codes "kill" ∷ codes "is-running" ∷ []) word then Some number
    else if is_one_of
    (codes "timer-stop" ∷ codes "timer-reset" ∷ codes "timer-restart" ∷ codes "timer-expired" ∷ codes "callback-stop" ∷ []) word
    then Some number
    else if is_one_of (codes "timer-set" ∷ codes "callback-set" ∷ []) word then Some numbers
    else if bytes_eq word (codes "broadcast") then Some (Form.Number ∷ Form.Payload ∷ [])
    else if is_one_of (codes "post" ∷ codes "post-synch" ∷ []) word then Some (Form.Number ∷ Form.Number ∷ Form.Payload ∷ [])
    else if bytes_eq word (codes "print") then Some (Form.Bytes ∷ [])
    else None

-- on managed memory, the heap or frames
unfoldable pub memory_forms : List ℕ → Option (List Form)
memory_forms word =
    if is_one_of (codes "mmem-avail" ∷ codes "heap-stats" ∷ codes "packet-open" ∷ codes "packet-done" ∷ codes "packet-count" ∷ []) word
    then Some []
    else if is_one_of (codes "mmem-free" ∷ codes "heap-free" ∷ codes "packet-send" ∷ []) word then Some number
    else if is_one_of (codes "mmem-alloc" ∷ codes "mmem-copy" ∷ codes "heap-alloc" ∷ codes "heap-realloc" ∷ codes "packet-read" ∷ []) word
    then Some numbers
    else if is_one_of (codes "mmem-read" ∷ codes "heap-read" ∷ []) word then Some (Form.Number ∷ numbers)
    else if is_one_of (codes "mmem-write" ∷ codes "heap-write" ∷ []) word then Some (Form.Number ∷ Form.Number ∷ Form.Bytes ∷ [])
    else None

-- on pools and their lists
unfoldable pub pool_forms : List ℕ → Option (List Form)
pool_forms word =
    if is_one_of (codes "memb-alloc" ∷ codes "memb-num-free" ∷ []) word then Some number
    else if is_one_of (codes "list-pop" ∷ codes "list-chop" ∷ codes "list-head" ∷ codes "list-length" ∷ []) word then Some number
    else if is_one_of (codes "memb-free" ∷ codes "list-add" ∷ codes "list-push" ∷ codes "list-remove" ∷ codes "list-next" ∷ []) word
    then Some numbers
    else if bytes_eq word (codes "list-insert") then Some (Form.Number ∷ numbers)
    else if bytes_eq word (codes "memb-read") then Some (Form.Number ∷ Form.Number ∷ numbers)
    else if bytes_eq word (codes "memb-write") then Some (Form.Number ∷ Form.Number ∷ Form.Number ∷ Form.Bytes ∷ [])
    else None

-- ---- a turn

abbrev pub is_reply : List ℕ → Bool
is_reply text = is_by reply_forms (words text)

abbrev pub is_call : List ℕ → Bool
is_call text = is_by plain_forms (words text) || is_by memory_forms (words text) || is_by pool_forms (words text)

-- an event has a code and what it carries; a poll has always the same words; a callback timer has a number
abbrev pub is_stimulus : Origin → List ℕ → Bool
is_stimulus Origin.Event text = have_forms (Form.Number ∷ Form.Payload ∷ []) (words text)
is_stimulus Origin.Synch text = have_forms (Form.Number ∷ Form.Payload ∷ []) (words text)
is_stimulus Origin.Poll text = bytes_eq text (codes "130 -")
is_stimulus Origin.Callback text = is_some (read_number text)
is_stimulus Origin.Answer text = is_reply text

-- one of the processes 4 to 19 receives a stimulus, and makes a call
unfoldable pub is_turn : Turn → Bool
is_turn turn = nat_le 4 turn.pid && nat_lt turn.pid 20 && is_stimulus turn.origin turn.stimulus.now && is_call turn.call.now
