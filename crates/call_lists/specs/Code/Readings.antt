-- What each word of a call's text may be, and what is left of a text when its words are taken.
use Rattle.std.specs.Prelude.{ℕ, Bool, true, false, ◌&&◌, ◌||◌, ◌/◌, nat_le, nat_lt, ◌==◌, if◌then◌else◌, List, [], ◌∷◌, length, drop, slice_index, codes, bytes_eq, Option, Some, None, is_none, is_ok}
use Rattle.hex.specs.Hex.{decode_of}
use Rattle.mote_text.specs.Script.{read_number}
use Rattle.call_lists.specs.Code.Words.{behind}
use Rattle.call_lists.specs.declared.words.Words.{Words}

-- ---- one word

abbrev pub Test : Type 0
Test = List ℕ → Bool

abbrev pub is_at_most : ℕ → Option ℕ → Bool
is_at_most most None = false
is_at_most most (Some number) = nat_le number most

abbrev pub is_small : Test
is_small word = is_at_most 255 (read_number word)

abbrev pub is_wide : Test
is_wide word = is_at_most 4294967295 (read_number word)

-- digits of at most n bytes
abbrev pub is_hex : ℕ → Test
is_hex most word = nat_le (length word / 2) most && is_ok (decode_of word)

abbrev pub is_chunk : Test
is_chunk word = bytes_eq word (codes "-") || nat_lt 0 (length word) && is_hex 64 word

abbrev pub is_payload : Test
is_payload word =
    if bytes_eq word (codes "-") then true
    else if nat_lt 0 (length word) && slice_index word 0 == 120 then is_hex 127 (drop 1 word)
    else is_wide word

-- ---- a text, word by word

-- its first word
abbrev pub first_word : List ℕ → List ℕ
first_word [] = []
first_word (c ∷ text) = if c == 32 then [] else c ∷ first_word text

-- the blank after that, and what follows
abbrev pub behind_first : List ℕ → List ℕ
behind_first [] = []
behind_first (c ∷ text) = if c == 32 then c ∷ text else behind_first text

abbrev pub word_taken : Test → List ℕ → Option (List ℕ)
word_taken is_word [] = None
word_taken is_word (blank ∷ text) = if is_word (first_word text) then Some (behind_first text) else None

-- what is left after a word, where nothing was wrong so far
abbrev pub left_by : Test → Option (List ℕ) → Option (List ℕ)
left_by is_word None = None
left_by is_word (Some left) = word_taken is_word left

abbrev pub left_by_all : List Test → Option (List ℕ) → Option (List ℕ)
left_by_all [] left = left
left_by_all (is_word ∷ words) left = left_by_all words (left_by is_word left)

abbrev pub left_by_call : Option (List Test) → Option (List ℕ) → Option (List ℕ)
left_by_call None left = None
left_by_call (Some words) left = left_by_all words left

-- of the words of a call; nothing where a fault was met
abbrev pub left_in : Words → Option (List ℕ)
left_in words = if is_none words.fault then Some (behind words.rest) else None

-- ---- the words of each call, by its name

abbrev pub pool_words : List ℕ → Option (List Test)
pool_words name =
    if bytes_eq name (codes "memb-alloc") then Some (is_small ∷ [])
    else if bytes_eq name (codes "memb-free") then Some (is_small ∷ is_small ∷ [])
    else if bytes_eq name (codes "memb-write") then Some (is_small ∷ is_small ∷ is_wide ∷ is_chunk ∷ [])
    else if bytes_eq name (codes "memb-read") then Some (is_small ∷ is_small ∷ is_wide ∷ is_small ∷ [])
    else if bytes_eq name (codes "memb-num-free") then Some (is_small ∷ [])
    else if bytes_eq name (codes "list-add") then Some (is_small ∷ is_small ∷ [])
    else if bytes_eq name (codes "list-push") then Some (is_small ∷ is_small ∷ [])
    else if bytes_eq name (codes "list-insert") then Some (is_small ∷ is_small ∷ is_small ∷ [])
    else if bytes_eq name (codes "list-pop") then Some (is_small ∷ [])
    else if bytes_eq name (codes "list-chop") then Some (is_small ∷ [])
    else if bytes_eq name (codes "list-remove") then Some (is_small ∷ is_small ∷ [])
    else if bytes_eq name (codes "list-head") then Some (is_small ∷ [])
    else if bytes_eq name (codes "list-next") then Some (is_small ∷ is_small ∷ [])
    else if bytes_eq name (codes "list-length") then Some (is_small ∷ [])
    else None

abbrev pub block_words : List ℕ → Option (List Test)
block_words name =
    if bytes_eq name (codes "mmem-alloc") then Some (is_small ∷ is_wide ∷ [])
    else if bytes_eq name (codes "mmem-free") then Some (is_small ∷ [])
    else if bytes_eq name (codes "mmem-write") then Some (is_small ∷ is_wide ∷ is_chunk ∷ [])
    else if bytes_eq name (codes "mmem-read") then Some (is_small ∷ is_wide ∷ is_small ∷ [])
    else if bytes_eq name (codes "mmem-copy") then Some (is_small ∷ is_small ∷ [])
    else if bytes_eq name (codes "mmem-avail") then Some []
    else if bytes_eq name (codes "heap-alloc") then Some (is_small ∷ is_wide ∷ [])
    else if bytes_eq name (codes "heap-realloc") then Some (is_small ∷ is_wide ∷ [])
    else if bytes_eq name (codes "heap-free") then Some (is_small ∷ [])
    else if bytes_eq name (codes "heap-write") then Some (is_small ∷ is_wide ∷ is_chunk ∷ [])
    else if bytes_eq name (codes "heap-read") then Some (is_small ∷ is_wide ∷ is_small ∷ [])
    else if bytes_eq name (codes "heap-stats") then Some []
    else pool_words name

abbrev pub device_words : List ℕ → Option (List Test)
device_words name =
    if bytes_eq name (codes "timer-set") then Some (is_small ∷ is_wide ∷ [])
    else if bytes_eq name (codes "timer-stop") then Some (is_small ∷ [])
    else if bytes_eq name (codes "timer-reset") then Some (is_small ∷ [])
    else if bytes_eq name (codes "timer-restart") then Some (is_small ∷ [])
    else if bytes_eq name (codes "timer-expired") then Some (is_small ∷ [])
    else if bytes_eq name (codes "callback-set") then Some (is_small ∷ is_wide ∷ [])
    else if bytes_eq name (codes "callback-stop") then Some (is_small ∷ [])
    else if bytes_eq name (codes "packet-open") then Some []
    else if bytes_eq name (codes "packet-read") then Some (is_wide ∷ is_small ∷ [])
    else if bytes_eq name (codes "packet-done") then Some []
    else if bytes_eq name (codes "packet-count") then Some []
    else if bytes_eq name (codes "packet-send") then Some (is_small ∷ [])
    else block_words name

abbrev pub process_words : List ℕ → Option (List Test)
process_words name =
    if bytes_eq name (codes "post") then Some (is_small ∷ is_small ∷ is_payload ∷ [])
    else if bytes_eq name (codes "broadcast") then Some (is_small ∷ is_payload ∷ [])
    else if bytes_eq name (codes "post-synch") then Some (is_small ∷ is_small ∷ is_payload ∷ [])
    else if bytes_eq name (codes "poll") then Some (is_small ∷ [])
    else if bytes_eq name (codes "start") then Some (is_small ∷ [])
    else if bytes_eq name (codes "kill") then Some (is_small ∷ [])
    else if bytes_eq name (codes "is-running") then Some (is_small ∷ [])
    else if bytes_eq name (codes "alloc-event") then Some []
    else if bytes_eq name (codes "clock") then Some []
    else if bytes_eq name (codes "print") then Some (is_chunk ∷ [])
    else if bytes_eq name (codes "wait") then Some []
    else if bytes_eq name (codes "exit") then Some []
    else device_words name
