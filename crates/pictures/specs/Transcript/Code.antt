-- What follows a text's first word, the origin that a word names, and which texts are read.
use Rattle.std.specs.Prelude.{ℕ, Bool, false, List, [], ◌∷◌, Option, Some, None, is_some, codes, bytes_eq, if◌then◌else◌}
use Rattle.pictures.specs.Transcript.Lines.{after_prefix}
use Rattle.pictures.specs.Transcript.Turns.{words}
use Rattle.pictures.specs.Transcript.Words.{is_bytes, read_number}
use Rattle.pictures.specs.declared.transcript.turn.Origin.{Origin}
use denote.Ref.{Bor}

-- a space, and what follows it, if there is one
abbrev pub after_word : Option (Bor (List ℕ)) → List ℕ
after_word None = []
after_word (Some rest) = 32 ∷ rest.now

-- its words
abbrev pub words_in : Option (Bor (List ℕ)) → List (List ℕ)
words_in None = []
words_in (Some rest) = words rest.now

abbrev pub origin_in : List ℕ → Option Origin
origin_in word =
    if bytes_eq word (codes "event") then Some Origin.Event
    else if bytes_eq word (codes "synch") then Some Origin.Synch
    else if bytes_eq word (codes "poll") then Some Origin.Poll
    else if bytes_eq word (codes "callback") then Some Origin.Callback
    else if bytes_eq word (codes "answer") then Some Origin.Answer
    else None

-- by the test of what follows a word, or otherwise
abbrev pub is_by : Option (List ℕ) → (List ℕ → Bool) → Bool → Bool
is_by (Some rest) test other = test rest
is_by None test other = other

abbrev pub is_input_text : List ℕ → Bool
is_input_text text =
    is_by (after_prefix (codes "tick ") text) (λ word. is_some (read_number word))
    (is_by (after_prefix (codes "serial ") text) is_bytes (is_by (after_prefix (codes "frame ") text) is_bytes false))

abbrev pub is_note_text : List ℕ → Bool
is_note_text text =
    is_by (after_prefix (codes "lost ") text) (λ word. is_some (read_number word))
    (is_by (after_prefix (codes "sent ") text) is_bytes false)
