-- The line of an entry, as it is written word by word.
use Rattle.std.specs.Prelude.{ℕ, List, ◌++◌, drop, flat_map, codes}
use Rattle.mote_types.specs.declared.entry.Entry.{Entry}
use Rattle.mote_types.specs.declared.entry.Input.{Input}
use Rattle.mote_types.specs.declared.entry.Note.{Note}
use Rattle.mote_text.specs.EntryText.{Word, entry_words}

-- a blank after each word
unfoldable pub blanked : List Word → List ℕ
blanked words = flat_map (λ word. word ++ codes " ") words

-- what follows the first word of an input's line, and of a note's
abbrev pub input_words : Input → List Word
input_words input = drop 1 (entry_words (Entry.Input input))

abbrev pub note_words : Note → List Word
note_words note = drop 1 (entry_words (Entry.Note note))

-- no line of an entry has more bytes, with its end
abbrev pub entry_line_limit : ℕ
entry_line_limit = 640
