-- The text of a run: the lines of its entries, then the final line.
use Rattle.std.specs.Prelude.{Bool, true, not, ◌||◌, List, [], ◌∷◌, ◌++◌, flat_map, filter, slice_index_or, codes, decimal}
use Rattle.std.specs.List.{list_any}
use Rattle.std.specs.Str.{bytes_eq}
use Rattle.mote_types.specs.Kinds.{Bytes}
use Rattle.mote_types.specs.declared.call.Call.{Call}
use Rattle.mote_types.specs.declared.entry.Note.{Note}
use Rattle.mote_types.specs.declared.entry.Entry.{Entry}
use Rattle.mote_text.specs.EntryText.{call_words, entry_line, line_of}
use Rattle.mote_text.specs.declared.script.End.{End}

-- what is written if the script isn't read to its end
abbrev pub final_line : End → Bytes
final_line End.Finished = []
final_line End.Halted = []
final_line (End.BadLine n) = line_of (codes "bad" ∷ codes "line" ∷ decimal n ∷ [])
final_line End.TooLong = line_of (codes "too" ∷ codes "long" ∷ [])

-- whether a quiet transcript shows the turns of this call, by its first word
unfoldable pub prints_or_sends : Call → Bool
prints_or_sends call = list_any (bytes_eq (slice_index_or (call_words call) 0 [])) (codes "print" ∷ codes "packet-send" ∷ [])

-- a quiet transcript shows the turns that print or send, the frames that were sent, and the halt
abbrev pub is_shown : Entry → Bool → Bool
is_shown (Entry.Input input) quiet = not quiet
is_shown (Entry.Turn pid origin stimulus call) quiet = not quiet || prints_or_sends call
is_shown (Entry.Note (Note.Lost refusal)) quiet = not quiet
is_shown (Entry.Note (Note.Sent bytes)) quiet = true
is_shown Entry.Halt quiet = true

abbrev pub text : Bool → List Entry → End → Bytes
text quiet entries end = flat_map entry_line (filter (λ entry. is_shown entry quiet) entries) ++ final_line end
