-- Worked examples: small scripts and small transcripts.
use Rattle.std.proofs.Common.{◌≡◌, ◌≤◌, ℕ, true, false, ◌∷◌, codes, refl, ◌∙◌, arith, lit≤, []}
use Rattle.mote_text.proofs.Common.{encode_with, Entry, Input, entry_line, line_of, inputs, read_line, script_limit, whole_lines, End}
use Rattle.std.specs.Fmt.{digits}
use Rattle.std.specs.List.{list_all, list_any}
use Rattle.mote_types.specs.declared.call.Call.{Call}
use Rattle.mote_types.specs.declared.entry.Note.{Note}
use Rattle.mote_types.specs.declared.event.Origin.{Origin}
use Rattle.mote_types.specs.declared.event.Payload.{Payload}
use Rattle.mote_types.specs.declared.event.Stimulus.{Stimulus}
use Rattle.mote_types.specs.declared.refusal.Refusal.{Refusal}
use Rattle.mote_types.specs.declared.reply.Reply.{Reply}
use Rattle.mote_text.proofs.WholeLines.{inputs_of_short}
use Rattle.mote_text.specs.Code.EntryLines.{entry_line_limit}
use Rattle.mote_text.specs.Script.{script_lines}
use Rattle.mote_text.specs.Transcript.{final_line, prints_or_sends, text}

small : (n : ℕ) → n ≤ 1000 → n ≤ script_limit
unfolding script_limit
small n h = omega arith

-- a comment and an empty line count, and the last line needs no end
two_ticks : inputs (codes "tick 5\n# x\n\ntick 7") ≡ (Input.Tick 5 ∷ Input.Tick 7 ∷ [], End.Finished)
unfolding read_line
two_ticks = inputs_of_short (codes "tick 5\n# x\n\ntick 7") (small 18 (lit≤ tt)) ∙ refl

-- what follows the first malformed line doesn't count
a_bad_line : inputs (codes "tick 5\n\nticks 1\ntick 7\n") ≡ (Input.Tick 5 ∷ [], End.BadLine 3)
unfolding read_line
a_bad_line = inputs_of_short (codes "tick 5\n\nticks 1\ntick 7\n") (small 23 (lit≤ tt)) ∙ refl

nothing : inputs [] ≡ ([], End.Finished)
unfolding read_line
nothing = grind (arith, inputs_of_short, small)

-- of a script that is read as a whole, too, a newline ends a line, and the last line may have none; after the last newline is no line
lines : (script_lines [] ≡ []) × (script_lines (codes "a\nb") ≡ codes "a" ∷ codes "b" ∷ []) × (script_lines (codes "a\nb\n") ≡ codes "a" ∷ codes "b" ∷ [])
    × (script_lines (codes "\n") ≡ [] ∷ []) × (script_lines (codes "a\n\nb\n\n") ≡ codes "a" ∷ [] ∷ codes "b" ∷ [] ∷ [])
lines = (refl, refl, refl, refl, refl)

no_such_lines : (script_lines (codes "\n") ≡ [] → ⊥) × (script_lines (codes "a\n") ≡ codes "a" ∷ [] ∷ [] → ⊥) × (script_lines (codes "a\n\nb") ≡ codes "a" ∷ codes "b" ∷ [] → ⊥)
no_such_lines = (λ e. absurd (cc), λ e. absurd (cc), λ e. absurd (cc))

-- the last line has not ended
one_whole_line : whole_lines (codes "tick 5\ntick") ≡ codes "tick 5" ∷ []
one_whole_line = refl

abbrev printed : Entry
printed = Entry.Turn (record { 0 = 4 }) Origin.Answer (Stimulus.Answer Reply.Done) (Call.Print (record { items = 104 ∷ 105 ∷ 10 ∷ [] }))

line_of_a_turn : entry_line printed ≡ codes "4 answer done -> print 68690a\n"
unfolding entry_line line_of digits encode_with
line_of_a_turn = refl

-- its end included
most_of_a_line : entry_line_limit ≡ 640
most_of_a_line = refl

text_of_a_bad_script : text false (Entry.Input (Input.Tick 5) ∷ Entry.Halt ∷ []) (End.BadLine 3) ≡ codes "> tick 5\nhalt\nbad line 3\n"
unfolding entry_line line_of digits
text_of_a_bad_script = refl

too_long : final_line End.TooLong ≡ codes "too long\n"
unfolding line_of
too_long = refl

shown_quietly : text true (Entry.Input (Input.Tick 5) ∷ printed ∷ Entry.Note (Note.Lost Refusal.NotLive) ∷ Entry.Halt ∷ []) End.Halted
    ≡ codes "4 answer done -> print 68690a\nhalt\n"
unfolding prints_or_sends entry_line line_of digits encode_with
shown_quietly = refl

-- only these turns are shown
quiet_calls : list_all prints_or_sends (Call.Print (record { items = [] }) ∷ Call.PacketSend 0 ∷ []) ≡ true
unfolding prints_or_sends
quiet_calls = refl

other_calls : list_any prints_or_sends
    (Call.Wait ∷ Call.PostSynch 4 140 Payload.Empty ∷ Call.MmemRead 0 0 1 ∷ Call.PacketOpen ∷ Call.PacketRead 0 1 ∷ Call.PacketDone ∷ [])
    ≡ false
unfolding prints_or_sends
other_calls = refl
