-- Examples: words for small lines.
use Rattle.std.proofs.Common.{◌≡◌, ◌++◌, [], ◌∷◌, codes, refl}
use Rattle.std.specs.Fmt.{digits}
use Rattle.pictures.specs.declared.transcript.line.Note.{Note}
use Rattle.pictures.specs.declared.transcript.turn.Origin.{Origin}
use Rattle.pictures.specs.Words.{reply_words, closing, cross, dots, last_words, line_end, note_words, opening, reason, space, shown_bytes, stimulus_by, event_stimulus}

queue_full : reason (codes "1") ≡ codes "queue full"
queue_full = refl

no_reason : reason (codes "19") ≡ codes "refused"
no_reason = refl

a_text : shown_bytes 24 (codes "\n") ≡ opening ++ line_end ++ closing
a_text = refl

-- one byte that is no text makes all bytes numbers
no_text : shown_bytes 24 (111 ∷ 0 ∷ []) ≡ codes "6f 00 "
no_text = refl

a_long_text : shown_bytes 1 (codes "\n\n") ≡ opening ++ line_end ++ closing ++ dots ++ codes " 2 bytes"
unfolding digits
a_long_text = refl

nine_numbers : shown_bytes 24 (1 ∷ 2 ∷ 3 ∷ 4 ∷ 5 ∷ 6 ∷ 7 ∷ 8 ∷ 9 ∷ []) ≡ codes "01 02 03 04 05 06 07 08 " ++ dots ++ codes " 9 bytes"
unfolding digits
nine_numbers = refl

none : shown_bytes 24 [] ≡ dots ++ codes " 0 bytes"
unfolding digits
none = refl

an_init : event_stimulus (codes "129 -") ≡ codes "INIT"
an_init = refl

a_timer : event_stimulus (codes "136 3") ≡ codes "TIMER 3"
a_timer = refl

a_number : event_stimulus (codes "140 7") ≡ codes "event 140 7"
a_number = refl

a_reply : stimulus_by Origin.Answer (codes "done") ≡ []
a_reply = refl

a_callback : stimulus_by Origin.Callback (codes "2") ≡ codes "callback 2"
a_callback = refl

refused : reply_words (codes "refused 12") ≡ space ++ space ++ cross ++ codes " no room (12)"
refused = refl

done : reply_words (codes "done") ≡ []
done = refl

a_value : reply_words (codes "num 44") ≡ space ++ space ++ codes "=" ++ space ++ codes "44"
a_value = refl

its_last : last_words (codes "timer-set") (codes "10") ≡ codes " 10"
its_last = refl

no_payload : last_words (codes "post") (codes "-") ≡ []
no_payload = refl

eight_held : note_words (Note.Lost 1) ≡ cross ++ codes " the frame is lost: 8 are held (1)"
unfolding digits
eight_held = refl

no_room : note_words (Note.Lost 18) ≡ cross ++ codes " the frame is lost: no room in managed memory (18)"
unfolding digits
no_room = refl
