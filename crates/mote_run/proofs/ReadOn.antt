-- The script read so far, after a take of more bytes, and at its end.
use Rattle.std.proofs.Common.{◌≡◌, ◌≢◌, ◌<◌, ◌≤◌, ◌+◌, ℕ, true, false, List, ◌∷◌, ◌++◌, length, take, drop, ◌-◌, refl, sym, arith, append_assoc, length-append, not, ◌==◌, Bool, OnErr, OnOk, Some, None, Result, Ok, Err, []}
use Rattle.mote_run.proofs.Common.{nat_tests, append-nil, length-take, length-take-le, Input, Taken, BadLine, End, GoesOnAt, has_no_end, unfinished, unfinished_after, with_end, Before, inputs, line_limit, read_line, script_limit, Gives, another_byte, line_of_input, line_of_no_form, line_of_nothing, line_too_long, script_limit_is, script_too_long, Script, ReadPart, ReadSoFar, Takes, number_after, said}
use Rattle.std.proofs.lemmas.Bool.{and_parts, eqb-true}
use Rattle.std.proofs.lemmas.List.{nil_from_length}
use Rattle.mote_text.specs.Code.LineAnswers.{line_said}
use Rattle.mote_run.proofs.Windows.{next_byte, used_and_later}

-- the bytes with the line's end
abbrev pub ended_by : Taken → List ℕ → List ℕ
ended_by Taken.Line line = line ++ 10 ∷ []
ended_by Taken.More bytes = []
ended_by Taken.TooWide bytes = []

-- a full line, which another byte of the same line follows, within the script limit
pub record IsOverlong (ended : ℕ) (bytes later : List ℕ) : Type 0 where
  pub full : length bytes ≡ line_limit
  pub room : ended + length bytes < script_limit
  pub byte : ℕ
  pub tail : List ℕ
  pub is : later ≡ byte ∷ tail
  pub other : byte ≢ 10

not_end : (byte : ℕ) → not (byte == 10) ≡ true → byte ≢ 10
not_end byte h = grind arith

-- bytes without a line end continue the current line
more_of_line : {taken : List ℕ} {earlier : List Input} {number : ℕ} {line : List ℕ} (bytes : List ℕ) → Before taken earlier number line
    → has_no_end bytes ≡ true →
    length line + length bytes ≤ line_limit → length taken + length bytes ≤ script_limit
    → Before (taken ++ bytes) earlier number (line ++ bytes)
more_of_line {taken} {earlier} {number} {line} [] before endless narrow room = rw (append-nil taken, append-nil line) before
more_of_line {taken} {earlier} {number} {line} (byte ∷ bytes) before endless narrow room =
    let e = and_parts (not (byte == 10)) (has_no_end bytes) endless in
    rw (append_assoc taken (byte ∷ []) bytes, append_assoc line (byte ∷ []) bytes) at
    (more_of_line bytes (another_byte byte before (omega (arith, room)) (not_end byte e.0) (omega (arith, narrow))) e.1
    (omega (arith, narrow, length-append line (byte ∷ []))) (omega (arith, room, length-append taken (byte ∷ []))))

module _ {ended : List ℕ} {earlier : List Input} {number : ℕ} (before : Before ended earlier number []) where
  -- the unfinished current line
  pub in_line : (line : List ℕ) → length line ≤ line_limit → has_no_end line ≡ true → length ended + length line ≤ script_limit
      → Before (ended ++ line) earlier number line
  in_line line narrow endless room = more_of_line line before endless (omega arith) room

  module _ (line : List ℕ) (narrow : length line ≤ line_limit) (endless : has_no_end line ≡ true)
      (room : length ended + length (line ++ 10 ∷ []) ≤ script_limit) where
    here : Before (ended ++ line) earlier number line
    here = in_line line narrow endless (omega (arith, length-append line (10 ∷ [])))

    room_for_end : length (ended ++ line) < script_limit
    room_for_end = grind (arith, length-append)

    says_nothing : read_line line ≡ Some None → Before (ended ++ (line ++ 10 ∷ [])) earlier (number + 1) []
    says_nothing says = rw (append_assoc ended line (10 ∷ [])) at (line_of_nothing 10 here room_for_end refl says)

    says_input : (input : Input) → read_line line ≡ Some (Some input)
        → Before (ended ++ (line ++ 10 ∷ [])) (earlier ++ input ∷ []) (number + 1) []
    says_input input says = rw (append_assoc ended line (10 ∷ [])) at (line_of_input 10 here input room_for_end refl says)

    has_no_form : read_line line ≡ None → Gives (ended ++ (line ++ 10 ∷ [])) earlier (End.BadLine number)
    has_no_form says = rw (append_assoc ended line (10 ∷ [])) at (line_of_no_form 10 here room_for_end refl says)

  pub nothing_said : (last : Taken) (bytes : List ℕ) → length ended + length (with_end last bytes) ≤ script_limit
      → length bytes ≤ line_limit → has_no_end bytes ≡ true →
      said last bytes ≡ Some None → Before (ended ++ ended_by last bytes) earlier (number_after last number) []
  nothing_said Taken.Line bytes room narrow endless says = says_nothing bytes narrow endless room says
  nothing_said Taken.More bytes room narrow endless says = rw (append-nil ended) before
  nothing_said Taken.TooWide bytes room narrow endless says = cc

  pub input_said : (last : Taken) (bytes : List ℕ) (input : Input) → length ended + length (with_end last bytes) ≤ script_limit
      → length bytes ≤ line_limit → has_no_end bytes ≡ true →
      said last bytes ≡ Some (Some input) → Before (ended ++ ended_by last bytes) (earlier ++ input ∷ []) (number_after last number) []
  input_said last bytes input room narrow endless says = grind (arith, says_input)

  -- what follows those bytes doesn't matter
  pub no_form_said : (last : Taken) (bytes later : List ℕ) → length ended + length (with_end last bytes) ≤ script_limit
      → length bytes ≤ line_limit → has_no_end bytes ≡ true →
      (last ≡ Taken.TooWide → IsOverlong (length ended) bytes later) →
      said last bytes ≡ None → (more : List ℕ) → inputs ((ended ++ (with_end last bytes ++ later)) ++ more) ≡ (earlier, End.BadLine number)
  no_form_said Taken.Line bytes later room narrow endless wide says = λ more.
      rw (
        append_assoc ended ((bytes ++ 10 ∷ []) ++ later) more,
        append_assoc (bytes ++ 10 ∷ []) later more,
        ← append_assoc ended (bytes ++ 10 ∷ []) (later ++ more),
      )
      (grind (arith, has_no_form))
  no_form_said Taken.More bytes later room narrow endless wide says = cc
  no_form_said Taken.TooWide bytes later room narrow endless wide says = λ more.
      let w = wide refl in
      rw (
        w.is,
        append_assoc ended (bytes ++ (w.byte ∷ w.tail)) more,
        append_assoc bytes (w.byte ∷ w.tail) more,
        ← append_assoc ended bytes (w.byte ∷ (w.tail ++ more)),
      )
      (rw (append_assoc (ended ++ bytes) (w.byte ∷ []) (w.tail ++ more)) at
      (line_too_long w.byte (in_line bytes narrow endless room) (omega (arith, w.room, length-append ended bytes)) w.other
      (omega (arith, w.full)) (w.tail ++ more)))

pub beyond_limit : {taken : List ℕ} {earlier : List Input} {number : ℕ} {line : List ℕ} (rest : List ℕ) → (length rest == 0) ≡ false
    → Before taken earlier number line →
    script_limit ≤ length taken → (more : List ℕ) → inputs ((taken ++ rest) ++ more) ≡ (earlier, End.TooLong)
beyond_limit [] some before full more = cc
beyond_limit {taken} (byte ∷ tail) some before full more =
    rw (append_assoc taken (byte ∷ tail) more)
    (rw (append_assoc taken (byte ∷ []) (tail ++ more)) at (script_too_long byte before full (tail ++ more)))

pub none_left : (rest : List ℕ) → (length rest == 0) ≡ true → rest ≡ []
none_left rest h = nil_from_length rest (eqb-true (length rest) 0 h)

module _ (last : Taken) (bytes : List ℕ) where
  pub endless_after : has_no_end bytes ≡ true → has_no_end (unfinished_after last bytes) ≡ true
  endless_after endless = grind arith

  module _ (ended : List ℕ) where
    pub parted : (later : List ℕ)
        → ended ++ (with_end last bytes ++ later) ≡ (ended ++ ended_by last bytes) ++ (unfinished_after last bytes ++ later)
    parted later = grind (arith, append_assoc, append-nil)

    pub sizes : length (ended ++ ended_by last bytes) + length (unfinished_after last bytes) ≡ length ended + length (with_end last bytes)
    sizes = grind (arith, length-append, append-nil)

-- what a take returns
module _ (read : List ℕ) (earlier : List Input) (old new : Script) (used : ℕ) (window : List ℕ)
    (is_window : window ≡ take (16_777_216 - old.taken) old.piece)
    (rests : new.piece ≡ drop used old.piece) (counts : new.taken ≡ old.taken + used) (limit : old.taken ≤ 16_777_216)
    (few : used ≤ length window)
    (so_far : ReadSoFar read earlier old) where
  abbrev line : List ℕ
  line = unfinished old.reader.lines

  within : used ≤ length (take (16_777_216 - old.taken) old.piece)
  within = rw is_window at few

  module _ (last : Taken) (bytes : List ℕ) (joined : line ++ take used window ≡ with_end last bytes) (narrow : length bytes ≤ line_limit)
      (endless : has_no_end bytes ≡ true) where
    all_read : read ≡ so_far.ended ++ (with_end last bytes ++ new.piece)
    all_read = grind (arith, nat_tests, used_and_later, append_assoc)

    size : length so_far.ended + length (with_end last bytes) ≡ new.taken
    size = grind (arith, length-append, length-take-le)

    room : length so_far.ended + length (with_end last bytes) ≤ script_limit
    room = grind (arith, size, length-take, script_limit_is)

    -- further lines have ended, or none has
    reads_on : (inputs_later : List Input) → unfinished new.reader.lines ≡ unfinished_after last bytes →
        Before (so_far.ended ++ ended_by last bytes) inputs_later new.reader.number [] → ReadSoFar read inputs_later new
    reads_on inputs_later begun before = grind (arith, nat_tests, all_read, parted, size, sizes)

    -- the byte after an overlong line is within the script limit
    goes_on : length bytes ≡ line_limit → GoesOnAt window used → with_end last bytes ≡ bytes
        → IsOverlong (length so_far.ended) bytes new.piece
    goes_on full at same = grind (arith, nat_tests, script_limit_is, next_byte, size, length-take)

    takes_so : (says : Result Bool BadLine) → unfinished new.reader.lines ≡ unfinished_after last bytes
        → line_said says new.reader.input ≡ said last bytes →
        OnOk says (new.reader.number ≡ number_after last old.reader.number) → OnErr says (new.reader.number ≡ old.reader.number) →
        (last ≡ Taken.TooWide → (length bytes ≡ line_limit) × GoesOnAt window used) → Takes read earlier new says
    takes_so (Ok false) begun says numbered same wide =
        reads_on earlier begun (rw numbered (nothing_said so_far.before last bytes room narrow endless (sym says)))
    takes_so (Ok true) begun says numbered same wide =
        reads_on _ begun (rw numbered (input_said so_far.before last bytes new.reader.input room narrow endless (sym says)))
    takes_so (Err fault) begun says numbered same wide = λ more.
        rw (all_read, same) (no_form_said so_far.before last bytes new.piece room narrow endless
        (λ is. let w = wide is in goes_on w.0 w.1 (rw is refl)) (sym says) more)

  pub takes : (says : Result Bool BadLine)
      → ReadPart line window (unfinished new.reader.lines) used old.reader.number new.reader.number says new.reader.input →
      Takes read earlier new says
  takes says r = grind (arith, takes_so)
