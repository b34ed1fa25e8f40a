-- How a run continues from one part of its script to the next, and how it ends.
use Rattle.std.proofs.Common.{◌≡◌, ◌≤◌, ◌<◌, ◌+◌, ◌-◌, ℕ, Bool, true, false, List, ◌∷◌, ◌++◌, length, refl, sym, ap, ◌∙◌, append_assoc, length-append, arith, ◌==◌, Option, Result, Ok, IsErr, IsErrOf, if◌then◌else◌, []}
use Rattle.std.proofs.lemmas.List.{nil_from_length}
use Rattle.std.proofs.lemmas.Result.{IfOk-from_err}
use Rattle.mote_run.proofs.Common.{append-nil, Input, has_no_end, unfinished, Before, read_on, Reading, inputs, preceded_by, read_line, script_limit, script_limit_is, with_line, final_line, End, is_still, RunFault, Script, GoesOnFrom, HasCome, HasRead, IsReady, Ran, ReadWhileRunning, WroteWholeLines, ReadSoFar, Moment, Went, end_at, WritesOn}
use Rattle.mote_run.proofs.ReadOn.{beyond_limit, in_line, none_left}
use Rattle.mote_run.proofs.Ways.{nothing_follows, went_further, went_written}

pub no_last_line : (halted : Bool) → final_line (if halted then End.Halted else End.Finished) ≡ []
no_last_line true = refl
no_last_line false = refl

module _ {read : List ℕ} {earlier : List Input} {script : Script} (so_far : ReadSoFar read earlier script) where
  abbrev line : List ℕ
  line = unfinished script.reader.lines

  -- whatever follows in the script
  pub goes_on_so : (more : List ℕ) → (later : Reading) × (inputs (read ++ more) ≡ preceded_by earlier later)
  goes_on_so more = (
    read_on script.reader.number [] (script_limit - length so_far.ended) ((line ++ script.piece) ++ more),
    grind (arith, append_assoc, unfinished),
  )

  module _ (endless : has_no_end line ≡ true) (few : script.taken ≤ 16777216) where
    -- the current line, if all bytes read were used
    in_present_line : Before (so_far.ended ++ line) earlier script.reader.number line
    in_present_line = in_line so_far.before line so_far.narrow endless (omega (arith, script_limit_is))

    -- a byte was read after the script limit
    pub too_long : script.taken ≡ 16777216 → (length script.piece == 0) ≡ false → (more : List ℕ)
        → inputs (read ++ more) ≡ (earlier, End.TooLong)
    too_long full some more =
        rw (so_far.parts, ← append_assoc so_far.ended line script.piece)
        (beyond_limit script.piece some in_present_line (grind (arith, length-append, script_limit_is)) more)

    -- the last line, ended by the end of the script
    pub last_line : (length script.piece == 0) ≡ true → (said : Option (Option Input))
        → said ≡ read_line line → (more : List ℕ) → more ≡ [] →
        inputs (read ++ more) ≡ preceded_by earlier (with_line script.reader.number said ([], End.Finished))
    unfolding read_on
    last_line used_up said says more none =
        rw (none, append-nil read, so_far.parts, none_left script.piece used_up, append-nil line, says)
        (rw (append-nil (so_far.ended ++ line)) at (in_present_line.onward []))

    -- reading failed at rest, with all bytes used and nothing pending
    pub wrote_whole_lines : {quiet : Bool} {start to : Moment} → Went quiet earlier start to → is_still to.machine ≡ true → to.pending ≡ []
        → script.piece ≡ [] → WroteWholeLines quiet read start to.given
    wrote_whole_lines {to = to} went still nothing none = record {
      whole = earlier;
      have_form = grind (arith, append-nil, in_present_line);
      all = λ text end f.
          grind (
            arith,
            no_last_line,
            append-nil,
            nothing_follows to still ([], End.Finished) text end End.Finished (λ h. refl)
                (went.onward ([], End.Finished) text end (rw (append-nil earlier) f)),
          );
    }

    -- at rest, with all bytes used, the run goes on
    pub goes_on_here : {quiet : Bool} {start to : Moment} → Went quiet earlier start to → is_still to.machine ≡ true
        → to.machine.is_halted ≡ false → script.piece ≡ [] → GoesOnFrom quiet start read
    goes_on_here {to = to} went still running none = record {
      whole = earlier;
      have_form = grind (arith, append-nil, in_present_line);
      ends = λ text end f.
          (nothing_follows to still ([], End.Finished) text end End.Finished (λ h. refl)
          (went.onward ([], End.Finished) text end (rw (append-nil earlier) f))).1 ∙ rw running refl;
    }

pub nothing_read : {quiet : Bool} {start : Moment} {taken : List ℕ} → ReadWhileRunning quiet start taken taken
nothing_read {taken = taken} = record {
  before = [];
  piece = [];
  taken = sym (append-nil taken);
  size = omega arith;
  goes_on = λ some. absurd (some refl);
}

module _ {source_named sink_named : Type 0} {quiet : Bool} {taken_old taken_new : List ℕ} {start here : Moment} {script : Script}
    (i : HasCome source_named sink_named quiet taken_old taken_new start here script) where
  -- more bytes were read, or pending text was written
  pub come_refilled : {taken_later given pending piece : List ℕ}
      → (read : List ℕ) × (source_named → taken_later ≡ taken_new ++ read) × (piece ≡ script.piece ++ read)
      → (sink_named → WritesOn here.given here.pending given pending []) →
      HasCome source_named sink_named quiet taken_old taken_later start (record here { given = given; pending = pending })
      (record script { piece = piece })
  come_refilled (more, taken, pieces) writes = record {
    read = i.read ++ more;
    earlier = i.earlier;
    taken = λ named. grind (arith, append_assoc);
    so_far = grind (arith, append_assoc);
    went = λ named. went_further (i.went named) (went_written (writes named));
  }

  -- the next piece was read if this one was used up, otherwise nothing was
  read_after_piece : {taken_later piece : List ℕ} → source_named → sink_named → is_still here.machine ≡ true
      → here.machine.is_halted ≡ false → IsReady script → (old more : List ℕ) → script.piece ≡ old
      → (source_named → taken_later ≡ taken_new ++ more) → piece ≡ script.piece ++ more → length piece ≤ length script.piece + 4096
      → (0 < length script.piece → piece ≡ script.piece)
      → ReadWhileRunning quiet start taken_old taken_new → ReadWhileRunning quiet start taken_old taken_later
  read_after_piece s k still running ready [] more is taken pieces few left so_far = record {
    before = i.read;
    piece = more;
    taken = grind (arith, append_assoc);
    size = omega (arith, ap length pieces ∙ length-append script.piece more);
    goes_on = λ some. goes_on_here i.so_far ready.endless ready.few (i.went k) still running is;
  }
  read_after_piece {taken_later} s k still running ready (byte ∷ old) more is taken pieces few left so_far =
      let none : more ≡ [] = nil_from_length more
      (omega (arith, (ap length (sym pieces ∙ left (rw is (omega arith)))), length-append script.piece more)) in
      let same : taken_later ≡ taken_new = taken s ∙ rw none (append-nil taken_new) in rw same so_far

  pub read_while_running : {taken_later piece : List ℕ} → source_named → sink_named → is_still here.machine ≡ true
      → here.machine.is_halted ≡ false → IsReady script →
      (read : List ℕ) × (source_named → taken_later ≡ taken_new ++ read) × (piece ≡ script.piece ++ read)
      → length piece ≤ length script.piece + 4096 → (0 < length script.piece → piece ≡ script.piece)
      → ReadWhileRunning quiet start taken_old taken_new → ReadWhileRunning quiet start taken_old taken_later
  read_while_running s k still running ready (more, taken, pieces) few left so_far =
      read_after_piece s k still running ready script.piece more refl taken pieces few left so_far

  -- the number of bytes read
  pub few_come : script.taken + length script.piece ≤ 16777217 → source_named
      → (count : ℕ) × (count ≤ 16777216 + 1) × HasRead count taken_old taken_new
  few_come few named =
      (length i.read, grind (arith, length-append), record { bytes = i.read; taken = i.taken named; size = refl })

module _ {quiet : Bool} {read : List ℕ} {is_ended : Bool} {start to : Moment} {earlier : List Input}
    (went : Went quiet earlier start to) where
  -- the run ends: no more input is submitted, or the mote is halted
  pub finished : (answered : End) {said : End} → is_still to.machine ≡ true →
      ((more : List ℕ) → (is_ended ≡ true → more ≡ []) → (later : Reading) × (inputs (read ++ more) ≡ preceded_by earlier later)
      × (to.machine.is_halted ≡ false → later ≡ ([], answered))) → said ≡ end_at to.machine answered →
      Ran quiet read is_ended start to.given (λ end. to.pending ++ final_line end) (Ok said)
  finished answered {said} still gives same = record {
    out = went.out;
    is_given = went.given;
    text = λ more limits text end f.
        let g = gives more limits in
        let n = nothing_follows to still g.0 text end answered g.2 (went.onward g.0 text end (rw g.1 at f)) in
        (to.pending ++ final_line said, rw same n.0, (refl, same ∙ sym n.1));
    after_read_fault = λ failed. absurd (cc);
  }

  pub failed : {answer : Result End RunFault} {left_at : End → List ℕ} → IsErr answer →
      ((more : List ℕ) → (is_ended ≡ true → more ≡ []) → (later : Reading) × (inputs (read ++ more) ≡ preceded_by earlier later)) →
      (IsErrOf answer RunFault.Read → WroteWholeLines quiet read start to.given) → Ran quiet read is_ended start to.given left_at answer
  failed {answer} is_err gives whole = record {
    out = went.out;
    is_given = went.given;
    text = λ more limits text end f.
        let g = gives more limits in
        (_, (went.onward g.0 text end (rw g.1 at f)).is_text, IfOk-from_err answer _ is_err);
    after_read_fault = whole;
  }
