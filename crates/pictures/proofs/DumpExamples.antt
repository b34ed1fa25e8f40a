-- Examples: lines of a dump, the times that it spans, and lines that are told.
use Rattle.std.proofs.Common.{◌≡◌, ◌*◌, ℕ, Some, None, List, [], ◌∷◌, codes, refl, subst, arith}
use Rattle.std.specs.Fmt.{digits}
use Rattle.pictures.specs.Clocks.{clock_at}
use Rattle.pictures.specs.Rows.{text_at}
use Rattle.pictures.specs.declared.dump.values.Value.{Value}
use Rattle.pictures.specs.declared.transcript.line.Input.{Input}
use Rattle.pictures.specs.declared.transcript.line.Line.{Line}
use Rattle.pictures.specs.declared.transcript.line.Note.{Note}
use Rattle.pictures.specs.Dump.{AreChanges, IsRunning, IsTold, Spans, moment, time_line, value_line}
use Rattle.pictures.specs.Dump.AreChanges.{begun, later, set}
use Rattle.pictures.specs.Dump.HasAt.{given, later as after}
use Rattle.pictures.specs.Dump.IsRunning.{first as begins, more}
use Rattle.pictures.specs.declared.rows.Shown.{Shown}

time : time_line 120 ≡ codes "#120\n"
unfolding digits
time = refl

-- for the first signal
number : value_line (Value.Number 5) 0 ≡ codes "b101 !\n"
unfolding digits
number = refl

-- values that are no numbers
unknown : value_line Value.Unknown 2 ≡ codes "bx #\n"
unknown = refl

nothing : value_line Value.Nothing 0 ≡ codes "bz !\n"
nothing = refl

-- a line at clock 5, where a tick has 10 units of time
abbrev lines : List (List ℕ)
lines = codes "> tick 5" ∷ []

abbrev shown : Shown
shown = record { first = 0; end = 1 }

changes : AreChanges 50 60 (codes "#50\nbz !\n#60\n")
unfolding digits
changes = later (set (begun 50) Value.Nothing 0 (omega arith)) 60 (omega arith)

-- no process takes its turn there
told : IsTold (clock_at lines) (text_at lines) 10 0 60 (codes "#50\nbz !\n#60\n")
unfolding digits
told = record {
  running = None;
  runs = begins 0 (Some (Line.Input (Input.Tick 5))) refl (refl, refl);
  told = after (given (begun 50) (omega arith)) 60 (omega arith);
}

spans : Spans lines shown 50 60 (codes "#50\nbz !\n#60\n")
spans = record {
  units = 10;
  some = omega arith;
  begins = refl;
  ends = omega arith;
  told = λ few line order inside early.
      let first : 0 ≡ line = omega arith in
      subst (λ line. IsTold (clock_at lines) (text_at lines) 10 line 60 (codes "#50\nbz !\n#60\n")) first told;
}

-- a note belongs to the turn before it
note : (texts : ℕ → List ℕ) → IsRunning (λ line. 5) texts 0 (Some 4) → texts 1 ≡ codes "note lost 3" → IsRunning (λ line. 5) texts 1 (Some 4)
unfolding digits
note texts before text = more before (Some (Line.Note (Note.Lost 3))) refl (text, refl)

-- nothing after the line, and a dump of no lines, which begins at 0
too_short : (values : List ℕ) → Spans lines shown 50 50 values → ⊥
too_short values spans =
    let begins : 50 ≡ spans.units * 5 = omega (arith, spans.begins) in
    absurd (omega (arith, begins, spans.ends))

too_early : (values : List ℕ) → Spans lines shown 0 60 values → ⊥
too_early values spans = absurd (omega (arith, spans.begins, spans.some))

-- lines at one clock stand one behind the other
second : moment (λ line. 5) 10 2 ≡ 52
second = refl

-- a later clock begins anew
apart : moment (λ line. line) 10 2 ≡ 20
apart = refl
