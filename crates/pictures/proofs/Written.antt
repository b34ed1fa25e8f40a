-- What a write to a dump keeps.
use Rattle.std.proofs.Common.{◌≡◌, ◌∙◌, ℕ, zero, suc, Bool, true, false, ◌+◌, ◌-◌, ◌^◌, ◌<◌, ◌==◌, ◌++◌, min, max, nat_le, get_or, set, Option, Some, None, List, [], ◌∷◌, length, if◌then◌else◌, refl, sym, ap, arith}
use Rattle.std.proofs.lemmas.Bool.Decides.{nat_tests}
use Rattle.pictures.specs.Dump.{AreChanges, HasAt, IsReading, Values, gone_to, running_after, running_value, time_line, value_line}
use Rattle.pictures.specs.Dump.HasAt.{given, kept, later}
use Rattle.pictures.specs.Code.Dump.{IsCurrent, TakesLine, Writes, first_written, line_time, lines_at, next_time, running_at}
use Rattle.pictures.specs.declared.dump.values.Value.{Value}
use Rattle.pictures.specs.declared.dump.Walk.{Walk}
use Rattle.pictures.specs.declared.dump.levels.Levels.{Levels}
use Rattle.pictures.specs.declared.transcript.line.Line.{Line}

module _ (old : Values) (time : ℕ) where
  abbrev gone : Bool → Values
  gone late = if late then old else record { first = old.first; last = time; text = old.text ++ time_line time }

  last_by : (late : Bool) → nat_le time old.last ≡ late → (gone late).last ≡ max old.last time
  last_by true test = grind (arith, nat_tests, test)
  last_by false test = grind (arith, nat_tests, test)

  pub gone_last : (gone_to old time).last ≡ max old.last time
  gone_last = last_by (nat_le time old.last) refl

  keeps_by : (late : Bool) → nat_le time old.last ≡ late → (value : Value) (earlier : ℕ) → HasAt 0 value earlier old.last old.text
      → HasAt 0 value earlier (gone late).last (gone late).text
  keeps_by true test value earlier has = has
  keeps_by false test value earlier has = later has time (grind (arith, nat_tests, test))

  pub gone_keeps : (value : Value) (earlier : ℕ) → HasAt 0 value earlier old.last old.text
      → HasAt 0 value earlier (gone_to old time).last (gone_to old time).text
  gone_keeps = keeps_by (nat_le time old.last) refl

pub writes_none : (walk : Walk) → IsCurrent walk → Writes walk walk
writes_none walk current = record { current = current; last = omega arith; keeps = λ value earlier before has. has }

-- what was written of the first signal
pub first_set : (written : List (Option Value)) (index : ℕ) (value running : Value) → index < length written
    → (index ≡ 0 → value ≡ running)
    → get_or (set written index (Some value)) 0 None ≡ (if index == 0 then Some running else get_or written 0 None)
first_set [] index value running inside same = absurd (omega (arith, inside))
first_set (one ∷ written) zero value running inside same = ap (λ value. Some value) (same refl)
first_set (one ∷ written) (suc index) value running inside same = grind arith

pub first_same : (written : List (Option Value)) (index : ℕ) (value running : Value) → get_or written index None ≡ Some value
    → (index ≡ 0 → value ≡ running) → get_or written 0 None ≡ (if index == 0 then Some running else get_or written 0 None)
first_same written zero value running is same = is ∙ ap (λ value. Some value) (same refl)
first_same written (suc index) value running is same = grind arith

pub writes_more : (old mid new : Walk) → next_time mid ≡ next_time old → Writes old mid → Writes mid new → Writes old new
writes_more old mid new same first next = record {
  current = next.current;
  last = omega (arith, first.last, next.last, same);
  keeps = λ value earlier before has. next.keeps value earlier (omega (arith, before, same)) (first.keeps value earlier before has);
}

-- a value of the signal at a position is written, at the present time
module _ (old new : Walk) (current : IsCurrent old) (mid : Values) (index : ℕ) (value : Value)
    (gone : mid ≡ gone_to old.dump (next_time old)) (changes : AreChanges mid.first mid.last mid.text)
    (whole : new.dump ≡ record { first = mid.first; last = mid.last; text = mid.text ++ value_line value index }) where
  last : new.dump.last ≡ mid.last
  last = ap (λ values. values.last) whole

  text : new.dump.text ≡ mid.text ++ value_line value index
  text = ap (λ values. values.text) whole

  reached : mid.last ≡ max old.dump.last (next_time old)
  reached = ap (λ values. values.last) gone ∙ gone_last old.dump (next_time old)

  stays : (other : Value) (earlier : ℕ) → (index ≡ 0 → earlier < mid.last) → HasAt 0 other earlier old.dump.last old.dump.text
      → HasAt 0 other earlier new.dump.last new.dump.text
  stays other earlier before has =
      let moved : HasAt 0 other earlier mid.last mid.text = rw gone (gone_keeps old.dump (next_time old) other earlier has) in
      rw (last, text) (kept moved value index before)

  given_by : (is_first : Bool) → (index == 0) ≡ is_first → first_written new ≡ (if is_first then Some value else first_written old)
      → IsCurrent new
  given_by true test written other is time order =
      let first : index ≡ 0 = grind (arith, nat_tests, test) in
      let same : value ≡ other = cc (sym written ∙ is) in
      rw (last, text, first, ← same) (given changes (omega (arith, last, order)))
  given_by false test written other is time order =
      let second : index ≡ 0 → ⊥ = λ zero. grind (arith, nat_tests, test, zero) in
      stays other time (λ zero. absurd (second zero)) (current other (sym written ∙ is) time (omega (arith, last, order, reached)))

  pub writes_one : first_written new ≡ (if index == 0 then Some value else first_written old) → Writes old new
  writes_one written = record {
    current = given_by (index == 0) refl written;
    last = omega (arith, last, reached);
    keeps = λ other earlier before has. stays other earlier (λ zero. omega (arith, before, reached)) has;
  }

-- a line is written: the walk goes on to its clock, and the values change there
pub takes_line : (line : List ℕ) (clock lines : ℕ) (old mid new : Walk) (levels : Levels) → mid.clock ≡ clock
    → mid.scale.units ≡ old.scale.units → mid.lines_at_clock ≡ lines_at old clock
    → mid.levels.running ≡ running_at old clock → Writes old mid
    → Writes (record mid { levels = levels }) new → new.lines_at_clock ≡ mid.lines_at_clock → new.levels ≡ levels
    → lines ≡ min (new.lines_at_clock + 1) (2 ^ 64 - 1)
    → ((reading : Option Line) × IsReading line reading × (levels.running ≡ running_after reading mid.levels.running))
    → first_written new ≡ Some (running_value levels.running) → TakesLine line clock old (record new { lines_at_clock = lines })
takes_line line clock lines old mid new levels now scale here run first next stays held more reads written =
    let same : next_time (record mid { levels = levels }) ≡ line_time old clock = rw (now, scale, here) refl in
    record {
      lines = more ∙ ap (λ n. min (n + 1) (2 ^ 64 - 1)) (stays ∙ here);
      current = next.current;
      last = omega (arith, first.last, next.last, same);
      keeps = λ time one other value earlier before has.
          next.keeps value earlier (omega (arith, before, other, same)) (first.keeps value earlier (omega (arith, before, one)) has);
      reading = reads.0;
      reads = reads.1;
      runs = ap (λ levels. levels.running) held ∙ reads.2 ∙ ap (running_after reads.0) run;
      written = written ∙ ap (λ levels. Some (running_value levels.running)) (sym held);
    }
