-- Each line of a dump is told at its time.
use Rattle.std.proofs.Common.{◌≡◌, ◌∙◌, ℕ, zero, suc, Bool, true, false, ◌+◌, ◌-◌, ◌*◌, ◌^◌, ◌<◌, ◌≤◌, ◌==◌, min, Option, Some, None, List, [], slice_index_or, eqb, if◌then◌else◌, inl, inr, refl, sym, ap, subst, arith}
use Rattle.std.proofs.lemmas.Bool.{cases_lt}
use Rattle.std.proofs.lemmas.Bool.Decides.{nat_tests}
use Rattle.std.proofs.lemmas.Nat.{mul-add-lt}
use Rattle.std.specs.Option.{option_eq}
use denote.Ref.{Bor}
use Rattle.pictures.specs.Rows.{bytes_of, text_at}
use Rattle.pictures.proofs.Again.{text_is}
use Rattle.pictures.specs.Dump.{IsReading, IsRunning, IsTold, Values, lines_before, moment, running_after}
use Rattle.pictures.specs.Dump.IsRunning.{first, more}
use Rattle.pictures.specs.Code.Dump.{HasRoom, Keeps, TakesLine, line_time, lines_at, next_time}
use Rattle.pictures.specs.declared.dump.Walk.{Walk}
use Rattle.pictures.specs.declared.dump.levels.Levels.{Levels}
use Rattle.pictures.specs.declared.transcript.line.Line.{Line}

-- a line among all
pub takes_at : (lines : List (Bor (List ℕ))) (index clock : ℕ) (old new : Walk) (line : Bor (List ℕ))
    → TakesLine (slice_index_or lines index line).now clock old new → line.now ≡ []
    → TakesLine (text_at (bytes_of lines) index) clock old new
takes_at lines index clock old new line takes none =
    subst (λ text. TakesLine text clock old new) (sym (text_is lines index line none)) takes

pub keeps_told : (clocks : ℕ → ℕ) (texts : ℕ → List ℕ) (units line time : ℕ) (old new : Values) → Keeps time old new
    → moment clocks units line < time → IsTold clocks texts units line old.last old.text
    → IsTold clocks texts units line new.last new.text
keeps_told clocks texts units line time old new keeps before is =
    record { running = is.running; runs = is.runs; told = keeps _ _ before is.told }

-- the process that takes its turn before a line: none before the first one
abbrev pub RunsBefore : (ℕ → ℕ) → (ℕ → List ℕ) → ℕ → Option ℕ → Type 0
RunsBefore clocks texts zero running = running ≡ None
RunsBefore clocks texts (suc line) running = IsRunning clocks texts line running

runs_by : (clocks : ℕ → ℕ) (texts : ℕ → List ℕ) (line : ℕ) (before now : Option ℕ) (reading : Option Line) (same : Bool)
    → (clocks line == clocks (suc line)) ≡ same → IsRunning clocks texts line before → IsReading (texts (suc line)) reading
    → now ≡ running_after reading (if same then before else None) → IsRunning clocks texts (suc line) now
runs_by clocks texts line before now reading true test is reads equal =
    rw equal (more is reading (grind (arith, nat_tests, test)) reads)
runs_by clocks texts line before now reading false test is reads equal = rw equal (first (suc line) reading (rw test refl) reads)

-- the process that takes its turn at one more line
runs_on : (clocks : ℕ → ℕ) (texts : ℕ → List ℕ) (index clock : ℕ) (before now : Option ℕ) (reading : Option Line)
    → clock ≡ clocks (index - 1) → RunsBefore clocks texts index before → IsReading (texts index) reading
    → now ≡ running_after reading (if clock == clocks index then before else None) → IsRunning clocks texts index now
runs_on clocks texts zero clock before now reading here runs reads equal =
    let same : (clock == clocks 0) ≡ true = grind (arith, nat_tests, here) in
    rw (equal, same, runs) (first 0 reading refl reads)
runs_on clocks texts (suc line) clock before now reading here runs reads equal =
    let last : suc line - 1 ≡ line = omega arith in
    let at : clock ≡ clocks line = here ∙ ap clocks last in
    runs_by clocks texts line before now reading (clocks line == clocks (suc line)) refl runs reads
    (equal ∙ ap (λ clock. running_after reading (if clock == clocks (suc line) then before else None)) at)

-- the lines at the present clock so far
abbrev pub so_far : (ℕ → ℕ) → ℕ → ℕ
so_far clocks zero = 0
so_far clocks (suc line) = lines_before clocks line + 1

-- the clock of the line before
abbrev pub last_clock : (ℕ → ℕ) → ℕ → Option ℕ
last_clock clocks zero = None
last_clock clocks (suc line) = Some (clocks line)

count_by : (one other n count now : ℕ) (same : Bool) → (one == other) ≡ same → count ≡ min (n + 1) (2 ^ 64 - 1)
    → now ≡ (if same then min (count + 1) (2 ^ 64 - 1) else 1) → now ≡ min ((if one == other then n + 1 else 0) + 1) (2 ^ 64 - 1)
count_by one other n count now true test total value = rw test (omega (arith, total, value))
count_by one other n count now false test total value = rw test (omega (arith, total, value))

-- one line more is counted
pub count_more : (clocks : ℕ → ℕ) (index count now : ℕ) (before : Option ℕ) (same : Bool) → before ≡ last_clock clocks index
    → count ≡ min (so_far clocks index) (2 ^ 64 - 1) → same ≡ option_eq eqb before (Some (clocks index))
    → now ≡ (if same then min (count + 1) (2 ^ 64 - 1) else 1) → now ≡ min (lines_before clocks index + 1) (2 ^ 64 - 1)
count_more clocks zero count now before same is total test value =
    let first : same ≡ false = test ∙ ap (λ clock. option_eq eqb clock (Some (clocks 0))) is in
    value ∙ ap (λ same. if same then min (count + 1) (2 ^ 64 - 1) else 1) first
count_more clocks (suc line) count now before same is total test value =
    count_by (clocks line) (clocks (suc line)) (lines_before clocks line) count now same
    (sym (test ∙ ap (λ clock. option_eq eqb clock (Some (clocks (suc line)))) is)) total value

-- n lines were taken
pub record IsInStep (clocks : ℕ → ℕ) (units : ℕ) (texts : ℕ → List ℕ) (index : ℕ) (walk : Walk) : Type 0 where
  pub lines : walk.lines_at_clock ≡ min (so_far clocks index) (2 ^ 64 - 1)
  pub last : walk.dump.last ≤ next_time walk
  pub before : (line : ℕ) → line < index → moment clocks units line < walk.clock * units + so_far clocks index
  pub told : (line : ℕ) → line < index → moment clocks units line < 2 ^ 64 - 1
      → IsTold clocks texts units line walk.dump.last walk.dump.text
  pub runs : RunsBefore clocks texts index walk.levels.running

module _ (clocks : ℕ → ℕ) (units count : ℕ) (texts : ℕ → List ℕ) (room : HasRoom clocks units count) where
  lines_here : (index : ℕ) (old : Walk) → old.clock ≡ clocks (index - 1) → old.lines_at_clock ≡ min (so_far clocks index) (2 ^ 64 - 1)
      → lines_at old (clocks index) ≡ min (lines_before clocks index) (2 ^ 64 - 1)
  lines_here zero old clock lines = grind (arith, lines)
  lines_here (suc line) old clock lines =
      let before : suc line - 1 ≡ line = omega arith in
      rw (clock, before, lines) (grind arith)

  order_by : (line : ℕ) → suc line < count → (same : Bool) → (clocks line == clocks (suc line)) ≡ same
      → clocks line * units + (lines_before clocks line + 1)
      ≤ clocks (suc line) * units + (if same then lines_before clocks line + 1 else 0)
  order_by line inside true test =
      let same : clocks line ≡ clocks (suc line) = grind (arith, nat_tests, test) in
      omega (arith, ap (λ clock. clock * units) same)
  order_by line inside false test =
      let less : clocks line < clocks (suc line) = grind (arith, nat_tests, test, room.grow line inside) in
      omega (arith, mul-add-lt (clocks line) units (lines_before clocks line) (clocks (suc line)) less (room.fits line (omega arith)))

  order : (index : ℕ) → index < count → clocks (index - 1) * units + so_far clocks index ≤ moment clocks units index
  order zero inside = omega arith
  order (suc line) inside =
      let before : suc line - 1 ≡ line = omega arith in
      rw before (order_by line inside (clocks line == clocks (suc line)) refl)

  -- one more line
  module _ (index : ℕ) (inside : index < count) (old new : Walk) (levels : Levels)
      (scale : old.scale.units ≡ units) (same : new.scale.units ≡ units) (clock : old.clock ≡ clocks (index - 1)) (now : new.clock ≡ clocks index)
      (kept : levels.running ≡ old.levels.running)
      (takes : TakesLine (texts index) (clocks index) (record old { levels = levels }) new)
      (is : IsInStep clocks units texts index old) where
    here : line_time old (clocks index) ≡ min (moment clocks units index) (2 ^ 64 - 1)
    here = rw (scale, lines_here index old clock is.lines) (omega arith)

    next : next_time old ≡ min (old.clock * units + so_far clocks index) (2 ^ 64 - 1)
    next = rw (scale, is.lines) (omega arith)

    grows : old.clock * units + so_far clocks index ≤ moment clocks units index
    grows = rw clock (order index inside)

    reached : new.dump.last ≤ min (moment clocks units index) (2 ^ 64 - 1)
    reached = omega (arith, takes.last, here, next, grows, is.last)

    lines_now : new.lines_at_clock ≡ min (lines_before clocks index + 1) (2 ^ 64 - 1)
    lines_now = takes.lines ∙ omega (arith, lines_here index old clock is.lines)

    next_now : next_time new ≡ min (moment clocks units index + 1) (2 ^ 64 - 1)
    next_now = rw (same, now, lines_now) (omega arith)

    now_at : new.clock * units + (lines_before clocks index + 1) ≡ moment clocks units index + 1
    now_at = rw now (omega arith)

    runs_now : IsRunning clocks texts index new.levels.running
    runs_now =
        runs_on clocks texts index old.clock old.levels.running new.levels.running takes.reading clock is.runs takes.reads
        (takes.runs ∙ ap (λ running. running_after takes.reading (if old.clock == clocks index then running else None)) kept)

    told_by : (line : ℕ) → line < suc index → moment clocks units line < 2 ^ 64 - 1
        → IsTold clocks texts units line new.dump.last new.dump.text
    told_by line earlier small = elim (cases_lt line index) [
      | inl before ↦
          keeps_told clocks texts units line (next_time old) old.dump new.dump
          (takes.keeps (next_time old) (omega arith) (omega (arith, here, next, grows)))
          (omega (arith, next, is.before line before, small)) (is.told line before small)
      | inr last ↦
          let equal : index ≡ line = omega arith in
          subst (λ line. moment clocks units line < 2 ^ 64 - 1
          → IsTold clocks texts units line new.dump.last new.dump.text) equal
          (λ small. record {
            running = new.levels.running;
            runs = runs_now;
            told = takes.current _ takes.written (moment clocks units index) (omega (arith, reached, small));
          })
          small
    ]

    one_more_by : IsInStep clocks units texts (suc index) new
    one_more_by = record {
      lines = lines_now;
      last = omega (arith, reached, next_now);
      before = λ line earlier. elim (cases_lt line index) [
        | inl before ↦ omega (arith, is.before line before, grows, now_at)
        | inr last ↦
            let equal : index ≡ line = omega arith in
            subst (λ line. moment clocks units line < new.clock * units + (lines_before clocks index + 1)) equal (omega (arith, now_at))
      ];
      told = told_by;
      runs = runs_now;
    }

    pub one_more : IsInStep clocks units texts (index + 1) new
    one_more = let next : suc index ≡ index + 1 = omega arith in subst (λ n. IsInStep clocks units texts n new) next one_more_by

  -- all lines, and what is written after them
  pub all_told : (walk : Walk) (values : Values) → walk.scale.units ≡ units → IsInStep clocks units texts count walk
      → Keeps (next_time walk) walk.dump values → (line : ℕ) → line < count → moment clocks units line < 2 ^ 64 - 1
      → IsTold clocks texts units line values.last values.text
  all_told walk values scale is keeps line inside small =
      let next : next_time walk ≡ min (walk.clock * units + so_far clocks count) (2 ^ 64 - 1) = rw (scale, is.lines) (omega arith) in
      keeps_told clocks texts units line (next_time walk) walk.dump values keeps
      (omega (arith, next, is.before line inside, small)) (is.told line inside small)
