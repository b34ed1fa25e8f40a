-- The values of a dump span the lines that are shown, and each of these is told at its time.
use Rattle.std.proofs.Common.{◌≡◌, ◌∙◌, ℕ, zero, suc, false, ◌+◌, ◌-◌, ◌*◌, ◌^◌, ◌<◌, ◌≤◌, ◌==◌, min, Option, List, get_or, map, length, refl, sym, ap, ap₂, subst, arith}
use Rattle.std.specs.List.{range_with_len}
use Rattle.std.proofs.lemmas.Bool.Decides.{nat_tests}
use Rattle.std.proofs.lemmas.List.FromFn.{get_or-map-range_with_len}
use Rattle.pictures.specs.Clocks.{LieBetween, clock_at}
use Rattle.pictures.specs.Code.Dump.{HasRoom}
use Rattle.pictures.specs.Dump.{HasAt, IsReading, IsRunning, IsTold, Spans, lines_before, moment, running_after, running_value, time_at}
use Rattle.pictures.specs.Dump.IsRunning.{first as first_at, more}
use Rattle.pictures.specs.Rows.{text_at}
use Rattle.pictures.specs.declared.rows.Shown.{Shown}
use Rattle.pictures.proofs.Clocks.{clock_grows}

-- no line before the first one is at its clock
starts : (all : ℕ → ℕ) (first : ℕ) → ((line : ℕ) → line < first → all line < all first) → lines_before all first ≡ 0
starts all zero less = refl
starts all (suc line) less =
    let order = less line (omega arith) in
    let other : (all line == all (suc line)) ≡ false = grind (arith, nat_tests, order) in
    rw other refl

module _ (all some : ℕ → ℕ) (first count : ℕ) (begins : lines_before all first ≡ 0)
    (same : (index : ℕ) → index < count → some index ≡ all (first + index)) where
  shifted : (index : ℕ) → index < count → lines_before some index ≡ lines_before all (first + index)
  shifted zero inside = let one : first ≡ first + 0 = omega arith in subst (λ n. 0 ≡ lines_before all n) one (sym begins)
  shifted (suc index) inside =
      let next : suc (first + index) ≡ first + suc index = omega arith in
      let here = same index (omega (arith, inside)) in
      let there = same (suc index) inside ∙ ap all (sym next) in
      subst (λ n. lines_before some (suc index) ≡ lines_before all n) next
      (rw (here, there, shifted index (omega (arith, inside))) refl)

  -- the process that takes its turn at a line is the same
  runs_shifted : (texts all_texts : ℕ → List ℕ) → ((index : ℕ) → index < count → texts index ≡ all_texts (first + index))
      → {index : ℕ} {running : Option ℕ} → IsRunning some texts index running → index < count
      → IsRunning all all_texts (first + index) running
  runs_shifted texts all_texts those (first_at line reading begun reads) inside =
      first_at (first + line) reading (sym (shifted line inside) ∙ begun)
      (subst (λ text. IsReading text reading) (those line inside) reads)
  runs_shifted texts all_texts those (more {line} {before} is reading equal reads) inside =
      let next : suc (first + line) ≡ first + suc line = omega arith in
      let earlier : line < count = omega (arith, inside) in
      let clock : all (first + line) ≡ all (suc (first + line)) =
      sym (same line earlier) ∙ equal ∙ same (suc line) inside ∙ ap all (sym next) in
      let read : IsReading (all_texts (suc (first + line))) reading =
      subst (λ text. IsReading text reading) (those (suc line) inside ∙ ap all_texts (sym next)) reads in
      subst (λ n. IsRunning all all_texts n (running_after reading before)) next
      (more (runs_shifted texts all_texts those is earlier) reading clock read)

module _ (lines : List (List ℕ)) (shown : Shown) (count : ℕ) (all clocks : List ℕ)
    (are_clocks : all ≡ map (clock_at lines) (range_with_len 0 count)) (there : shown.end ≤ count)
    (those : (index : ℕ) → index < shown.end - shown.first → get_or clocks index 0 ≡ get_or all (shown.first + index) 0) where
  clock_is : (index : ℕ) → index < shown.end - shown.first → get_or clocks index 0 ≡ clock_at lines (shown.first + index)
  clock_is index inside =
      those index inside ∙ ap (λ all. get_or all (shown.first + index) 0) are_clocks
      ∙ get_or-map-range_with_len (clock_at lines) 0 count (shown.first + index) (shown.first + index) 0 (omega arith) (omega arith)

  module _ (from to units most last : ℕ) (between : LieBetween lines from to shown) (values : List ℕ) (texts : ℕ → List ℕ)
      (order : shown.first < shown.end) (few : most ≤ shown.end - shown.first) (whole : count ≡ length lines)
      (counted : (line : ℕ) → line < shown.end - shown.first
      → min (lines_before (λ line. get_or clocks line 0) line + 1) (2 ^ 64 - 1) ≤ most)
      (fits : most < 10 ^ 15 → most < units)
      (those_texts : (index : ℕ) → index < shown.end - shown.first → texts index ≡ text_at lines (shown.first + index))
      (told : HasRoom (λ line. get_or clocks line 0) units (shown.end - shown.first) → (line : ℕ) → line < shown.end - shown.first
      → moment (λ line. get_or clocks line 0) units line < 2 ^ 64 - 1
      → IsTold (λ line. get_or clocks line 0) texts units line last values) where
    begins_at : lines_before (clock_at lines) shown.first ≡ 0
    begins_at =
        starts (clock_at lines) shown.first
        (λ line before. omega (arith, between.before line before, between.within shown.first (omega arith) order))

    room : length lines < 10 ^ 15 → HasRoom (λ line. get_or clocks line 0) units (shown.end - shown.first)
    room small = record {
      grow = λ line inside.
          rw (clock_is line (omega (arith, inside)), clock_is (suc line) inside)
          (clock_grows lines (shown.first + line) (shown.first + suc line) (omega arith));
      fits = λ line inside. omega (arith, counted line inside, fits (omega (arith, few, whole, there, small)), few, whole, there, small);
    }

    moment_is : (index : ℕ) → index < shown.end - shown.first
        → moment (λ line. get_or clocks line 0) units index ≡ moment (clock_at lines) units (shown.first + index)
    moment_is index inside =
        ap₂ (λ clock before. clock * units + before) (clock_is index inside)
        (shifted (clock_at lines) (λ line. get_or clocks line 0) shown.first (shown.end - shown.first) begins_at clock_is index inside)

    pub told_at : length lines < 10 ^ 15 → (line : ℕ) → shown.first ≤ line → line < shown.end
        → moment (clock_at lines) units line < 2 ^ 64 - 1
        → IsTold (clock_at lines) (text_at lines) units line last values
    told_at small line begins inside early =
        let index = line - shown.first in
        let is : shown.first + index ≡ line = omega (arith, begins) in
        let within : index < shown.end - shown.first = omega (arith, begins, inside) in
        let at = moment_is index within ∙ ap (moment (clock_at lines) units) is in
        let here = told (room small) index within (omega (arith, at, early)) in
        let runs =
        runs_shifted (clock_at lines) (λ line. get_or clocks line 0) shown.first (shown.end - shown.first) begins_at clock_is
        texts (text_at lines) those_texts here.runs within in
        record {
          running = here.running;
          runs = subst (λ line. IsRunning (clock_at lines) (text_at lines) line here.running) is runs;
          told = subst (λ time. HasAt 0 (running_value here.running) time last values) at here.told;
        }

  pub spanned : (units first last : ℕ) (values : List ℕ) → 0 < units → first ≡ time_at units (get_or clocks 0 0)
      → time_at units (get_or clocks (shown.end - shown.first - 1) 0 + 1) ≤ last
      → (shown.first < shown.end → length lines < 10 ^ 15 → (line : ℕ) → shown.first ≤ line → line < shown.end
      → moment (clock_at lines) units line < 2 ^ 64 - 1
      → IsTold (clock_at lines) (text_at lines) units line last values)
      → shown.first < shown.end → Spans lines shown first last values
  spanned units first last values some begins ends told order =
      let at_last = shown.end - shown.first - 1 in
      let one : shown.first + 0 ≡ shown.first = omega arith in
      let other : shown.first + at_last ≡ shown.end - 1 = omega arith in
      record {
        units = units;
        some = some;
        begins = begins ∙ ap (time_at units) (clock_is 0 (omega arith) ∙ ap (clock_at lines) one);
        ends = subst (λ clock. time_at units (clock + 1) ≤ last)
            (clock_is at_last (omega arith) ∙ ap (clock_at lines) other) ends;
        told = told order;
      }
