use Rattle.std.proofs.Common.{◌≡◌, ◌≤◌, ◌<◌, ◌+◌, ◌-◌, ◌^◌, ℕ, get_or, length, sym, subst, arith}
use Rattle.std.proofs.lemmas.List.{length-map}
use Rattle.std.proofs.lemmas.List.FromFn.{length-map-range_with_len}
use Rattle.std.proofs.lemmas.Result.{IfOk-weaker}
use Rattle.pictures.specs.Clocks.{clock_at}
use Rattle.pictures.specs.Code.Dump.{AreTold}
use Rattle.pictures.specs.Dump.{IsTold, moment, time_at}
use Rattle.pictures.specs.Rows.{bytes_of, text_at}
use Rattle.pictures.proofs.Spanned.{spanned, told_at}
use Rattle.pictures.proofs.dump.dump_of.Goals as goal

pub clocks_of-clocks-requires-clause-there : goal.clocks_of-clocks-requires-clause-there
clocks_of-clocks-requires-clause-there c =
    let size = length-map-range_with_len (clock_at (bytes_of c.args.lines.now)) 0 (length c.args.lines.now) in
    rw (c.requires, size) c.shown_of-shown.ensures.there

pub returns : goal.returns
returns c =
    let lines = bytes_of c.args.lines.now in
    let shown = c.shown_of-shown.result in
    let clocks = c.clocks_of-clocks.result.now in
    let units = c.of-scale.result.units in
    let size : length lines ≡ length c.args.lines.now = length-map c.args.lines.now (λ line. line.now) in
    let begins : c.span-span.result.0 ≡ time_at units (get_or clocks 0 0) = grind arith in
    let ends : time_at units (get_or clocks (shown.end - shown.first - 1) 0 + 1) ≤ c.span-span.result.1 =
    rw (c.span-span.ensures.last, ← c.clocks_of-clocks.ensures.all) c.in_ok-walk_over.ensures.last in
    let dump = c.walk_over.new.walk.dump in
    let all = c.clocks_of-clocks.ensures.all in
    let texts = text_at (bytes_of c.lines_of-lines.result.now) in
    let told : shown.first < shown.end → length lines < 10 ^ 15 → (line : ℕ) → shown.first ≤ line → line < shown.end
    → moment (clock_at lines) units line < 2 ^ 64 - 1
    → IsTold (clock_at lines) (text_at lines) units line c.span-span.result.1 dump.text =
    rw c.span-span.ensures.last (λ order.
    told_at lines shown (length c.args.lines.now) _ clocks c.requires c.shown_of-shown.ensures.there c.clocks_of-clocks.ensures.clocks
    c.args.settings.now.from c.args.settings.now.to units c.most_at_once.result dump.last c.shown_of-shown.ensures.between dump.text texts
    order (omega (arith, all, c.most_at_once.ensures.few)) (sym size)
    (λ line inside. c.most_at_once.ensures.all line (omega (arith, all, inside))) c.of-scale.ensures.room c.lines_of-lines.ensures.lines
    (subst (λ n. AreTold (λ line. get_or clocks line 0) units n texts dump) all c.in_ok-walk_over.ensures.told)) in
    IfOk-weaker c.whole.result _ _
    (λ bytes same. record {
      declarations = _;
      values = _;
      whole = same;
      first = _;
      last = _;
      are_changes = c.span-span.ensures.changes;
      shown = shown;
      between = c.shown_of-shown.ensures.between;
      spans =
          spanned lines shown (length c.args.lines.now) _ clocks c.requires c.shown_of-shown.ensures.there
          c.clocks_of-clocks.ensures.clocks units _ _ dump.text c.of-scale.ensures.some begins ends told;
    })
    c.whole.ensures
