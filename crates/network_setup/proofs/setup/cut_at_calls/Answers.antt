use Rattle.std.proofs.Common.{◌≡◌, ◌<◌, None, codes, drop, length, lit<, refl, rules}
use Rattle.network_setup.proofs.Cutting.{cut_first, cut_none, list_after, no_list_empty, no_list_lacking, nothing}
use Rattle.network_setup.specs.MoteLines.{list_said}
use Rattle.network_setup.proofs.setup.cut_at_calls.Goals as goal
use Rattle.network_setup.proofs.setup.cut_at_calls.Goals.{in_default-strip_prefix-via-in-Some-strip_prefix+else-not-is_empty, in_default-strip_prefix-via-in_default-strip_prefix}

pub returns-in_default : goal.returns-in_default
returns-in_default c =
    let cut = cut_none (codes " calls") (lit< tt) c.args.text.now c.in_default.ensures.cases in
    record { cut = rw cut refl; malformed = tt }

pub returns-then-is_empty : goal.returns-then-is_empty
returns-then-is_empty c =
    let found = c.in-Some.ensures.cases in
    let text = c.args.text.now in
    let cut = cut_first (codes " calls") (lit< tt) text found.0 (drop found.1 text) found.2.0 found.2.1.split in
    let none : length c.in-Some.rest.now ≡ 0 = search rules in
    let empty = nothing c.in-Some.rest.now none in
    record { cut = rw (cut, ← found.3, ← found.4, empty) refl; malformed = tt }

pub returns-in-Some-strip_prefix : goal.returns-in-Some-strip_prefix
returns-in-Some-strip_prefix c =
    let found = c.in-Some.ensures.cases in
    let text = c.args.text.now in
    let cut = cut_first (codes " calls") (lit< tt) text found.0 (drop found.1 text) found.2.0 found.2.1.split in
    let some : 0 < length c.in-Some-strip_prefix.calls.now = search rules in
    let left = c.in-Some-strip_prefix.ensures.cases in
    let said = list_after c.in-Some.rest.now (drop left.0 c.in-Some.rest.now) c.in-Some-strip_prefix.calls.now left.1.1 left.2 some in
    record { cut = rw (cut, ← found.3, ← found.4, said) refl; malformed = tt }

pub returns-in_default-strip_prefix-clause-malformed : goal.returns-in_default-strip_prefix-clause-malformed
returns-in_default-strip_prefix-clause-malformed c =
    let found = c.in-Some.ensures.cases in
    let text = c.args.text.now in
    let rest = c.in-Some.rest.now in
    let cut = cut_first (codes " calls") (lit< tt) text found.0 (drop found.1 text) found.2.0 found.2.1.split in
    let some : 0 < length rest = search rules in
    let none : list_said rest ≡ None = elim c.in_default-strip_prefix.branch [
      | in_default-strip_prefix-via-in-Some-strip_prefix+else-not-is_empty w ↦
          let left = w.in-Some-strip_prefix.ensures.cases in
          let empty : length w.in-Some-strip_prefix.calls.now ≡ 0 = search rules in
          no_list_empty rest (drop left.0 rest) w.in-Some-strip_prefix.calls.now left.1.1 left.2 empty
      | in_default-strip_prefix-via-in_default-strip_prefix w ↦ no_list_lacking rest some w.in_default-strip_prefix.ensures.cases
    ] in
    rw (cut, ← found.3, ← found.4, none) refl
