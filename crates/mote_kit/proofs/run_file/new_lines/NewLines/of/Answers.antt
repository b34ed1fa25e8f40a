use Rattle.std.proofs.Common.{◌≡◌, ◌++◌, ◌∙◌, ◌∷◌, [], map, flat_map, ap, sym, append_assoc, string_bytes}
use Rattle.std.specs.Str.Iter.{split_inclusive_text}
use Rattle.mote_kit.proofs.Joined.{joined_more}
use Rattle.mote_kit.proofs.run_file.new_lines.NewLines.of.Goals as goal

pub loop-line-init : goal.loop-line-init
loop-line-init c =
    let above = c.in_ok-push.ensures ∙ ap (λ l. map string_bytes l ++ [] ∷ []) c.new.ensures.items in
    let empty = joined_more string_bytes c.new.result.items c.push.new.self.lines.items [] c.in_ok-push.ensures
    ∙ ap (λ l. flat_map string_bytes l ++ []) c.new.ensures.items in
    let whole : split_inclusive_text c.into_iter-line-iterator.result ≡ c.args.text.now = cc in
    (([], above), ap (λ v. v ++ split_inclusive_text c.into_iter-line-iterator.result) empty ∙ whole)

pub loop-line-preserved : goal.loop-line-preserved
loop-line-preserved c =
    let line = c.in-Some.line.now in
    let old = c.loop-line.new.lines.items in
    let left = split_inclusive_text c.next.new.self in
    let pushed = c.in_ok-push-2.ensures in
    let above = c.loop-line.invariant.0 in (
      (above.0 ++ line ∷ [], pushed ∙ ap (λ v. v ++ line ∷ []) above.1),
      ap (λ v. v ++ left) (joined_more string_bytes old c.push-in-loop-line.new.self.lines.items line pushed)
          ∙ append_assoc (flat_map string_bytes old) line left
          ∙ ap (λ v. flat_map string_bytes old ++ v) (sym c.in-Some.ensures.steps.1.0)
          ∙ c.loop-line.invariant.1,
    )
