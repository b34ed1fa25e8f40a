use Rattle.std.proofs.Common.{rules, ◌≡◌, ap, [], take}
use Rattle.mote_kit.proofs.WholeScript.{text_of_script}
use Rattle.mote_kit.proofs.mote.run_fixed.Goals as goal

pub returns-clause-text : goal.returns-clause-text
returns-clause-text g c =
    let started : take c.new.result.position c.new.result.text.now ≡ [] = ap (λ position. take position c.new.result.text.now) c.new.ensures.position in
    let same : c.run_boxes.new.source.script.text.now ≡ c.args.script.now = search rules in
    text_of_script c.args.script.now c.run_boxes.new.source.script.text.now c.run_boxes.new.source.script.position
    (c.in-Ok.ensures.ran tt tt) started c.new-sink.ensures.text same c.run_boxes.new.source.script.at_end
