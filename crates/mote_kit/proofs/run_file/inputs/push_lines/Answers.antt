use Rattle.std.proofs.Common.{◌≡◌, ◌++◌, ◌∙◌, List, ℕ, ap, sym, subst, arith, append_assoc, codes, string_bytes}
use Rattle.std.proofs.lemmas.List.{append-nil, flat_map_more}
use Rattle.std.proofs.lemmas.Grind.{replicate_next}
use Rattle.std.specs.Prelude.{flat_map, replicate}
use Rattle.mote_kit.specs.NewLines.{repeated}
use Rattle.mote_kit.proofs.run_file.inputs.push_lines.Goals as goal

pub loop-init : goal.loop-init
loop-init c = sym (append-nil (string_bytes c.args.text.now))

pub loop-preserved : goal.loop-preserved
loop-preserved c =
    let line = c.args.line.now in
    let ended = λ (l : List ℕ). l ++ codes "\n" in
    let old = string_bytes c.args.text.now in
    c.in_ok-push.ensures.bytes
    ∙ ap (λ v. string_bytes c.push_str.new.self ++ v) (c.in_ok-push.ensures.ascii (omega arith))
    ∙ ap (λ v. v ++ codes "\n") c.in_ok-push_str.ensures.bytes
    ∙ append_assoc (string_bytes c.loop.text) line (codes "\n")
    ∙ ap (λ v. v ++ ended line) c.loop.invariant
    ∙ flat_map_more ended old (replicate c.loop.counter line) line
    ∙ ap (λ v. old ++ flat_map ended v) (sym (replicate_next c.loop.counter line))

pub returns : goal.returns
returns c =
    let all : c.loop.counter ≡ c.args.count = omega arith in
    subst (λ n. string_bytes c.loop.text ≡ string_bytes c.args.text.now ++ repeated n c.args.line.now) all c.loop.invariant
