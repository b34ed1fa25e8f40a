use Rattle.std.proofs.Common.{rules, ◌≡◌, ◌≤◌, ◌+◌, ◌-◌, ◌++◌, ◌∙◌, ℕ, List, length, take, drop, ap, sym, arith}
use Rattle.std.proofs.Math.Seq.{take-add, take-append_seam}
use Rattle.std.proofs.lemmas.List.{length-take-le, length-drop, take_all}
use Rattle.mote_kit.proofs.script.ScriptByteSource.read.Goals as goal

-- a prefix written over a buffer is its prefix
front_read : (size : ℕ) (text front rest : List ℕ) → front ≡ take size text → size ≤ length text →
    take size (front ++ rest) ≡ take size text
front_read size text front rest same few =
    let long : length front ≡ size = ap length same ∙ length-take-le size text few in
    ap (λ n. take n (front ++ rest)) (sym long) ∙ (take-append_seam front rest ∙ same)

-- a text of which n more bytes are read
read_on : (position size : ℕ) (text front rest : List ℕ) → front ≡ take size (take (length text - position) (drop position text)) →
    size ≤ length text - position → take (position + size) text ≡ take position text ++ take size (front ++ rest)
read_on position size text front rest same few =
    let left : length (drop position text) ≤ length text - position = omega (arith, length-drop position text) in
    let all : take (length text - position) (drop position text) ≡ drop position text = take_all (length text - position) (drop position text) left in
    let size_left : size ≤ length (drop position text) = omega (arith, length-drop position text) in
    take-add position size text
    ∙ ap (λ v. take position text ++ v) (sym (front_read size (drop position text) front rest (same ∙ ap (λ v. take size v) all) size_left))

pub returns-clause-taken : goal.returns-clause-taken
returns-clause-taken c =
    let few : c.min-size.result ≤ length c.args.self.now.text.now - c.args.self.now.position = search rules in
    λ named. read_on c.args.self.now.position c.min-size.result c.args.self.now.text.now
    c.copy_from_slice.new.self (drop c.min-size.result c.args.buffer.now) c.copy_from_slice.ensures.after few
