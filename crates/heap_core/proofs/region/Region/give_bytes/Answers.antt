use Rattle.heap_core.proofs.Lemmas.{rules, ◌≡◌, ◌+◌, ◌-◌, ◌≤◌, length, slice_range, sym, subst, arith, zeros, Contents, ChangesOnly, length-range, changes_only, changes_then, copied_front, resized_copy, resized_none}
use Rattle.heap_core.proofs.region.Region.give_bytes.Goals as goal

pub returns : goal.returns
returns c =
    let heap = c.args.self.now in let b = heap.span.at in let live = c.args.live in let n = live.size in let source = c.in-Some.source in
    let P = b + live.at + heap.header in let Q = b + source.at + heap.header in let B =
    c.clear.new.arena.bytes in
    let m = c.min.result in let W = slice_range B Q (Q + m) in let least = c.min.ensures in let size = c.clear.ensures.others.size in
    let fits : source.at + heap.header + source.size ≤ heap.span.len = grind arith in
    let count : length W ≡ m = grind (arith, length-range) in
    let none : P + 0 - P ≡ 0 = omega arith in
    let fresh : slice_range B P (P + n) ≡ zeros n = grind (arith, resized_none) in
    record {
      bytes = grind (arith, copied_front, resized_copy);
      others = changes_then c.clear.ensures.others
          (subst (λ (a : Contents). ChangesOnly P n B a.bytes) (sym c.copy.ensures.bytes)
          (changes_only B P W (omega (arith, c.requires.within, c.requires.inside)) P n (omega arith) (omega arith)));
      carved = search rules;
    }
