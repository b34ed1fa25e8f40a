use Rattle.std.proofs.Common.{◌≡◌, [], ◌∷◌, arith, sym}
use Rattle.device_core.proofs.Common.{with_bytes}
use Rattle.device_core.proofs.Lines.{alike_one_more, answer_at_line_end, rest_at_empty_ring, with_bytes_room, with_bytes_full}
use Rattle.device_core.proofs.byte_ring.ByteRing.serve.Goals as goal

pub returns-then-byte-eq-LINE_END-clause-answer : goal.returns-then-byte-eq-LINE_END-clause-answer
returns-then-byte-eq-LINE_END-clause-answer c = grind (arith, answer_at_line_end)

pub loop-byte-preserved : goal.loop-byte-preserved
loop-byte-preserved c =
    let s = c.loop-byte.self-inside in
    let now = c.try_push.new.self.items in
    let byte = c.in-Some.byte in
    let is_kept : now ≡ with_bytes s.line.items (byte ∷ []) = grind (arith, with_bytes_room, with_bytes_full) in
    grind (
      arith,
      alike_one_more s.ring.items s.line.items now s.overflow byte c.args.self.now c.loop-byte.invariant.alike (sym c.in-Some.ensures.value)
          c.if-byte-eq-LINE_END.false is_kept,
    )

pub returns-clause-rest : goal.returns-clause-rest
returns-clause-rest c = grind (arith, rest_at_empty_ring)
