use Rattle.std.proofs.Common.{◌++◌, ap, sym, ◌∙◌}
use Rattle.device_core.proofs.Common.{after_bytes, takes_all}
use Rattle.device_core.proofs.Lines.{state}
use Rattle.device_core.proofs.TakenTogether.{after_bytes_all_taken, none_left}
use Rattle.device_core.proofs.byte_ring.ByteRing.input.Goals as goal

pub returns-then-takes_all : goal.returns-then-takes_all
returns-then-takes_all c =
    let s = c.self.inside in
    let bytes = c.args.bytes.now in
    let all = ap (λ v. takes_all v bytes) c.self.view_is ∙ sym c.takes_all.ensures ∙ c.if-takes_all.true in
    let fill = c.fill_from_slice in
    let whole = none_left s.ring.items bytes s.line.items s.overflow fill.result all (rw (sym c.self.invariant.0) fill.ensures.count) in
    rw (fill.ensures.items)
    (ap (λ more. state (s.ring.items ++ more) s.overflow s.line.items) whole
    ∙ sym (after_bytes_all_taken s.ring.items bytes s.line.items s.overflow all) ∙ ap (λ v. after_bytes v bytes) c.self.view_is)
