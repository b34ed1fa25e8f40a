use Rattle.std.proofs.Common.{map, option_map}
use Rattle.network_setup.specs.MoteLines.{HaveMotes}
use Rattle.network_setup.proofs.setup.Setup.add_motes.Given as goal

abbrev pub invariant-loop-mote : goal.invariant-loop-mote
invariant-loop-mote l =
    HaveMotes l._mote (map (λ word. word.now) l.words.items) (option_map (λ calls. calls.now) l.calls) l.fn.self l.self
