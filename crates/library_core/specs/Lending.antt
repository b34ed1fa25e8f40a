-- What a mote and a network that C holds end as, once what they lent has ended.
use Rattle.std.specs.Prelude.{Option, Some}
use Rattle.std.specs.Borrow.{Fml, MutBor, LendsIf}
use Rattle.library_core.specs.contracts.held_network.HeldNetwork as network
use Rattle.library_core.specs.contracts.mote.Mote as mote
use Rattle.library_core.specs.contracts.open_mote.OpenMote as open_mote
use Rattle.library_core.specs.contracts.open_network.OpenNetwork as open_network
use Rattle.library_core.specs.declared.held_network.HeldNetwork.{HeldNetwork}
use Rattle.library_core.specs.declared.mote.Mote.{Mote}
use Rattle.library_core.specs.declared.open_mote.OpenMote.{OpenMote}
use Rattle.library_core.specs.declared.open_network.OpenNetwork.{OpenNetwork}

-- the same, open, with this behind its pointer
abbrev pub with_open_mote : Mote → OpenMote → Mote
with_open_mote m value = record { held = m.held; is_open = m.is_open; open_mote = Some value }

abbrev pub with_open_network : HeldNetwork → OpenNetwork → HeldNetwork
with_open_network n value = record { held = n.held; is_open = n.is_open; open_network = Some value }

-- it ends with what was last written through r, and as it was where r is None
abbrev pub LendsOpenMote : MutBor Mote → Option (MutBor OpenMote) → Fml
LendsOpenMote m r = LendsIf mote.the_row open_mote.the_row m r (with_open_mote m.now) m.now

abbrev pub LendsOpenNetwork : MutBor HeldNetwork → Option (MutBor OpenNetwork) → Fml
LendsOpenNetwork n r = LendsIf network.the_row open_network.the_row n r (with_open_network n.now) n.now
