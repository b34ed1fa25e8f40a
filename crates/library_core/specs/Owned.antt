-- What a mote and a network that C holds own.
use Rattle.std.specs.Prelude.{Bool, true, false, Option, None, Some}
use base.Fml.{Fml, ftrue, ffalse}
use mir.Syntax.{Ty}
use denote.RattleType.{RattleType}
use denote.RawPtr.{Ptr}
use Rattle.std_alloc.specs.Box.Ownership.{box_owns}
use Rattle.std.specs.declared.alloc.Global.{Global}
use Rattle.std.specs.contracts.impls.GlobalAllocator.TheImpl.{ghosts}
use Rattle.library_core.specs.contracts.open_mote.OpenMote as open_mote
use Rattle.library_core.specs.contracts.open_network.OpenNetwork as open_network

-- the one value of `Global`
abbrev handle : Global
handle = record { memory = record { seal = tt } }

-- the right to free the block at an address, which was allocated for a value of a type
abbrev pub chunk : Ty → Ptr → Fml
chunk = ghosts.dealloc_token handle

-- where it is open, a value on the heap at this address, with the right to free it; otherwise nothing
abbrev pub owned_if : Bool → (R : RattleType) → Ptr → Option R.Denot → Fml
owned_if true R at (Some value) = box_owns chunk R at value
owned_if false R at None = ftrue
owned_if is_open R at value = ffalse

abbrev pub mote_owns : Bool → Ptr → Option (open_mote.the_row).Denot → Fml
mote_owns is_open = owned_if is_open open_mote.the_row

abbrev pub network_owns : Bool → Ptr → Option (open_network.the_row).Denot → Fml
network_owns is_open = owned_if is_open open_network.the_row
