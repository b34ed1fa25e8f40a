-- The code's numbers are those of the definitions.
use Rattle.std.proofs.Common.{◌≡◌, [], ◌∷◌, refl}
use Rattle.mote_types.specs.EventNumbers as said
use Rattle.mote_types.specs.declared.event.TheConstants as code
use Rattle.mote_types.specs.declared.block_name.TheConstants.{NAMES}

events : code.NONE ∷ code.INIT ∷ code.POLL ∷ code.EXIT ∷ code.SERVICE_REMOVED ∷ code.CONTINUE ∷ code.EXITED ∷ code.TIMER ∷ []
    ≡ said.NONE ∷ said.INIT ∷ said.POLL ∷ said.EXIT ∷ said.SERVICE_REMOVED ∷ said.CONTINUE ∷ said.EXITED ∷ said.TIMER ∷ []
events = refl

own_events : code.SERIAL_LINE ∷ code.PACKET ∷ code.FIRST_FREE ∷ [] ≡ said.SERIAL_LINE ∷ said.PACKET ∷ said.FIRST_FREE ∷ []
own_events = refl

-- no definition mentions these
unspoken : code.MSG ∷ code.COM ∷ code.MAX ∷ [] ≡ 134 ∷ 137 ∷ 138 ∷ []
unspoken = refl

applications : code.FIRST_APPLICATION ∷ code.MOST_APPLICATIONS ∷ [] ≡ 4 ∷ 16 ∷ []
applications = refl

names : NAMES ≡ 272
names = refl
