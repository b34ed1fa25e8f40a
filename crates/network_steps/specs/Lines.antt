-- The line of what happened last, and the lines of losses that are still to be reported.
use Rattle.std.specs.Prelude.{ℕ, Bool, true, false, not, List, [], codes, drop, slice_get, Option, None, Some}
use Rattle.medium_core.specs.Air.{links_from}
use Rattle.mote_session.specs.Code.Shown.{is_last_shown}
use Rattle.mote_session.specs.SessionView.{SessionView}
use Rattle.mote_text.specs.declared.script.End.{End}
use Rattle.network_session.specs.Network.{NetworkView}
use Rattle.network_steps.specs.Code.StepLines.{last_entry_line}
use Rattle.network_steps.specs.NetworkText.{clock_line, fate_lines, frame_line, if_shown, last_line, unheard_line}
use Rattle.network_steps.specs.declared.came.Came.{Came}
use Rattle.network_steps.specs.declared.came.Sending.{Sending}

-- of the entry that mote m made last; none, while its turn awaits its call
abbrev pub line_by : ℕ → Option SessionView → List ℕ
line_by m None = []
line_by m (Some mote) = last_entry_line m mote.last

abbrev pub is_loss : Came → Bool
is_loss (Came.Lost from to) = true
is_loss (Came.Full from to) = true
is_loss _ = false

-- of a frame that a link didn't carry
abbrev pub loss_line : Came → List ℕ
loss_line (Came.Lost from to) = frame_line (codes "lost") from to
loss_line (Came.Full from to) = frame_line (codes "full") from to
loss_line _ = []

-- the line of what happened last
abbrev pub came_line : Came → NetworkView → List ℕ
came_line (Came.Turn m) net = line_by m (slice_get net.motes m)
came_line (Came.Entry m) net = line_by m (slice_get net.motes m)
came_line Came.Clock net = clock_line net.air.clock
came_line (Came.Lost from to) net = frame_line (codes "lost") from to
came_line (Came.Full from to) net = frame_line (codes "full") from to
came_line (Came.Missed from to) net = frame_line (codes "missed") from to
came_line (Came.Unheard m) net = unheard_line m
came_line Came.Rest net = []
came_line Came.Exhausted net = last_line End.Halted

-- the lines of losses that are still to be reported
abbrev pub losses_left : Option Sending → NetworkView → List ℕ
losses_left None net = []
losses_left (Some sending) net = fate_lines sending.from (drop sending.place (links_from sending.from net.air))

-- ---- what a transcript shows: a quiet one the entries that a mote's quiet transcript shows, and no lines of the network's own

abbrev pub shown_entry : Bool → ℕ → Option SessionView → List ℕ
shown_entry quiet m None = []
shown_entry quiet m (Some mote) = if_shown (is_last_shown quiet mote.last) (last_entry_line m mote.last)

-- the line that a move of the network has
abbrev pub shown_line : Bool → Came → NetworkView → List ℕ
shown_line quiet (Came.Entry m) net = shown_entry quiet m (slice_get net.motes m)
shown_line quiet (Came.Turn m) net = []
shown_line quiet Came.Rest net = []
shown_line quiet Came.Exhausted net = []
shown_line quiet came net = if_shown (not quiet) (came_line came net)

abbrev pub shown_losses : Bool → Option Sending → NetworkView → List ℕ
shown_losses quiet None net = []
shown_losses quiet (Some sending) net = if_shown (not quiet) (losses_left (Some sending) net)
