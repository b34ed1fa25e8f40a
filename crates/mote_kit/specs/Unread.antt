-- Lines of a run that only the program knows which executes it.
use Rattle.std.specs.Prelude.{◌≡◌, Bool, true, false, ⊤}
use Rattle.mote_kit.specs.declared.run_file.written_run.Unread.{Unread}

-- whether the run that a line is of may be a network's, or may not be
abbrev pub IsOfRun : Bool → Unread → Type 0
IsOfRun is_network (Unread.Application _) = is_network ≡ false
IsOfRun is_network (Unread.Row _) = is_network ≡ false
IsOfRun is_network (Unread.OfNetwork _) = is_network ≡ true
IsOfRun is_network (Unread.Shown _) = ⊤
