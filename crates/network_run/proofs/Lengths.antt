-- A network keeps its motes.
use Rattle.std.proofs.Common.{◌≡◌, ℕ, List, [], ◌∷◌, length, set, ap, sym, ◌∙◌}
use Rattle.std.proofs.lemmas.List.{length-set}
use Rattle.mote_session.specs.SessionView.{SessionView}
use Rattle.network_session.specs.Network.{NetworkView}
use Rattle.network_session.specs.Steps.{Steps}
use Rattle.network_session.specs.declared.outcome.Outcome.{Outcome}
use Rattle.network_steps.specs.NetworkRuns.{IsMove, Leads, Move, after_move}

pub same_length : (old : List SessionView) (m : ℕ) (after : SessionView) (new : List SessionView) → new ≡ set old m after → length new ≡ length old
same_length old m after new e = ap length e ∙ length-set old m after

abbrev motes_of : NetworkView → ℕ
motes_of net = length net.motes

step_length : (x : Outcome) (old new : NetworkView) → Steps x old new → length new.motes ≡ length old.motes
step_length (Outcome.Started m) old new s = ap motes_of s
step_length (Outcome.Worked m next) old new s = same_length old.motes m s.worked.after new.motes s.worked.others
step_length (Outcome.Woken m) old new s = same_length old.motes m s.told.after new.motes s.told.others
step_length (Outcome.Heard m) old new s = same_length old.motes m s.handed.after new.motes s.handed.others
step_length (Outcome.Missed from to) old new s = ap motes_of s
step_length Outcome.Clock old new s = ap motes_of s
step_length Outcome.Rest old new s = ap motes_of s
step_length Outcome.Exhausted old new s = ap motes_of s

move_length : (move : Move) (old : NetworkView) → IsMove old move → length (after_move move).motes ≡ length old.motes
move_length (Move.Step outcome new) old is = step_length outcome old new is.steps
move_length (Move.Submit call new) old is = same_length old.motes is.m is.submitted.after new.motes is.submitted.others
move_length (Move.Tick ticks new) old is = ap motes_of is.result
move_length (Move.Tell m new) old is = same_length old.motes m is.told.told.after new.motes is.told.told.others
move_length (Move.Hand m input new) old is = same_length old.motes m is.fed.handed.after new.motes is.fed.handed.others
move_length (Move.Miss m input new) old is = ap motes_of is.result

pub leads_length : (moves : List Move) (old new : NetworkView) → Leads old moves new → length new.motes ≡ length old.motes
leads_length [] old new leads = sym (ap motes_of leads)
leads_length (move ∷ moves) old new leads = leads_length moves (after_move move) new leads.1 ∙ move_length move old leads.0
