use Rattle.std.proofs.Common.{List, ◌++◌, codes, length}
use Rattle.mote_types.specs.declared.call.Call.{Call}
use Rattle.call_lists.specs.Calls.{AreOfParts}
use Rattle.call_lists.specs.Code.Lists.{AreOfText, ArePut, HasCalls, behind_comma}
use Rattle.call_lists.proofs.Parting.{IsOnward}
use Rattle.call_lists.proofs.applications.put_calls.Given as goal

-- the calls so far are at the front; if the text is a list of calls, the others fit after them
abbrev pub invariant-loop-left : goal.invariant-loop-left
invariant-loop-left l =
    (made : List Call) × ArePut made 0 l.place l.initial.calls l.calls
    × IsOnward AreOfParts (AreOfText l.text) l.left made
    × (HasCalls (codes ", " ++ l.text) 0 (length l.initial.calls) → HasCalls (behind_comma l.left) l.place (length l.initial.calls))

abbrev pub decreases-loop-left : goal.decreases-loop-left
decreases-loop-left l = length (behind_comma l.left)
