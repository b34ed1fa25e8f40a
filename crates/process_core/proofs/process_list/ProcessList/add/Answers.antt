use Rattle.process_core.proofs.Lemmas.{◌∷◌, ◌∙◌, ap, false, List, Process, State, added_listed, ends_added, kept_added, off_list, room_for}
use Rattle.process_core.proofs.process_list.ProcessList.add.Goals as goal

pub with_first-self-inside-requires : goal.with_first-self-inside-requires
with_first-self-inside-requires c =
    let none = off_list c.args.pid.0 c.self.view_is c.self.invariant.kept
    c.requires.absent in
    rw c.as_slice.ensures.value (room_for c.args.pid.0 c.requires.known none c.self.invariant.kept)

pub invariant_of-self : goal.invariant_of-self
invariant_of-self c =
    let none = off_list c.args.pid.0 c.self.view_is c.self.invariant.kept
    c.requires.absent in
    rw (c.with_first-self-inside.ensures, c.as_slice.ensures.value) record {
      kept = kept_added c.args.pid.0 c.requires.known none c.self.invariant.kept;
      ends = ends_added c.args.pid.0 c.self.inside.on_list.items none c.self.invariant.ends;
    }

pub returns : goal.returns
returns c =
    rw (c.with_first-self-inside.ensures, c.as_slice.ensures.value)
    (added_listed c.args.pid.0 c.requires.known (off_list c.args.pid.0 c.self.view_is c.self.invariant.kept
    c.requires.absent) c.self.invariant.kept)
    ∙ ap (λ (l : List Process). record { number = c.args.pid.0; state = State.Running; marked = false } ∷ l) c.self.view_is
