use Rattle.std.proofs.Common.{ap, refl}
use Rattle.mote_session.specs.declared.session.Next.{Next}
use Rattle.network_session.specs.Code.Working.{TakesTurn}
use Rattle.network_session.specs.Steps.{Worked}
use Rattle.network_steps.specs.StepsView.{StepsView}
use Rattle.network_steps.specs.declared.came.Came.{Came}
use Rattle.network_steps.specs.contracts.steps.NetworkSteps.{the_view}
use Rattle.network_steps.proofs.Going.{err_on, goes_entry, goes_spoken, passes_rest, stops_step}
use Rattle.network_steps.proofs.Silent.{less_by_turn, less_made}
use Rattle.network_steps.proofs.steps.NetworkSteps.work_by.Goals as goal

pub returns-in_err-work_by-clause-failed : goal.returns-in_err-work_by-clause-failed
returns-in_err-work_by-clause-failed g c =
    rw (← c.self.view_is)
    (err_on c.from_residual.result _ _ c.from_residual.ensures.1
    (stops_step _ (the_view c.self.inside) c.work_by.new.self _ c.in_err-work_by.ensures.why c.in_err-work_by.ensures.refused))

pub returns-in-Turn-clause-steps : goal.returns-in-Turn-clause-steps
returns-in-Turn-clause-steps g c =
    let m = c.args.mote in
    let net = c.work_by.new.self in
    let turn : TakesTurn m c.self.inside.network net = rw c.in-Turn.is at c.in_ok-work_by.ensures.worked in
    let active = rw (← c.self.view_is) at c.requires.active in
    let works = rw (← c.self.view_is) at c.requires.works in
    let reported = rw (← c.self.view_is) at c.requires.reported in
    rw (← c.self.view_is)
    (goes_spoken m (the_view c.self.inside) _ net _ _ reported works active turn (λ one there. rw c.in-Turn.is at (c.in_ok-work_by.ensures.speaks one there)) refl)

pub returns-in-Turn-clause-nearer : goal.returns-in-Turn-clause-nearer
returns-in-Turn-clause-nearer g c =
    let m = c.args.mote in
    let turn : TakesTurn m c.self.inside.network c.work_by.new.self = rw c.in-Turn.is at c.in_ok-work_by.ensures.worked in
    rw (← c.self.view_is)
    (less_by_turn m (the_view c.self.inside) (the_view (record c.self.inside { network = c.work_by.new.self; last = Came.Entry m })) turn refl)

pub returns-in-Entry-clause-steps : goal.returns-in-Entry-clause-steps
returns-in-Entry-clause-steps g c =
    let m = c.args.mote in
    let net = c.work_by.new.self in
    let made : Worked m Next.Entry c.self.inside.network net = rw c.in-Entry.is at c.in_ok-work_by.ensures.worked in
    let active = rw (← c.self.view_is) at c.requires.active in
    let works = rw (← c.self.view_is) at c.requires.works in
    let reported = rw (← c.self.view_is) at c.requires.reported in
    rw (← c.self.view_is)
    (goes_entry m (the_view c.self.inside) c.note_sent.new.self net _ _ reported works active made
    (λ one there. rw c.in-Entry.is at (c.in_ok-work_by.ensures.speaks one there)) c.note_sent.ensures)

pub returns-in-Entry-clause-nearer : goal.returns-in-Entry-clause-nearer
returns-in-Entry-clause-nearer g c =
    let m = c.args.mote in
    let net = c.work_by.new.self in
    let made : Worked m Next.Entry c.self.inside.network net = rw c.in-Entry.is at c.in_ok-work_by.ensures.worked in
    rw (← c.self.view_is)
    (less_made m (the_view c.self.inside) c.note_sent.new.self net made (ap (λ (s : StepsView). s.net) c.note_sent.ensures)
    (ap (λ (s : StepsView). s.waiting) c.note_sent.ensures))

pub returns-in-Rest-clause-steps : goal.returns-in-Rest-clause-steps
returns-in-Rest-clause-steps g c =
    let m = c.args.mote in
    let net = c.work_by.new.self in
    let rested : Worked m Next.Rest c.self.inside.network net = rw c.in-Rest.is at c.in_ok-work_by.ensures.worked in
    let active = rw (← c.self.view_is) at c.requires.active in
    let works = rw (← c.self.view_is) at c.requires.works in
    let reported = rw (← c.self.view_is) at c.requires.reported in
    rw (← c.self.view_is)
    (passes_rest Next.Rest m (the_view c.self.inside) _ net _ _ reported works active rested refl
    (λ one there. rw c.in-Rest.is at (c.in_ok-work_by.ensures.speaks one there)) refl)

pub returns-in-Halted-clause-steps : goal.returns-in-Halted-clause-steps
returns-in-Halted-clause-steps g c =
    let m = c.args.mote in
    let net = c.work_by.new.self in
    let rested : Worked m Next.Halted c.self.inside.network net = rw c.in-Halted.is at c.in_ok-work_by.ensures.worked in
    let active = rw (← c.self.view_is) at c.requires.active in
    let works = rw (← c.self.view_is) at c.requires.works in
    let reported = rw (← c.self.view_is) at c.requires.reported in
    rw (← c.self.view_is)
    (passes_rest Next.Halted m (the_view c.self.inside) _ net _ _ reported works active rested refl
    (λ one there. rw c.in-Halted.is at (c.in_ok-work_by.ensures.speaks one there)) refl)
