use Rattle.std.proofs.Common.{◌≡◌, ℕ, List, ap, refl, subst, sym, ◌∙◌, None, Some}
use Rattle.mote_session.specs.declared.session.Next.{Next}
use Rattle.network_session.specs.Code.Wakes.{IsSteady}
use Rattle.network_session.specs.Code.Working.{TakesTurn, TurnIn}
use Rattle.network_session.specs.Network.{NetworkView}
use Rattle.network_session.specs.Steps.{Worked, WorkedIn}
use Rattle.network_session.specs.Waking.{wake}
use Rattle.network_session.proofs.Steady.{steady_on, steady_rested}
use Rattle.network_session.proofs.Working.{there_after, worked_entry}
use Rattle.network_session.proofs.WorkingBy.{takes_turn}
use Rattle.network_session.proofs.network.Network.work_by.Goals as goal

pub invariant_of-self-in-Turn : goal.invariant_of-self-in-Turn
invariant_of-self-in-Turn g c =
    let h : TurnIn c.args.m c.self.inside.motes.items c.work_by_in.new.motes.items = rw c.in-Turn.is at c.in_ok-work_by_in.ensures.worked in
    let e : c.self.inside.active ≡ Some c.args.m = ap (λ (v : NetworkView). v.active) c.self.view_is ∙ c.requires in
    let opened = steady_on c.args.m c.self.inside.motes.items c.self.inside.wakes h.opens.after h.mid c.self.inside.target h.opens.others (rw e at c.self.invariant) in
    rw e (steady_on c.args.m h.mid c.self.inside.wakes h.submitted.after c.work_by_in.new.motes.items c.self.inside.target h.submitted.others opened)

pub invariant_of-self-in-Entry : goal.invariant_of-self-in-Entry
invariant_of-self-in-Entry g c =
    let h : WorkedIn c.args.m Next.Entry c.self.inside.motes.items c.work_by_in.new.motes.items = rw c.in-Entry.is at c.in_ok-work_by_in.ensures.worked in
    let e : c.self.inside.active ≡ Some c.args.m = ap (λ (v : NetworkView). v.active) c.self.view_is ∙ c.requires in
    rw e (steady_on c.args.m c.self.inside.motes.items c.self.inside.wakes h.after c.work_by_in.new.motes.items c.self.inside.target h.others (rw e at c.self.invariant))

pub invariant_of-self-in-Rest : goal.invariant_of-self-in-Rest
invariant_of-self-in-Rest g c =
    let h : WorkedIn c.args.m Next.Rest c.self.inside.motes.items c.work_by_in.new.motes.items = rw c.in-Rest.is at c.in_ok-work_by_in.ensures.worked in
    let e : c.self.inside.active ≡ Some c.args.m = ap (λ (v : NetworkView). v.active) c.self.view_is ∙ c.requires in
    let steady = steady_on c.args.m c.self.inside.motes.items c.self.inside.wakes h.after c.work_by_in.new.motes.items c.self.inside.target h.others (rw e at c.self.invariant) in
    let there = there_after c.args.m c.self.inside.motes.items c.work_by_in.new.motes.items h.before h.after h.mote h.others in
    subst (λ (wakes : List ℕ). IsSteady None c.work_by_in.new.motes.items wakes c.self.inside.target) (sym (c.set_wake.ensures h.after there))
    (steady_rested c.args.m c.work_by_in.new.motes.items c.self.inside.wakes c.self.inside.target h.after (wake h.after.machine) there refl steady)

pub invariant_of-self-in-Halted : goal.invariant_of-self-in-Halted
invariant_of-self-in-Halted g c =
    let h : WorkedIn c.args.m Next.Halted c.self.inside.motes.items c.work_by_in.new.motes.items = rw c.in-Halted.is at c.in_ok-work_by_in.ensures.worked in
    let e : c.self.inside.active ≡ Some c.args.m = ap (λ (v : NetworkView). v.active) c.self.view_is ∙ c.requires in
    let steady = steady_on c.args.m c.self.inside.motes.items c.self.inside.wakes h.after c.work_by_in.new.motes.items c.self.inside.target h.others (rw e at c.self.invariant) in
    let there = there_after c.args.m c.self.inside.motes.items c.work_by_in.new.motes.items h.before h.after h.mote h.others in
    subst (λ (wakes : List ℕ). IsSteady None c.work_by_in.new.motes.items wakes c.self.inside.target) (sym (c.set_wake-in-Halted.ensures h.after there))
    (steady_rested c.args.m c.work_by_in.new.motes.items c.self.inside.wakes c.self.inside.target h.after (wake h.after.machine) there refl steady)

pub returns-in-Turn-clause-worked : goal.returns-in-Turn-clause-worked
returns-in-Turn-clause-worked g c =
    let e : c.self.inside.active ≡ Some c.args.m = ap (λ (v : NetworkView). v.active) c.self.view_is ∙ c.requires in
    let h : TurnIn c.args.m c.self.inside.motes.items c.work_by_in.new.motes.items = rw c.in-Turn.is at c.in_ok-work_by_in.ensures.worked in
    subst (λ (v : NetworkView). TakesTurn c.args.m v
    (record {
      motes = c.work_by_in.new.motes.items;
      air = c.self.inside.medium;
      active = c.self.inside.active;
      started = c.self.inside.started;
      target = c.self.inside.target;
      bound = c.self.inside.bound;
      rounds = c.self.inside.rounds;
    })) c.self.view_is
    (takes_turn c.args.m (record {
      motes = c.self.inside.motes.items;
      air = c.self.inside.medium;
      active = c.self.inside.active;
      started = c.self.inside.started;
      target = c.self.inside.target;
      bound = c.self.inside.bound;
      rounds = c.self.inside.rounds;
    })
    c.work_by_in.new.motes.items e h)

pub returns-in-Entry-clause-worked : goal.returns-in-Entry-clause-worked
returns-in-Entry-clause-worked g c =
    let e : c.self.inside.active ≡ Some c.args.m = ap (λ (v : NetworkView). v.active) c.self.view_is ∙ c.requires in
    let h : WorkedIn c.args.m Next.Entry c.self.inside.motes.items c.work_by_in.new.motes.items = rw c.in-Entry.is at c.in_ok-work_by_in.ensures.worked in
    subst (λ (v : NetworkView). Worked c.args.m Next.Entry v
    (record {
      motes = c.work_by_in.new.motes.items;
      air = c.air_in.new.medium;
      active = c.self.inside.active;
      started = c.self.inside.started;
      target = c.self.inside.target;
      bound = c.self.inside.bound;
      rounds = c.self.inside.rounds;
    })) c.self.view_is
    (worked_entry c.args.m (record {
      motes = c.self.inside.motes.items;
      air = c.self.inside.medium;
      active = c.self.inside.active;
      started = c.self.inside.started;
      target = c.self.inside.target;
      bound = c.self.inside.bound;
      rounds = c.self.inside.rounds;
    })
    c.work_by_in.new.motes.items c.air_in.new.medium c.index.result.now e h c.index.ensures c.air_in.ensures)

-- what the applications say

pub returns-in-Turn-clause-speaks : goal.returns-in-Turn-clause-speaks
returns-in-Turn-clause-speaks g c = λ one there. rw c.in-Turn.is at (c.in_ok-work_by_in.ensures.speaks one there)

pub returns-in-Entry-clause-speaks : goal.returns-in-Entry-clause-speaks
returns-in-Entry-clause-speaks g c = λ one there. rw c.in-Entry.is at (c.in_ok-work_by_in.ensures.speaks one there)

pub returns-in-Rest-clause-speaks : goal.returns-in-Rest-clause-speaks
returns-in-Rest-clause-speaks g c = λ one there. rw c.in-Rest.is at (c.in_ok-work_by_in.ensures.speaks one there)

pub returns-in-Halted-clause-speaks : goal.returns-in-Halted-clause-speaks
returns-in-Halted-clause-speaks g c = λ one there. rw c.in-Halted.is at (c.in_ok-work_by_in.ensures.speaks one there)
