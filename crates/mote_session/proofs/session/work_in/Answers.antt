use Rattle.std.proofs.Common.{refl, ap}
use Rattle.mote_types.specs.declared.call.Call.{Call}
use Rattle.mote_session.specs.Code.Places.{entry_in}
use Rattle.mote_session.proofs.session.work_in.Goals as goal

pub returns-in-Turn-clause-advances : goal.returns-in-Turn-clause-advances
returns-in-Turn-clause-advances c = λ taken. record {
  turn = record { process = c.next.new.turn.pid; origin = c.next.new.turn.origin; stimulus = c.next.new.turn.stimulus };
  opened = rw (c.next.ensures.opens c.in-Turn.is) refl;
  application = c.next.ensures.application c.in-Turn.is;
  awaits = c.next.ensures.awaits c.in-Turn.is;
  last = refl;
  left = c.next.ensures.room c.in-Turn.is;
}

pub returns-in-Rest-clause-advances : goal.returns-in-Rest-clause-advances
returns-in-Rest-clause-advances c = λ taken. record {
  goes = c.in-Rest.ensures.goes (λ is. absurd (cc));
  last = ap (entry_in c.args.last.now taken) (c.in-Rest.ensures.unmade (λ is. absurd (cc)));
  closed = rw (c.in-Rest.ensures.closed (λ is. absurd (cc))) refl;
}

pub returns-in-Halted-clause-advances : goal.returns-in-Halted-clause-advances
returns-in-Halted-clause-advances c = λ taken. record {
  halted = (c.in-Halted.ensures.goes (λ is. absurd (cc)) (λ p stimulus. Call.Wait)).0;
  machine = (c.in-Halted.ensures.goes (λ is. absurd (cc)) (λ p stimulus. Call.Wait)).1;
  last = ap (entry_in c.args.last.now taken) (c.in-Halted.ensures.unmade (λ is. absurd (cc)));
  closed = rw (c.in-Halted.ensures.closed (λ is. absurd (cc))) refl;
}
