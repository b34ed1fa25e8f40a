use Rattle.std.proofs.Common.{rules, ◌≡◌, ◌<◌, length}
use Rattle.network_setup.proofs.Asking.{silent_application, turn_is_call, waits_is_call}
use Rattle.network_setup.proofs.applications.ApplicationsCaller.call_into.Goals as goal

pub returns-then-has_application : goal.returns-then-has_application
returns-then-has_application c = record {
  call =
      let motes = c.args.self.now.motes.items in
      let within : c.args.mote < length motes = search rules in
      turn_is_call motes c.args.mote c.args.turn.process.0 c.args.turn.stimulus.now c.take_turn.new.call c.index_mut.result.now
      c.take_turn.new.applications within c.index_mut.ensures.value
      c.take_turn.ensures.made c.take_turn.ensures.law c.take_turn.ensures.others;
}

pub returns-else-has_application : goal.returns-else-has_application
returns-else-has_application c = record {
  call =
      let motes = c.args.self.now.motes.items in
      let within : c.args.mote < length motes = search rules in
      let many : c.len-else-mote-len.result ≡ length c.index.result.now.items = search rules in
      waits_is_call motes c.args.mote c.args.turn.process.0 c.args.turn.stimulus.now
      (silent_application motes c.args.mote c.args.turn.process.0 c.index.result.now within c.index.ensures
      (rw many at (c.has_application.ensures.lacks c.if-has_application.false)));
}
