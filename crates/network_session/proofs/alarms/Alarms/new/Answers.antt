use Rattle.std.proofs.Common.{ap, ◌∙◌, map}
use Rattle.network_session.specs.declared.alarm.Alarm.{Alarm}
use Rattle.network_session.proofs.Rows.{row_moments}
use Rattle.network_session.proofs.alarms.Alarms.new.Goals as goal

pub returns : goal.returns
returns c =
    ap (map (λ (a : Alarm). a.moment)) c.play.ensures.players ∙ row_moments c.args.moments.now c.in_ok-nodes.nodes.items c.in_ok-nodes.ensures.row
