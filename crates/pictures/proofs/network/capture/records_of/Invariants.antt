use Rattle.std.proofs.Common.{◌≡◌, ◌++◌, false, take, flat_map}
use Rattle.std.specs.List.{list_any}
use Rattle.pictures.specs.Network.Capture.{global_header, is_sent_late, sent_record}
use Rattle.pictures.proofs.network.capture.records_of.Given as goal

abbrev pub invariant-loop-sent : goal.invariant-loop-sent
invariant-loop-sent l = record {
  records : l.out.items ≡ global_header ++ flat_map (sent_record l.clock_second) (take l.sent-index l.sends);
  in_time : list_any (is_sent_late l.clock_second) (take l.sent-index l.sends) ≡ false;
}
