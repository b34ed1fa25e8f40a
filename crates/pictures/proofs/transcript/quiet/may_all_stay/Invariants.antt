use Rattle.std.proofs.Common.{All, take}
use Rattle.pictures.specs.Transcript.Quiet.{MayStay}
use Rattle.pictures.proofs.transcript.quiet.may_all_stay.Given as goal

abbrev pub invariant-loop-line : goal.invariant-loop-line
invariant-loop-line l = All (λ line. MayStay line.now) (take l.line-index l.lines)
