use Rattle.std.proofs.Common.{rules, arith}
use Rattle.mote_text.proofs.Blanked.{entry_ended, entry_is_some}
use Rattle.mote_text.proofs.Common.{Entry}
use Rattle.mote_text.proofs.transcript.put_input_line.Goals as goal

pub end_line-requires : goal.end_line-requires
end_line-requires g c = (
  search rules,
  (
    entry_is_some (Entry.Input c.args.input.now) _ c.put_input-end.new.page.bytes c.put_input-end.new.page.bytes _ _ _ c.put_input-end.ensures,
    omega (arith, c.put_input-end.ensures.few, c.requires),
  ),
)

pub returns : goal.returns
returns g c = entry_ended (Entry.Input c.args.input.now) _ c.put_input-end.new.page.bytes _ _ _ _ c.end_line.ensures.size c.end_line.ensures.line c.put_input-end.ensures
