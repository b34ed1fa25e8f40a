use Rattle.std.proofs.Common.{rules, arith}
use Rattle.mote_text.proofs.Blanked.{ended, is_some}
use Rattle.mote_text.proofs.transcript.put_bad_line.Goals as goal

pub end_line-requires : goal.end_line-requires
end_line-requires g c = (
  search rules,
  (
    is_some _ c.put_bad_words-end.new.page.bytes c.put_bad_words-end.new.page.bytes _ _ _ _ _ c.put_bad_words-end.ensures,
    omega (arith, c.put_bad_words-end.ensures.few, c.requires),
  ),
)

pub returns : goal.returns
returns g c = ended _ c.put_bad_words-end.new.page.bytes _ _ _ _ _ _ c.end_line.ensures.size c.end_line.ensures.line c.put_bad_words-end.ensures
