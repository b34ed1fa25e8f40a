use Rattle.std.proofs.Common.{refl}
use Rattle.mote_run.proofs.Common.{inputs, end_of, text}
use Rattle.mote_run.proofs.law.text_exists.Goals as goal

pub returns : goal.returns
returns c = record {
  exists = λ config applications script quiet.
      let run = c.run_exists.ensures.exists config applications (inputs script).0 in
      let end = end_of run.0.entries (inputs script).1 in
      (text quiet run.0.entries end, end, record { last = run.0; runs = run.1; ends = refl; is_text = refl });
}
