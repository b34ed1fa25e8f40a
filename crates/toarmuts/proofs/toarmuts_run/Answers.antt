use Rattle.std.proofs.Common.{◌<◌, arith}
use Rattle.toarmuts.proofs.toarmuts_run.Goals as goal

pub returns-in-Ok-clause-text : goal.returns-in-Ok-clause-text
returns-in-Ok-clause-text c is_end =
    record {
      end = c.in-Ok.ran.end;
      has_run = rw (c.put_run.ensures.text is_end) c.in-Ok.ensures.run;
      is_status = c.put_run.ensures.status is_end;
      is_line = c.put_run.ensures.line is_end;
    }

pub returns-in-Ok-clause-no_room : goal.returns-in-Ok-clause-no_room
returns-in-Ok-clause-no_room c is_full =
    let large : 4 < c.put_run.new.outcome.status = omega (arith, is_full) in
    record {
      end = c.in-Ok.ran.end;
      out = c.in-Ok.ran.transcript.items;
      has_run = c.in-Ok.ensures.run;
      is_size = c.put_run.ensures.length;
      is_over = c.put_run.ensures.over large;
    }

pub returns-in-Ok-clause-refused : goal.returns-in-Ok-clause-refused
returns-in-Ok-clause-refused c large other = absurd (other (c.put_run.ensures.full large))

pub returns-in-Ok-clause-no_line : goal.returns-in-Ok-clause-no_line
returns-in-Ok-clause-no_line c is_full = c.put_run.ensures.no_line (omega (arith, is_full))

pub returns-in-Ok-clause-no_length : goal.returns-in-Ok-clause-no_length
returns-in-Ok-clause-no_length c large other = absurd (other (c.put_run.ensures.full large))

pub returns-in-Err-clause-text : goal.returns-in-Err-clause-text
returns-in-Err-clause-text c is_end = absurd (omega (arith, c.put_refusal.ensures.large, is_end))

pub returns-in-Err-clause-no_room : goal.returns-in-Err-clause-no_room
returns-in-Err-clause-no_room c is_full = absurd (c.put_refusal.ensures.other is_full)

pub returns-in-Err-clause-refused : goal.returns-in-Err-clause-refused
returns-in-Err-clause-refused c large other =
    record {
      refusal = c.in-Err.refusal;
      is_refused = c.in-Err.ensures.refused;
      is_status = c.put_refusal.ensures.status;
      is_line = c.put_refusal.ensures.line;
      is_reason = c.put_refusal.ensures.reason;
      is_application = c.put_refusal.ensures.application;
      is_call = c.put_refusal.ensures.call;
    }
