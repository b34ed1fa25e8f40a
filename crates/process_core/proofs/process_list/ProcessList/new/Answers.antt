use Rattle.process_core.proofs.Lemmas.{[], refl, kept_at_first}
use Rattle.process_core.specs.Code.ProcessList.{mark_at}
use Rattle.process_core.proofs.process_list.ProcessList.new.Goals as goal

pub returns : goal.returns
unfolding mark_at
returns c =
    rw (c.push-4.ensures, c.push-3.ensures, c.push-2.ensures, c.push.ensures, c.new-on_list.ensures, c.new.ensures) refl

pub invariant_of-result : goal.invariant_of-result
invariant_of-result c =
    rw (c.push-4.ensures, c.push-3.ensures, c.push-2.ensures, c.push.ensures, c.new-on_list.ensures, c.new.ensures) record {
      kept =
          kept_at_first;
      ends = record { applications = []; split = refl; above = λ p h. absurd (cc) };
    }
