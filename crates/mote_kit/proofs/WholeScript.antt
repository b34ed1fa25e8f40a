-- If nothing was read, or all was: parts of runs that are runs of a whole script.
use Rattle.std.proofs.Common.{◌≡◌, ◌++◌, ◌∙◌, ℕ, Bool, true, List, [], length, take, drop, ap, sym, arith}
use Rattle.std.specs.Prelude.{Ok}
use Rattle.std.proofs.lemmas.List.{length-drop, nil_from_length, take-append-drop}
use Rattle.mote_types.specs.Applications.{Applications}
use Rattle.mote_text.specs.declared.script.End.{End}
use Rattle.kernel_core.specs.declared.config.Config.{Config}
use Rattle.mote_run.specs.RunText.{Exchanged, HasRunTo, IsRunText}

-- a run that ended is a run of the whole script
pub text_of_script : {Fault : Type 0} {failed : Fault} {config : Config} {says : Applications} {quiet : Bool}
    (script text : List ℕ) (position : ℕ) {taken_old given_old given_new : List ℕ} {is_ended : Bool} {end : End} →
    Exchanged taken_old (take position text) is_ended given_old given_new (HasRunTo config says quiet failed (Ok end)) →
    taken_old ≡ [] → given_old ≡ [] → text ≡ script → (is_ended ≡ true → position ≡ length text) →
    IsRunText config says quiet script given_new end
text_of_script script text position {given_new = given_new} x started unwritten same at_end =
    let run = x.holds.text (drop position text) (λ ended.
    nil_from_length (drop position text) (omega (arith, at_end ended, length-drop position text))) in
    let read : x.read ++ drop position text ≡ script =
    ap (λ v. v ++ drop position text) (sym (x.taken ∙ ap (λ v. v ++ x.read) started)) ∙ (take-append-drop position text ∙ same) in
    let written : x.written ≡ given_new = sym (x.given ∙ ap (λ v. v ++ x.written) unwritten) in
    rw (read, written) at run
