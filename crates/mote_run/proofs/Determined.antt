-- A script has one text and one end.
use Rattle.std.proofs.Common.{◌≡◌, ℕ, Bool, List, ap, sym, ◌∙◌}
use Rattle.mote_run.proofs.Common.{Applications, End, inputs, end_of, text, Config, IsRunText, at_start}
use Rattle.kernel_core.proofs.Determined.{runs_one}

module _ {config : Config} {says : Applications} {quiet : Bool} {script out also : List ℕ} {end ends : End} where
  one_last : (x : IsRunText config says quiet script out end) (y : IsRunText config says quiet script also ends) → x.last ≡ y.last
  one_last x y = runs_one says (inputs script).0 (at_start config) x.last y.last x.runs y.runs

  pub one_end : IsRunText config says quiet script out end → IsRunText config says quiet script also ends → end ≡ ends
  one_end x y = x.ends ∙ (ap (λ last. end_of last.entries (inputs script).1) (one_last x y) ∙ sym y.ends)

  pub one_text : IsRunText config says quiet script out end → IsRunText config says quiet script also ends → out ≡ also
  one_text x y = x.is_text ∙ (ap (λ last. text quiet last.entries end) (one_last x y)
      ∙ (ap (text quiet y.last.entries) (one_end x y) ∙ sym y.is_text))
