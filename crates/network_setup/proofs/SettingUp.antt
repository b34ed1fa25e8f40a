-- The first lines of a script, taken one after the other.
use Rattle.std.proofs.Common.{◌≡◌, ◌+◌, ℕ, suc, false, List, length, ap, arith, Bor, Option, None, Some, MatchBool, Err, IsErrOf, inl, inr, subst, sym}
use Rattle.network_setup.specs.Code.Words.{IsNextLine}
use Rattle.network_setup.specs.FirstLines.{AreCarriedOut, DoesSaid, IsBadLine, IsExecuted, IsMalformed, IsText, SaysNothing, is_blank, is_input}
use Rattle.network_setup.specs.SetupView.{SetupView}
use Rattle.network_setup.specs.declared.fault.LineFault.{LineFault}

-- what a line that is no input does
abbrev DoesLine : List ℕ → SetupView → SetupView → Type 0
DoesLine line old new = MatchBool (is_blank line) (new ≡ old) (DoesSaid line old new)

-- Of all lines these are left after the n first ones: what they do from now on, all do from the old setup on
pub record IsOnTheWay (n : ℕ) (all lines : List (List ℕ)) (old now : SetupView) : Type 0 where
  pub carried_out : (left : List (List ℕ)) (new : SetupView) → AreCarriedOut lines left now new → AreCarriedOut all left old new
  pub bad_line : (m : ℕ) → IsBadLine (suc m) lines now → IsBadLine (suc (n + m)) all old
  pub counted : n + length lines ≡ length all

module _ {n m : ℕ} {all lines rest : List (List ℕ)} {text : Option (Bor (List ℕ))} {old now : SetupView} (before : IsOnTheWay n all lines old now)
    (next : IsNextLine text lines rest) (number : m ≡ n + 1) where
  bad_here : IsMalformed next.line now → IsBadLine m all old
  bad_here malformed =
      let here : IsBadLine 1 lines now = rw next.first malformed in
      let e : suc (n + 0) ≡ m = omega (arith, number) in
      subst (λ (k : ℕ). IsBadLine k all old) e (before.bad_line 0 here)

  pub no_text : text ≡ None → IsBadLine m all old
  no_text none = bad_here (inl (rw none at next.told))

  module _ (told : Bor (List ℕ)) (is : text ≡ Some told) where
    is_line : (told.now ≡ next.line) × IsText next.line
    is_line = rw is at next.told

    module _ (other : is_input told.now ≡ false) where
      pub says_nothing : (fault : LineFault) → fault ≡ LineFault.Malformed →
          (IsErrOf {T = Unit {0}} (Err fault) LineFault.Malformed → (is_blank told.now ≡ false) × SaysNothing told.now now) → IsBadLine m all old
      says_nothing fault same why =
          let malformed = why (ap (λ (f : LineFault). Err f) same) in
          bad_here (subst (λ (line : List ℕ). IsMalformed line now) is_line.0 (inr (other, malformed.0, malformed.1)))

      executed : (new : SetupView) → DoesLine told.now now new → IsExecuted next.line now new
      executed new done =
          let text : IsText told.now = subst IsText (sym is_line.0) is_line.1 in
          subst (λ (line : List ℕ). IsExecuted line now new) is_line.0 (text, other, done)

      pub does : (new : SetupView) → DoesLine told.now now new → IsOnTheWay m all rest old new
      does new done = record {
        carried_out = λ left last later.
            let from_here : AreCarriedOut lines left now last = rw next.first (inr (new, executed new done, later)) in
            before.carried_out left last from_here;
        bad_line = λ k bad.
            let from_here : IsBadLine (suc (suc k)) lines now = rw next.first (new, executed new done, bad) in
            let e : suc (n + suc k) ≡ suc (m + k) = omega (arith, number) in
            subst (λ (j : ℕ). IsBadLine j all old) e (before.bad_line (suc k) from_here);
        counted = omega (arith, before.counted, number, ap (length {A = List ℕ}) next.first);
      }
