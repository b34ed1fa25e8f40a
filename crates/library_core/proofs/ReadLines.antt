-- The applications of the lines that were read, and why the next line is none.
use Rattle.std.proofs.Common.{◌≡◌, ◌∙◌, ◌+◌, ◌<◌, ℕ, suc, List, ◌∷◌, ◌++◌, sym, ap, subst, length, take, drop, get_or, map, arith, Result, Ok, Err, IfErr, IsErr, IsErrAnd, [], refl}
use Rattle.std.proofs.lemmas.List.{drop_more, take-append-drop}
use Rattle.call_lists.specs.declared.applications.Application.{Application}
use Rattle.library_core.specs.Outcomes.{AreOfLines, AreRefused, IsOfLine, IsRefusedLine}
use Rattle.library_core.specs.declared.refusal.Refusal.{Refusal}
use denote.Ref.{Bor}

pub as_many : (lines : List (List ℕ)) (applications : List Application) → AreOfLines lines applications → length lines ≡ length applications
as_many [] [] are = refl
as_many [] (other ∷ others) are = absurd are
as_many (first ∷ following) [] are = absurd are
as_many (first ∷ following) (other ∷ others) are = ap suc (as_many following others are.1)

pub handed_on : {T E : Type 0} (P : E → Type 0) (e : E) (r : Result T E) → IsErr r × IsErrAnd r (λ found. found ≡ e) → P e → IfErr r P
handed_on P e (Ok x) gives held = tt
handed_on P e (Err found) gives held = subst P (sym gives.1) held

abbrev pub texts_of : List (Bor (List ℕ)) → List (List ℕ)
texts_of lines = map (λ (line : Bor (List ℕ)). line.now) lines

pub one_more : (read : List (Bor (List ℕ))) (applications : List Application) (line : Bor (List ℕ)) (application : Application)
    → AreOfLines (texts_of read) applications
    → IsOfLine line.now application → AreOfLines (texts_of (read ++ line ∷ [])) (applications ++ application ∷ [])
one_more [] [] line application are is = (is, tt)
one_more [] (other ∷ others) line application are is = absurd are
one_more (first ∷ following) [] line application are is = absurd are
one_more (first ∷ following) (other ∷ others) line application are is = (are.0, one_more following others line application are.1 is)

-- this line follows n lines
pub next_line : (all : List (List ℕ)) (n : ℕ) (line : List ℕ) → n < length all → line ≡ get_or all n line
    → all ≡ take n all ++ line ∷ drop (n + 1) all
next_line all n line inside is =
    sym (take-append-drop n all)
    ∙ ap (λ later. take n all ++ later) (drop_more all n line inside ∙ ap (λ first. first ∷ drop (n + 1) all) (sym is))

-- why the line after those that were read is refused, and so the text
module _ {all : List (List ℕ)} (before : List (List ℕ)) (applications : List Application) (line : List ℕ)
    (behind : List (List ℕ)) (count : ℕ)
    (is_line : all ≡ before ++ line ∷ behind) (are : AreOfLines before applications) (same : count ≡ length applications) where
  pub refused_line : (refusal : Refusal) → IsRefusedLine line count refusal → AreRefused all refusal
  refused_line (Refusal.NoApplication number reason) refused =
      record {
        line = line;
        before = before;
        behind = behind;
        is_line = is_line;
        is_number = refused.0 ∙ same ∙ sym (as_many before applications are);
        is_among = omega (arith, refused.0, refused.1);
        are_named = (applications, are);
        is_none = refused.2;
        is_reason = refused.3;
      }
  refused_line Refusal.TooManyApplications refused =
      record {
        line = line;
        before = before;
        behind = behind;
        is_line = is_line;
        are_named = (applications, are);
        are_full = omega (arith, as_many before applications are, same, refused);
      }
  refused_line refusal refused = absurd refused
