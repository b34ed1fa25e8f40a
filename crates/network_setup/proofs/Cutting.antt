-- Where a text is cut.
use Rattle.std.proofs.Common.{◌≡◌, ℕ, zero, suc, ◌<◌, ◌≤◌, ◌==◌, Bool, true, false, List, [], ◌∷◌, ◌++◌, length, take, drop, Option, Some, None, Result, Ok, Err, IfOk, IsErrOf, codes, bytes_eq, lit<, refl, ap, sym, ◌∙◌, arith}
use Rattle.std.proofs.lemmas.Bool.Decides.{nat_tests}
use Rattle.std.proofs.lemmas.List.{drop_at, length-append, length-drop, take-append-drop, take_at}
use Rattle.std.proofs.lemmas.Slice.Eq.{bytes_eq-Decides}
use Rattle.std.specs.Str.Pattern.{LacksTextAt}
use Rattle.mote_text.specs.Script.{argument_of}
use Rattle.network_setup.specs.Code.Setups.{Does, IfMalformed}
use Rattle.network_setup.specs.FirstLines.{DoesSaid, SaysNothing}
use Rattle.network_setup.specs.Lines.{cut_at, line_said, span_said, words_of}
use Rattle.network_setup.specs.MoteLines.{SaysNoMotes, list_said, with_calls}
use Rattle.network_setup.specs.SetupView.{SetupView}
use Rattle.network_setup.specs.declared.fault.LineFault.{LineFault}
use Rattle.network_setup.specs.declared.words.Span.{Span}

is_not : (b : Bool) → (b ≡ true → ⊥) → b ≡ false
is_not true apart = absurd (apart refl)
is_not false apart = refl

module _ (mark : List ℕ) (some : 0 < length mark) where
  -- a text that doesn't begin with the mark
  begins_not : (text : List ℕ) → LacksTextAt mark text 0 → bytes_eq (take (length mark) text) mark ≡ false
  begins_not text none = is_not _ (λ is.
      let front : take (length mark) text ≡ mark = (bytes_eq-Decides (take (length mark) text) mark).0 is in
      none (drop (length mark) text)
      (sym (take-append-drop (length mark) text) ∙ ap (λ (xs : List ℕ). xs ++ drop (length mark) text) front))

  begins : (text rest : List ℕ) → text ≡ mark ++ rest → bytes_eq (take (length mark) text) mark ≡ true
  begins text rest here =
      (bytes_eq-Decides (take (length mark) text) mark).1 (ap (take (length mark)) here ∙ take_at mark rest (length mark) refl)

  pub cut_none : (text : List ℕ) → ((k : ℕ) → k ≤ length text → LacksTextAt mark text k) → cut_at mark text ≡ None
  cut_none [] none = refl
  cut_none (byte ∷ text) none =
      let apart = begins_not (byte ∷ text) (none 0 (omega arith)) in
      let later = cut_none text (λ k h. none (suc k) (omega arith)) in
      rw (apart, later) refl

  pub cut_first : (text : List ℕ) (i : ℕ) (rest : List ℕ) → ((k : ℕ) → k < i → LacksTextAt mark text k) → drop i text ≡ mark ++ rest →
      cut_at mark text ≡ Some (take i text, rest)
  cut_first [] i rest none here =
      absurd (omega (arith, some, ap (length {A = ℕ}) here, length-drop {A = ℕ} i [], length-append mark rest))
  cut_first (byte ∷ text) zero rest none here =
      let yes = begins (byte ∷ text) rest here in
      let after : drop (length mark) (byte ∷ text) ≡ rest = ap (drop (length mark)) here ∙ drop_at mark rest (length mark) refl in
      rw (yes, after) refl
  cut_first (byte ∷ text) (suc i) rest none here =
      let apart = begins_not (byte ∷ text) (none 0 (omega arith)) in
      let later = cut_first text i rest (λ k h. none (suc k) (omega arith)) here in
      rw (apart, later) refl

pub argument_none : (mark line : List ℕ) → 0 < length mark → LacksTextAt mark line 0 → argument_of mark line ≡ None
argument_none mark line some none = rw (begins_not mark some line none) refl

-- the list after the word `calls` and a space
pub list_after : (text rest calls : List ℕ) → text ≡ codes " " ++ rest → calls ≡ rest → 0 < length calls → list_said text ≡ Some calls
list_after text [] calls e same some = absurd (omega (arith, some, ap (length {A = ℕ}) same))
list_after text (byte ∷ rest) calls e same some = rw (e, same) refl

-- no list: without the space, or with nothing after it
pub no_list_lacking : (text : List ℕ) → 0 < length text → LacksTextAt (codes " ") text 0 → list_said text ≡ None
no_list_lacking [] some none = absurd (omega (arith, some))
no_list_lacking (byte ∷ []) some none = refl
no_list_lacking (byte ∷ next ∷ text) some none = argument_none (codes " ") (byte ∷ next ∷ text) (lit< tt) none

pub no_list_empty : (text rest calls : List ℕ) → text ≡ codes " " ++ rest → calls ≡ rest → length calls ≡ 0 → list_said text ≡ None
no_list_empty text [] calls e same none = rw e refl
no_list_empty text (byte ∷ rest) calls e same none = absurd (omega (arith, none, ap (length {A = ℕ}) same))

pub nothing : (xs : List ℕ) → length xs ≡ 0 → xs ≡ []
nothing [] none = refl
nothing (x ∷ xs) none = absurd (omega (arith, none))

-- the words of a text that has a space, and of one that has none
is_no_space : (byte : ℕ) (text : List ℕ) → LacksTextAt (codes " ") (byte ∷ text) 0 → (byte == 32) ≡ false
is_no_space byte text none = is_not _ (λ is.
    let space : byte ≡ 32 = grind (arith, nat_tests) in none text (ap (λ (b : ℕ). b ∷ text) space))

pub words_first : (text : List ℕ) (i : ℕ) (rest : List ℕ) → ((k : ℕ) → k < i → LacksTextAt (codes " ") text k) →
    drop i text ≡ codes " " ++ rest → words_of text ≡ take i text ∷ words_of rest
words_first [] i rest none here = absurd (omega (arith, ap (length {A = ℕ}) here, length-drop {A = ℕ} i []))
words_first (byte ∷ text) zero rest none here = ap (λ (xs : List ℕ). words_of xs) here
words_first (byte ∷ text) (suc i) rest none here =
    let apart = is_no_space byte text (none 0 (omega arith)) in
    let later = words_first text i rest (λ k h. none (suc k) (omega arith)) here in
    rw (apart, later) refl

pub one_word : (text : List ℕ) → ((k : ℕ) → k ≤ length text → LacksTextAt (codes " ") text k) → words_of text ≡ text ∷ []
one_word [] none = refl
one_word (byte ∷ text) none =
    let apart = is_no_space byte text (none 0 (omega arith)) in
    let later = one_word text (λ k h. none (suc k) (omega arith)) in
    rw (apart, later) refl

-- such words where the first one says motes, and where it says none
pub motes_first : (text front : List ℕ) (words : List (List ℕ)) (calls : Option (List ℕ)) (span : Span) → words_of text ≡ front ∷ words →
    span_said front ≡ Some span → with_calls (words_of text) calls ≡ Some (record { span = span; words = words; calls = calls })
motes_first text front words calls span first is = rw (first, is) refl

pub no_motes_first : (text front : List ℕ) (words : List (List ℕ)) (calls : Option (List ℕ)) → words_of text ≡ front ∷ words →
    span_said front ≡ None → with_calls (words_of text) calls ≡ None
no_motes_first text front words calls first is = rw (first, is) refl

pub argument_some : (mark line rest : List ℕ) → 0 < length mark → line ≡ mark ++ rest → argument_of mark line ≡ Some rest
argument_some mark line rest some here =
    let yes = begins mark some line rest here in
    let after : drop (length mark) line ≡ rest = ap (drop (length mark)) here ∙ drop_at mark rest (length mark) refl in
    rw (yes, after) refl

-- a line that says motes, and one that doesn't
module _ (line text : List ℕ) (old : SetupView) (some : argument_of (codes "mote ") line ≡ Some text) where
  pub motes_malformed : (result : Result (Unit {0}) LineFault) → IfMalformed result (SaysNoMotes text old) →
      IsErrOf result LineFault.Malformed → SaysNothing line old
  motes_malformed result why same = rw some (rw same at why)

module _ (line : List ℕ) (old new : SetupView) (none : argument_of (codes "mote ") line ≡ None) where
  pub other_done : (result : Result (Unit {0}) LineFault) → Does result (line_said (words_of line) old) new →
      IfOk result (λ _. DoesSaid line old new)
  other_done (Ok x) does = rw none does
  other_done (Err fault) does = tt

  pub other_malformed : (result : Result (Unit {0}) LineFault) → Does result (line_said (words_of line) old) new →
      IsErrOf result LineFault.Malformed → SaysNothing line old
  other_malformed (Ok x) does same = absurd (cc)
  other_malformed (Err LineFault.Malformed) does same = rw none does
  other_malformed (Err LineFault.Memory) does same = absurd (cc)
