-- A turn's line by its parts.
use Rattle.std.proofs.Common.{◌≡◌, ◌≢◌, ◌∙◌, ◌<◌, ◌≤◌, ◌+◌, ℕ, zero, suc, true, not, ◌==◌, List, [], ◌∷◌, ◌++◌, Option, Some, None, append_assoc, codes, decimal, take, drop, get_or, length, length-append, refl, sym, ap, arith, inl, inr}
use Rattle.std.proofs.lemmas.Bool.{and_parts, cases_lt}
use Rattle.std.proofs.lemmas.Bool.Decides.{nat_tests}
use Rattle.std.proofs.lemmas.List.{append_cancel_left, drop_at, take_at}
use Rattle.std.proofs.lemmas.Str.Pattern.{IsSplitOnceResult, split_after, split_text_parts}
use Rattle.std.specs.List.{list_all}
use Rattle.std.specs.Option.{MatchOption}
use Rattle.std.specs.Str.Pattern.{FindsText}
use denote.Ref.{Bor}
use Rattle.pictures.specs.Transcript.Code.{origin_in}
use Rattle.pictures.specs.Transcript.Forms.{IsTurnLine}
use Rattle.pictures.specs.Transcript.Lines.{origin_text}
use Rattle.pictures.specs.Transcript.Turns.{is_call, is_stimulus, is_turn}
use Rattle.pictures.specs.declared.transcript.turn.Origin.{Origin}
use Rattle.pictures.specs.declared.transcript.turn.Turn.{Turn}
use Rattle.pictures.proofs.ReadNumbers.{not_in_decimal}

pub turn_parts : (line front call pid rest origin stimulus number word : List ℕ) → line ≡ front ++ (codes " -> " ++ call)
    → front ≡ pid ++ 32 ∷ rest → rest ≡ origin ++ 32 ∷ stimulus
    → pid ≡ number → origin ≡ word → line ≡ number ++ codes " " ++ word ++ codes " " ++ stimulus ++ codes " -> " ++ call
turn_parts line front call pid rest origin stimulus number word whole first second is_number is_word =
    rw (whole, first, second, is_number, is_word) (simp append_assoc)

-- ---- the same parts are found in the line of a turn

abbrev Parts : Type 0
Parts = Option (Bor (List ℕ) × Bor (List ℕ))

-- what `split_once` says of the arrow
abbrev pub IsCut : List ℕ → Parts → Type 0
IsCut line r =
    MatchOption r (FindsText (codes " -> ") line None)
    (λ x. (i : ℕ) × (j : ℕ) × FindsText (codes " -> ") line (Some (i, j)) × (x.0.now ≡ take i line) × (x.1.now ≡ drop j line) × (i ≤ j)
    × (length x.0.now ≡ i) × (length x.1.now + j ≡ length line))

abbrev Are : Parts → List ℕ → List ℕ → Type 0
Are r first second = MatchOption r ⊥ (λ x. (x.0.now ≡ first) × (x.1.now ≡ second))

-- no arrow comes before the one that is found
pub first_arrow : (line : List ℕ) (front call : Bor (List ℕ)) → IsCut line (Some (front, call)) → (other rest : List ℕ)
    → line ≡ other ++ (codes " -> " ++ rest) → length rest ≤ length call.now
first_arrow line front call cut other rest whole =
    let found = split_text_parts (codes " -> ") line (Some (front, call)) cut in
    let late : (length other < length front.now) → ⊥ = λ early. cut.2.0 (length other) (omega (arith, early, cut.6)) rest
    (ap (drop (length other)) whole ∙ drop_at other (codes " -> " ++ rest) (length other) refl) in
    let sizes : length front.now + length (codes " -> " ++ call.now) ≡ length other + length (codes " -> " ++ rest) =
    sym (length-append front.now (codes " -> " ++ call.now)) ∙ ap length (sym found ∙ whole) ∙ length-append other (codes " -> " ++ rest) in
    elim (cases_lt (length other) (length front.now)) [
      | inl early ↦ absurd (late early)
      | inr order ↦ omega (arith, order, sizes)
    ]

arrow_found : (line front call : List ℕ) (r : Parts) → IsCut line r → line ≡ front ++ (codes " -> " ++ call)
    → ((other rest : List ℕ) → line ≡ other ++ (codes " -> " ++ rest) → length rest ≤ length call) → Are r front call
arrow_found line front call None cut whole first = split_text_parts (codes " -> ") line None cut front call whole
arrow_found line front call (Some (f, c)) cut whole first =
    let found : line ≡ f.now ++ (codes " -> " ++ c.now) = split_text_parts (codes " -> ") line (Some (f, c)) cut in
    let same : f.now ++ (codes " -> " ++ c.now) ≡ front ++ (codes " -> " ++ call) = sym found ∙ whole in
    let sizes : length f.now + length (codes " -> " ++ c.now) ≡ length front + length (codes " -> " ++ call) =
    sym (length-append f.now (codes " -> " ++ c.now)) ∙ ap length same ∙ length-append front (codes " -> " ++ call) in
    let size : length f.now ≡ length front =
    omega (arith, sizes, first f.now c.now found, first_arrow line f c cut front call whole) in (
      sym (take_at f.now (codes " -> " ++ c.now) (length front) size) ∙ ap (take (length front)) same
          ∙ take_at front (codes " -> " ++ call) (length front) refl,
      append_cancel_left (codes " -> ") c.now call
          (sym (drop_at f.now (codes " -> " ++ c.now) (length front) size) ∙ ap (drop (length front)) same
          ∙ drop_at front (codes " -> " ++ call) (length front) refl),
    )

lacks : (text : List ℕ) → list_all (λ byte. not (byte == 32)) text ≡ true → (at : ℕ) → at < length text → get_or text at 0 ≢ 32
lacks [] all at inside = absurd (omega arith)
lacks (byte ∷ text) all zero inside = grind (arith, nat_tests)
lacks (byte ∷ text) all (suc at) inside = lacks text (and_parts (not (byte == 32)) (list_all (λ byte. not (byte == 32)) text) all).1 at (omega arith)

no_space : (origin : Origin) → list_all (λ byte. not (byte == 32)) (origin_text origin) ≡ true
no_space Origin.Event = refl
no_space Origin.Synch = refl
no_space Origin.Poll = refl
no_space Origin.Callback = refl
no_space Origin.Answer = refl

pub origin_read : (origin : Origin) → origin_in (origin_text origin) ≡ Some origin
origin_read Origin.Event = refl
origin_read Origin.Synch = refl
origin_read Origin.Poll = refl
origin_read Origin.Callback = refl
origin_read Origin.Answer = refl

abbrev after_pid : Turn → List ℕ
after_pid turn = origin_text turn.origin ++ 32 ∷ turn.stimulus.now

abbrev before_call : Turn → List ℕ
before_call turn = decimal turn.pid ++ 32 ∷ after_pid turn

module _ {line : List ℕ} {turn : Turn} (is : IsTurnLine line turn) where
  pub is_application : (4 ≤ turn.pid) × (turn.pid < 20)
  unfolding is_turn
  is_application = let form = is.form in (grind (arith, nat_tests, form), grind (arith, nat_tests, form))

  pub is_accepted : (is_stimulus turn.origin turn.stimulus.now ≡ true) × (is_call turn.call.now ≡ true)
  unfolding is_turn
  is_accepted = let form = is.form in (grind (arith, form), grind (arith, form))

  pub call_found : (r : Parts) → IsCut line r → Are r (before_call turn) turn.call.now
  call_found r cut =
      arrow_found line (before_call turn) turn.call.now r cut
      (is.text ∙ simp append_assoc)
      is.first

  pub pid_found : (front : List ℕ) → front ≡ before_call turn → (r : Parts) → IsSplitOnceResult 32 front r
      → Are r (decimal turn.pid) (after_pid turn)
  pid_found front same r split =
      split_after 32 front (decimal turn.pid) (after_pid turn) r split (omega arith) same
      (not_in_decimal turn.pid (omega (arith, is_application)) 32 (λ is. omega (arith, is)))

  pub origin_found : (rest : List ℕ) → rest ≡ after_pid turn → (r : Parts) → IsSplitOnceResult 32 rest r
      → Are r (origin_text turn.origin) turn.stimulus.now
  origin_found rest same r split =
      split_after 32 rest (origin_text turn.origin) turn.stimulus.now r split (omega arith) same
      (lacks (origin_text turn.origin) (no_space turn.origin))
