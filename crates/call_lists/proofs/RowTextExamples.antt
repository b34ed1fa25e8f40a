-- Examples: texts that are rows, and texts that aren't.
use Rattle.std.proofs.Common.{◌≡◌, ◌∙◌, ◌⊎◌, ℕ, Bool, true, false, List, [], ◌∷◌, ◌++◌, inl, inr, refl, sym, ap, append-nil, arith, codes, drop, length, Some, None}
use Rattle.std.proofs.lemmas.Grind.{common_steps}
use Rattle.std.specs.Fmt.{digits}
use Rattle.call_lists.specs.Spaced.{spaced}
use Rattle.mote_types.specs.EventNumbers.{PACKET, SERIAL_LINE, TIMER}
use Rattle.mote_types.specs.declared.call.Call.{Call}
use Rattle.call_lists.proofs.Cuts.{differ}
use Rattle.call_lists.specs.Rows.{Rule}
use Rattle.call_lists.specs.RowTexts.{AreCalls, AreMade, AreOfParts, IsBehindColon, IsCallWithReceived, IsRow, IsStimulus}
use Rattle.call_lists.specs.declared.rows.row.Step.{Step}
use Rattle.call_lists.specs.declared.rows.trigger.Trigger.{Trigger}

stimuli : IsStimulus (codes "136 0") (Trigger.Event TIMER (Some 0)) × IsStimulus (codes "line") (Trigger.Event SERIAL_LINE None)
    × IsStimulus (codes "callback") (Trigger.Callback None) × IsStimulus (codes "refused 18") (Trigger.Refused (Some 18))
unfolding digits
stimuli = (inl refl, inr (refl, inl (refl, refl)), (refl, tt), (refl, (omega arith, omega arith)))

-- no timer 4, no refusal 0 or 19; one event is not any event; a callback is no refusal
no_stimuli : IsStimulus (codes "callback 4") (Trigger.Callback (Some 4)) ⊎ IsStimulus (codes "refused 19") (Trigger.Refused (Some 19))
    ⊎ IsStimulus (codes "refused 0") (Trigger.Refused (Some 0)) ⊎ IsStimulus (codes "136") Trigger.Any
    ⊎ IsStimulus (codes "refused") (Trigger.Callback None) ⊎ IsStimulus (codes "callback") (Trigger.Refused None) → ⊥
no_stimuli is = grind arith

-- a line has no number
numbered_line : IsStimulus (codes "line") (Trigger.Event SERIAL_LINE (Some 3)) → ⊥
unfolding digits
numbered_line (inl numbered) = differ numbered refl
numbered_line (inr (none, word)) = absurd (cc)

no_frame : IsStimulus (codes "line") (Trigger.Event PACKET None) → ⊥
unfolding digits
no_frame (inl numbered) = differ numbered refl
no_frame (inr (none, inl line)) = let codes_differ : ◌≡◌ {A = ℕ} 139 138 = line.1 in absurd (omega arith)
no_frame (inr (none, inr frame)) = differ frame.0 refl

no_line : IsStimulus (codes "frame") (Trigger.Event SERIAL_LINE None) → ⊥
unfolding digits
no_line (inl numbered) = differ numbered refl
no_line (inr (none, inl line)) = differ line.0 refl
no_line (inr (none, inr frame)) = let codes_differ : ◌≡◌ {A = ℕ} 138 139 = frame.1 in absurd (omega arith)

kills : IsCallWithReceived (codes "kill told") true (Call.Kill 0)
unfolding digits spaced
kills = (codes "kill", refl, grind arith)

prints : IsCallWithReceived (codes "print told") true (Call.Print (record { items = [] }))
unfolding spaced
prints = (codes "print", refl, grind arith)

waits : IsCallWithReceived (codes "wait") false Call.Wait
unfolding spaced
waits = ([], refl, refl)

-- a written word is not replaced
no_told : (front : List ℕ) → codes "kill 0" ≡ front ++ codes " told" → ⊥
no_told [] same = differ same refl
no_told (a ∷ []) same = differ (ap (drop 1) same) refl
no_told (a ∷ b ∷ front) same = let sizes = ap length same in absurd (grind (arith, common_steps, sizes))

written : IsCallWithReceived (codes "kill 0") true (Call.Kill 0) → ⊥
written is = no_told is.0 is.1

-- the words before `told` are those of the call
no_kill : (is : IsCallWithReceived (codes "exit told") true (Call.Kill 0)) → is.0 ≡ codes "exit" → ⊥
no_kill (front, same, inl dash) is = differ (sym (ap (λ (words : List ℕ). words ++ codes " -") is) ∙ dash.1) refl
no_kill (front, same, inr number) is = differ (sym (ap (λ (words : List ℕ). words ++ codes " 0") is) ∙ number.1) refl

another_call : IsCallWithReceived (codes "exit") false Call.Wait → ⊥
another_call is = grind arith

abbrev with_received : Call → Step
with_received call = record { call = call; uses_received = true }

abbrev fixed : Call → Step
fixed call = record { call = call; uses_received = false }

twice : AreMade (codes "2 kill told") (with_received (Call.Kill 0) ∷ with_received (Call.Kill 0) ∷ [])
unfolding digits
twice = grind (arith, codes, kills)

-- without a number once, never 0 times; nothing after the last part
once_alone : AreMade (codes "wait") (fixed Call.Wait ∷ fixed Call.Wait ∷ []) ⊎ AreMade (codes "0 wait") []
    ⊎ AreOfParts [] (fixed Call.Wait ∷ []) → ⊥
unfolding digits
once_alone is = grind arith

-- a part is one call, repeated
no_two_calls : AreMade (codes "2 wait") (fixed Call.Wait ∷ fixed Call.Exit ∷ []) → ⊥
unfolding digits
no_two_calls (inl once) = let two : ◌≡◌ {A = ℕ} 2 1 = once.0 in absurd (omega arith)
no_two_calls (inr numbered) =
    let rest : codes "wait" ≡ numbered.0 = ap (drop 2) numbered.2 in differ (rest ∙ numbered.3.1.0.1) refl

row : IsRow (codes "any: wait, kill told, repeat")
    (record { trigger = Trigger.Any; steps = fixed Call.Wait ∷ with_received (Call.Kill 0) ∷ []; place = 0; repeats = true })
row = (
  codes "any",
  codes " wait, kill told, repeat",
  refl,
  refl,
  inr (
    codes "wait, kill told",
    refl,
    (
      codes "wait",
      codes "kill told" ∷ [],
      refl,
      (
        fixed Call.Wait ∷ [],
        with_received (Call.Kill 0) ∷ [],
        refl,
        inl (refl, (waits, tt)),
        (with_received (Call.Kill 0) ∷ [], [], refl, inl (refl, (kills, tt)), refl),
      ),
    ),
  ),
  refl,
)

-- a row without calls only waits
empty : IsRow (codes "any:") (record { trigger = Trigger.Any; steps = []; place = 0; repeats = false })
empty = grind arith

-- a row that was just read has made no call
begun : (rule : Rule) → IsRow (codes "any: wait") rule → rule.place ≡ 0
begun rule is = is.5

-- a row begins again only if it says so
not_repeated : (steps : List Step) → IsBehindColon (codes " wait") steps true → ⊥
not_repeated steps (inl nothing) = cc nothing.0
not_repeated steps (inr some) = let sizes = ap length some.1 in absurd (grind (arith, common_steps, sizes))

-- a part makes one call at least
none_made : (part : List ℕ) (first others : List Step) → [] ≡ first ++ others → AreMade part first → ⊥
none_made part [] others same (inl once) = let one : ◌≡◌ {A = ℕ} 0 1 = once.0 in absurd (omega arith)
none_made part [] others same (inr numbered) = absurd (omega (arith, numbered.1))
none_made part (step ∷ first) others same made = absurd (cc)

no_calls : (text : List ℕ) → AreCalls text [] → ⊥
no_calls text is = none_made is.0 is.3.0 is.3.1 is.3.2 is.3.3

-- one part is the whole text
one_part : (text : List ℕ) (steps : List Step) (are : AreCalls text steps) → are.1 ≡ [] → text ≡ are.0
one_part text steps are none = rw none at are.2 ∙ append-nil are.0

-- where nothing follows the colon, no call is made, and nothing begins again
nothing_said : (steps : List Step) (repeats : Bool) → IsBehindColon [] steps repeats → (steps ≡ []) × (repeats ≡ false)
nothing_said steps repeats (inl nothing) = (nothing.1, nothing.2)
nothing_said steps repeats (inr some) = absurd (let text = some.1 in cc)

-- the parts of a row
module _ (text : List ℕ) (rule : Rule) (is : IsRow text rule) where
  colon : text ≡ is.0 ++ codes ":" ++ is.1
  colon = is.2

  of_any : rule.trigger ≡ Trigger.Any → is.0 ≡ codes "any"
  of_any any = rw any at is.3

  without_calls : is.1 ≡ [] → (rule.steps ≡ []) × (rule.repeats ≡ false)
  without_calls none = nothing_said rule.steps rule.repeats (rw none at is.4)
