-- Examples: what lines and numbers mean; of two reasons the first is reported.
use Rattle.std.proofs.Common.{◌≡◌, ◌∙◌, ◌++◌, ◌==◌, ◌||◌, ℕ, zero, suc, Bool, true, false, List, ◌∷◌, codes, refl, sym, ap, subst, arith, get_or, inl, inr, length, length-append, replicate, Some, None, []}
use Rattle.std.proofs.lemmas.Grind.{common_steps}
use Rattle.std.proofs.lemmas.List.{append-nil, nil_from_length}
use Rattle.std.proofs.lemmas.List.Elements.{All-cons, All-nil, All-replicate}
use Rattle.call_lists.specs.Calls.{IsCall, IsListOf}
use Rattle.call_lists.specs.Ranges.{ArePossible}
use Rattle.call_lists.specs.Spaced.{spaced}
use Rattle.mote_types.specs.declared.call.Call.{Call}
use Rattle.mote_text.specs.declared.script.End.{End}
use Rattle.kernel_core.specs.Machine.{is_bootable}
use Rattle.call_lists.specs.declared.applications.Application.{Application}
use Rattle.call_lists.specs.declared.fault.CallFault.{CallFault}
use Rattle.mote_run.specs.RunText.{IsRunText}
use Rattle.library_core.specs.declared.refusal.LineReason.{LineReason}
use Rattle.library_core.specs.declared.refusal.Refusal.{Refusal}
use Rattle.call_lists.specs.Applications.{application_says}
use Rattle.mote_run.specs.Code.Runs.{config_of}
use Rattle.std.specs.Str.Lines.{lines}
use Rattle.mote_types.specs.Applications.{says_of}
use Rattle.node_memory.specs.declared.sizes.Sizes.{Sizes}
use Rattle.library_core.specs.Outcomes.{AreRefused, HasBadSizes, HasNoReason, IsRefusalOf, IsRefusedLine, IsRunOf, IsTooLongFor, refusal_application, refusal_call, refusal_line, refusal_reason, refusal_status, AreOfLines, HasRun, IsOfLine, Refuses}
use Rattle.library_core.specs.Configurations.{is_quiet, sizes_of}
use Rattle.library_core.specs.Reasons.{HasCallsAlone, HasNoCallAt, IsBehindPart, IsCallPart, IsNoApplication, IsNoCallPart, IsOnePart, call_reason_of, size_reason, with_commas, HasCalls, HasNoCalls, IsLineReason}
use Rattle.library_core.specs.declared.configuration.Configuration.{Configuration}
use Rattle.library_core.specs.declared.refusal.CallReason.{CallReason}
use Rattle.library_core.specs.declared.refusal.SizeReason.{SizeReason}
use denote.Ref.{Bor}

-- The numbers of a configuration.

abbrev configured : ℕ → ℕ → Configuration
configured has_quota quiet = record { mmem = 64; heap = 128; header = 8; has_quota = has_quota; quota = 12; quiet = quiet }

quotas_and_quiet : (sizes_of (configured 7 0) ≡ record { mmem = 64; heap = 128; header = 8; quota = Some 12 })
    × (sizes_of (configured 0 0) ≡ record { mmem = 64; heap = 128; header = 8; quota = None })
    × (is_quiet (configured 0 2) ≡ true) × (is_quiet (configured 0 0) ≡ false)
quotas_and_quiet = (refl, refl, refl, refl)

-- The application of a line.

watcher : IsOfLine (codes "clock-watcher") Application.ClockWatcher
watcher = inl refl

-- a line that begins with another letter than `calls` has none
no_calls_of : (line : List ℕ) → (get_or line 0 0 ≡ 99 → ⊥) → HasNoCalls line
no_calls_of line other text (inl has) = other (ap (λ line. get_or line 0 0) has.0)
no_calls_of line other text (inr has) = other (ap (λ line. get_or line 0 0) has)

no_list : HasNoCalls (codes "blink")
no_list = no_calls_of (codes "blink") (λ (is : ◌≡◌ {A = ℕ} 98 99). absurd (omega arith))

no_calls_there : HasNoCalls (codes "nobody")
no_calls_there = no_calls_of (codes "nobody") (λ (is : ◌≡◌ {A = ℕ} 110 99). absurd (omega arith))

behind_the_word : HasCalls (codes "calls exit") (codes "exit")
behind_the_word = inr refl

no_calls : HasCalls (codes "calls") []
no_calls = inl (refl, refl)

-- one application for each line
none_too_many : (application : Application) → AreOfLines [] (application ∷ []) → ⊥
none_too_many application are = are

none_left_out : AreOfLines (codes "clock-watcher" ∷ []) [] → ⊥
none_left_out are = are

another_application : AreOfLines (codes "clock-watcher" ∷ []) (Application.ClockWatcher ∷ [])
another_application = (inl refl, tt)

-- A run is one of the lines' applications, and its numbers are those of its end.
module _ (configuration : Configuration) (text script out : List ℕ) where
  -- a text that just fits has room
  just_fits : (size : ℕ) → IsTooLongFor size configuration text script size → ⊥
  just_fits size is = absurd (omega (arith, is.is_over))

  size_is_of_text : (room size : ℕ) (is : IsTooLongFor room configuration text script size)
      → HasRun configuration text script is.out is.end × (size ≡ length is.out)
  size_is_of_text room size is = (is.has_run, is.is_size)

  -- the text is that of the run of these applications
  is_of_the_lines : (end : End) (has : HasRun configuration text script out end) → AreOfLines (lines text) has.applications
      × IsRunText (config_of (sizes_of configuration) (length has.applications)) (says_of application_says has.applications)
      (is_quiet configuration) script out end
  is_of_the_lines end has = (has.are_of_lines, has.is_text)

  module _ (line : ℕ) where
    status_is_of_end : IsRunOf configuration text script out 3 line → line ≡ 0
    status_is_of_end is = grind (arith, is.is_status, is.is_line)

    status_of_a_bad_line : IsRunOf configuration text script out 2 line → HasRun configuration text script out (End.BadLine line)
    status_of_a_bad_line is =
        let end : is.end ≡ End.BadLine line = grind (arith, is.is_status, is.is_line) in
        subst (HasRun configuration text script out) end is.has_run

-- The first size that is bad.

abbrev sized : ℕ → ℕ → ℕ → ℕ → Sizes
sized mmem heap header quota = record { mmem = mmem; heap = heap; header = header; quota = Some quota }

size_reasons : (size_reason (sized 4096 20 8 2048) 1 ≡ None)
    × (size_reason (record { mmem = 4; heap = 65536; header = 16; quota = None }) 16 ≡ None)
    × (size_reason (sized 6 6 6 6) 1 ≡ Some SizeReason.Mmem) × (size_reason (sized 65536 16 6 6) 1 ≡ Some SizeReason.Heap)
    × (size_reason (sized 4096 20 12 6) 1 ≡ Some SizeReason.Header) × (size_reason (sized 4096 20 8 65540) 1 ≡ Some SizeReason.Quota)
    × (size_reason (sized 4096 20 8 2052) 1 ≡ Some SizeReason.AllQuotas) × (size_reason (sized 4096 20 8 2052) 0 ≡ None)
size_reasons = (refl, refl, refl, refl, refl, refl, refl, refl)

-- Why a line is no application.

abbrev comma : List ℕ → Bool
comma [] = false
comma (byte ∷ text) = byte == 44 || comma text

in_either : (first : Bool) → first || true ≡ true
in_either true = refl
in_either false = refl

has_comma : (front behind : List ℕ) → comma (front ++ (codes ", " ++ behind)) ≡ true
has_comma [] behind = refl
has_comma (byte ∷ front) behind = ap (λ there. byte == 44 || there) (has_comma front behind) ∙ in_either (byte == 44)

without_comma : (part : List ℕ) → comma part ≡ false → IsOnePart part
without_comma part none front behind has = cc (sym none ∙ ap comma has ∙ has_comma front behind)

one_part : IsOnePart (codes "wait")
one_part = without_comma (codes "wait") refl

two_parts : IsOnePart (codes "wait, exit") → ⊥
two_parts is = is (codes "wait") (codes "exit") refl

a_list : HasNoCalls (codes "calls exit") → ⊥
a_list none = none (codes "exit") (inr refl)

a_list_is_no_reason : IsLineReason (codes "calls frob") LineReason.NoName → ⊥
a_list_is_no_reason is = is (codes "frob") (inr refl)

no_list_of_a_name : (number : ℕ) (reason : CallReason) → IsLineReason (codes "nobody") (LineReason.NoCall number reason) → ⊥
no_list_of_a_name number reason is = no_calls_there is.0 is.1

-- a list of one call, Wait, and only waits after it
abbrev waits : List Call
waits = replicate 128 Call.Wait

possible : (n : ℕ) → ArePossible (replicate n Call.Wait)
possible zero = tt
possible (suc n) = (tt, possible n)

one_wait : IsCall (codes "wait") Call.Wait
unfolding spaced
one_wait = ([], refl, refl)

all_wait : IsListOf (codes "wait") waits
all_wait =
    record {
      parts = codes "wait" ∷ [];
      made = Call.Wait ∷ [];
      waits = replicate 127 Call.Wait;
      is_text = refl;
      are_of_parts = (Call.Wait ∷ [], [], refl, inl (refl, (one_wait, tt)), refl);
      are_calls = refl;
      are_waits = All-replicate (λ call. call ≡ Call.Wait) 127 Call.Wait refl;
    }

a_call : IsCallPart (codes "wait")
a_call = ((λ is. cc is), one_part, (Application.Listed waits, all_wait))

no_call : IsNoCallPart (codes "wait") → ⊥
no_call (one, inl nothing) = cc nothing
no_call (one, inr none) = none waits (possible 128) refl all_wait

nothing_is_no_call : IsNoCallPart []
nothing_is_no_call = (without_comma [] refl, inl refl)

two_calls_are_no_part : IsNoCallPart (codes "wait, exit") → ⊥
two_calls_are_no_part is = two_parts is.0

-- a line with a list is an application
a_good_list : IsNoApplication (codes "calls wait") → ⊥
a_good_list none = none.1 (codes "wait") (inr refl) waits (possible 128) refl all_wait

a_good_name : IsNoApplication (codes "clock-watcher") → ⊥
a_good_name none = none.0.1 refl

nobody : IsNoApplication (codes "nobody")
nobody = (
  (refl, λ is. let letters_differ : ◌≡◌ {A = ℕ} 110 99 = ap (λ line. get_or line 0 0) is in absurd (omega arith)),
  λ text has. absurd (no_calls_there text has),
)

second_of_a_list : HasNoCallAt (codes "wait, ") 1
second_of_a_list =
    record {
      before = codes "wait" ∷ [];
      part = [];
      behind = [];
      is_text = refl;
      is_behind = inl refl;
      is_number = refl;
      are_calls = All-cons IsCallPart (codes "wait") [] a_call (All-nil IsCallPart);
      is_no_call = nothing_is_no_call;
    }

first_of_a_list : HasNoCallAt (codes ", wait") 0
first_of_a_list =
    record {
      before = [];
      part = [];
      behind = codes ", wait";
      is_text = refl;
      is_behind = inr (codes "wait", refl);
      is_number = refl;
      are_calls = All-nil IsCallPart;
      is_no_call = nothing_is_no_call;
    }

not_the_first : HasNoCallAt (codes "wait") 0 → ⊥
not_the_first is = alone is.part is.behind
    (rw (nil_from_length is.before (sym is.is_number)) at is.is_text) is.is_behind is.is_no_call where
      alone : (part behind : List ℕ) → codes "wait" ≡ part ++ behind → IsBehindPart behind → IsNoCallPart part → ⊥
      alone part behind text (inl nothing) none = no_call (rw (text, nothing, append-nil part) none)
      alone part behind text (inr (others, comma)) none = one_part part others (rw comma at text)

no_second_of_one : HasNoCallAt (codes "wait") 1 → ⊥
no_second_of_one is = behind is.before (is.part ++ is.behind) is.is_number is.is_text where
  behind : (before : List (List ℕ)) (left : List ℕ) → 1 ≡ length before → codes "wait" ≡ with_commas before ++ left → ⊥
  behind [] left number has = absurd (omega (arith, number))
  behind (part ∷ parts) left number has =
      one_part part (with_commas parts ++ left) (has ∙ grind (arith, common_steps))

no_empty_part : IsCallPart [] → ⊥
no_empty_part is = is.0 refl

no_list_of_no_calls : HasCallsAlone [] → ⊥
no_list_of_no_calls is =
    let size = ap length is.is_text ∙ length-append (with_commas is.before) is.last in
    is.is_call.0 (nil_from_length is.last (omega (arith, size)))

no_text_of_lines : (all : List (List ℕ)) → AreRefused all Refusal.NotText → ⊥
no_text_of_lines all are = are

-- Refusals, by their numbers.

-- status, line, reason, application, call
abbrev numbers : Refusal → List ℕ
numbers refusal =
    refusal_status refusal ∷ refusal_line refusal ∷ refusal_reason refusal ∷ refusal_application refusal ∷ refusal_call refusal ∷ []

of_refusals : (numbers (Refusal.NoApplication 1 LineReason.NoName) ≡ 17 ∷ 2 ∷ 6 ∷ 1 ∷ 0 ∷ [])
    × (numbers (Refusal.NoApplication 0 (LineReason.NoCall 3 CallReason.NoHex)) ≡ 17 ∷ 1 ∷ 11 ∷ 0 ∷ 3 ∷ [])
    × (numbers (Refusal.BadSizes SizeReason.Heap) ≡ 19 ∷ 0 ∷ 2 ∷ 0 ∷ 0 ∷ [])
    × (numbers Refusal.TooManyApplications ≡ 18 ∷ 0 ∷ 0 ∷ 16 ∷ 0 ∷ [])
of_refusals = (refl, refl, refl, refl)

no_reason : HasNoReason (record { status = 0; line = 0; length = 5; reason = 0; application = 0; call = 0 })
no_reason = (refl, refl, refl)

-- too many words are not reported as too few
module _ (words : Bor (List ℕ)) (least most : ℕ) where
  of_faults : (call_reason_of (CallFault.TooFewWords words) ≡ CallReason.TooFewWords)
      × (call_reason_of (CallFault.TooManyWords words) ≡ CallReason.TooManyWords)
      × (call_reason_of (CallFault.NoNumber words least most) ≡ CallReason.NoNumber)
      × (call_reason_of (CallFault.NoHex words most) ≡ CallReason.NoHex) × (call_reason_of (CallFault.NoCall words) ≡ CallReason.NoName)
  of_faults = (refl, refl, refl, refl, refl)

told_a_reason : HasNoReason (record { status = 19; line = 0; length = 0; reason = 2; application = 0; call = 0 }) → ⊥
told_a_reason none = cc none.0

a_place : HasNoReason (record { status = 18; line = 0; length = 0; reason = 0; application = 16; call = 0 }) → ⊥
a_place none = cc none.1

told_a_call : HasNoReason (record { status = 20; line = 0; length = 9; reason = 0; application = 0; call = 3 }) → ⊥
told_a_call none = cc none.2

module _ (configuration : Configuration) (text : List ℕ) where
  -- with status 19 and reason 2 it is the heap
  sizes_are_bad : (line application call : ℕ) → IsRefusalOf configuration text 19 line 2 application call
      → HasBadSizes configuration (lines text) SizeReason.Heap
  sizes_are_bad line application call is =
      let bad : is.refusal ≡ Refusal.BadSizes SizeReason.Heap = grind (arith, is.is_status, is.is_reason) in
      (subst (Refuses configuration text) bad is.is_refused).1

  -- bad sizes report no line and no application
  sizes_have_no_place : (line reason application call : ℕ) → IsRefusalOf configuration text 19 line reason application call → (line ≡ 0)
      × (application ≡ 0) × (call ≡ 0)
  sizes_have_no_place line reason application call is =
      grind (arith, is.is_status, is.is_line, is.is_application, is.is_call)

  abbrev Is : Refusal → Type 0
  Is = Refuses configuration text

  -- Of two reasons the first is reported: what is no text has no lines.
  no_text_first : Is Refusal.NotText → (Is Refusal.TooManyApplications → ⊥) × ((reason : SizeReason) → Is (Refusal.BadSizes reason) → ⊥)
      × ((number : ℕ) (reason : LineReason) → Is (Refusal.NoApplication number reason) → ⊥)
  no_text_first no_text = (λ refused. no_text refused.0, λ reason refused. no_text refused.0, λ number reason refused. no_text refused.0)

  -- a seventeenth line is not read
  no_seventeenth_name : (reason : LineReason) → Is (Refusal.NoApplication 16 reason) → ⊥
  no_seventeenth_name reason refused = absurd (omega (arith, refused.1.is_among))

  -- if there are too many lines, those before name applications
  many_are_named : (refused : Is Refusal.TooManyApplications) → (applications : List Application)
      × AreOfLines refused.1.before applications
  many_are_named refused = refused.1.are_named

  module _ (reason : SizeReason) where
    -- too many lines are not bad sizes
    number_before_sizes : Is Refusal.TooManyApplications
        → Is (Refusal.BadSizes reason) → ⊥
    number_before_sizes many bad =
        let size = ap length many.1.is_line ∙ length-append many.1.before (many.1.line ∷ many.1.behind) in
        absurd (omega (arith, size, many.1.are_full, bad.1.are_few))

    -- no mote boots with the sizes, and all lines name applications
    really_bad : Is (Refusal.BadSizes reason) → (is_bootable (config_of (sizes_of configuration) (length (lines text))) ≡ false)
        × ((applications : List Application) × AreOfLines (lines text) applications)
    really_bad refused = (refused.1.is_bad, refused.1.are_named)

    -- of two bad sizes one is reported
    one_size : (other : SizeReason) → Is (Refusal.BadSizes reason)
        → Is (Refusal.BadSizes other) → Some reason ≡ Some other
    one_size other is also = sym is.1.is_reason ∙ also.1.is_reason

  -- the lines before the refused one name applications; number and reason are of that line
  of_the_line : (number : ℕ) (reason : LineReason) (refused : Is (Refusal.NoApplication number reason))
      → ((applications : List Application) × AreOfLines refused.1.before applications) × (number ≡ length refused.1.before)
      × IsNoApplication refused.1.line
      × IsLineReason refused.1.line reason
  of_the_line number reason refused = (refused.1.are_named, refused.1.is_number, refused.1.is_none, refused.1.is_reason)

module _ (line : List ℕ) where
  -- a line after sixteen is not read, and before that there are not too many
  no_seventeenth : (reason : LineReason) → IsRefusedLine line 16 (Refusal.NoApplication 16 reason) → ⊥
  no_seventeenth reason is = absurd (omega (arith, is.1))

  no_sixteenth_too_many : IsRefusedLine line 15 Refusal.TooManyApplications → ⊥
  no_sixteenth_too_many is = absurd (omega (arith, is))

  no_text_of_a_line : (count : ℕ) → IsRefusedLine line count Refusal.NotText → ⊥
  no_text_of_a_line count is = is
