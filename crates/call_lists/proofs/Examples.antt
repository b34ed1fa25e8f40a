-- Examples: which calls texts make, and names and numbers that are refused.
use Rattle.std.proofs.Common.{◌≡◌, ◌∙◌, ◌<◌, ◌⊎◌, ℕ, zero, suc, List, [], ◌∷◌, ◌++◌, inl, inr, refl, sym, ap, subst, drop, codes, get_or, replicate, Some, arith}
use Rattle.std.proofs.lemmas.List.Elements.{All-replicate}
use Rattle.std.specs.Fmt.{digits}
use Rattle.hex.specs.Hex.{encode_with}
use Rattle.mote_apps.specs.declared.bundled.Bundled.{Bundled}
use Rattle.mote_apps.specs.declared.steps.Steps.{Steps}
use Rattle.mote_text.proofs.Ticks.{read_decimal}
use Rattle.call_lists.specs.Spaced.{spaced}
use Rattle.mote_text.specs.Script.{read_number}
use Rattle.mote_types.specs.declared.call.Call.{Call}
use Rattle.mote_types.specs.declared.event.Payload.{Payload}
use denote.Ref.{Bor}
use Rattle.call_lists.proofs.Cuts.{differ}
use Rattle.call_lists.specs.Applications.{IsListed, IsNamed}
use Rattle.call_lists.specs.Calls.{AreMade, AreOfParts, AreWaits, IsCall, IsListOf}
use Rattle.call_lists.specs.Faults.{IsNoCall, IsNoList, IsNoName, IsNoNumber, TellsNoName}
use Rattle.call_lists.specs.Ranges.{ArePossible, IsByte, IsChunk, IsPayload, IsPossible, IsWide}
use Rattle.call_lists.specs.declared.applications.Application.{Application}
use Rattle.call_lists.specs.declared.fault.CallFault.{CallFault}

kill : IsCall (codes "kill 4") (Call.Kill 4)
unfolding digits spaced
kill = grind arith

-- hex digits in either case
print : IsCall (codes "print 4A4b") (Call.Print (record { items = 74 ∷ 75 ∷ [] }))
unfolding encode_with spaced
print = grind arith

another_number : IsCall (codes "kill 5") (Call.Kill 4) → ⊥
unfolding digits spaced
another_number is = grind arith

-- names are in lower case, though E is a hex digit
another_name : IsCall (codes "poll 4") (Call.Kill 4) ⊎ IsCall (codes "Exit") Call.Exit → ⊥
unfolding digits
another_name is = grind arith

-- so is the x before a line's digits
upper_x : IsCall (codes "broadcast 140 X41") (Call.Broadcast 140 (Payload.Line (record { items = 65 ∷ [] }))) → ⊥
unfolding digits encode_with spaced
upper_x is = grind arith

clock : IsCall (codes "clock") Call.Clock
unfolding spaced
clock = ([], refl, refl)

exit : IsCall (codes "exit") Call.Exit
unfolding spaced
exit = ([], refl, refl)

-- two calls of one part, then one, then only Wait
list : IsListOf (codes "2 clock, exit") (Call.Clock ∷ Call.Clock ∷ Call.Exit ∷ Call.Wait ∷ [])
unfolding digits
list =
    record {
      parts = codes "2 clock" ∷ codes "exit" ∷ [];
      made = Call.Clock ∷ Call.Clock ∷ Call.Exit ∷ [];
      waits = Call.Wait ∷ [];
      is_text = refl;
      are_of_parts = (
        Call.Clock ∷ Call.Clock ∷ [],
        Call.Exit ∷ [],
        refl,
        inr (codes "clock", omega arith, refl, (clock, (clock, tt))),
        (Call.Exit ∷ [], [], refl, inl (refl, (exit, tt)), refl),
      );
      are_calls = refl;
      are_waits = grind arith;
    }

-- a part is one call, repeated
no_two_calls : AreMade (codes "2 clock") (Call.Clock ∷ Call.Exit ∷ []) → ⊥
unfolding digits
no_two_calls (inl once) = let two : ◌≡◌ {A = ℕ} 2 1 = once.0 in absurd (omega arith)
no_two_calls (inr numbered) =
    let rest : codes "clock" ≡ numbered.0 = ap (drop 2) numbered.2 in differ (rest ∙ numbered.3.1.0.1) refl

no_clock_of_exit : (first others : List Call) → Call.Clock ∷ [] ≡ first ++ others → AreMade (codes "exit") first → ⊥
unfolding digits
no_clock_of_exit [] others same (inl once) = let zero_is_one : ◌≡◌ {A = ℕ} 0 1 = once.0 in absurd (omega arith)
no_clock_of_exit [] others same (inr numbered) = absurd (omega (arith, numbered.1))
no_clock_of_exit (call ∷ []) others same (inl once) =
    let same_call : Call.Clock ≡ call = ap (λ calls. get_or calls 0 Call.Wait) same in
    let is : IsCall (codes "exit") Call.Clock = subst (IsCall (codes "exit")) (sym same_call) once.1.0 in
    differ is.1 refl
no_clock_of_exit (call ∷ []) others same (inr numbered) = differ numbered.2 refl
no_clock_of_exit (call ∷ second ∷ calls) others same made = absurd (cc)

another_part : AreOfParts (codes "exit" ∷ []) (Call.Clock ∷ []) → ⊥
another_part is = no_clock_of_exit is.0 is.1 is.2 is.3

-- no call is made 0 times
not_at_all : AreMade (codes "0 clock") [] ⊎ AreWaits (Call.Exit ∷ []) → ⊥
not_at_all is = grind arith

-- no list of calls has a name
names : IsNamed (codes "hello") (Application.Named (Bundled.Hello (record {}))) × IsNamed (codes "clock-watcher") Application.ClockWatcher
    × (IsNamed (codes "echo") (Application.Named (Bundled.Hello (record {}))) → ⊥) × (IsNamed (codes "hello") Application.ClockWatcher → ⊥)
    × ((name : List ℕ) (calls : Steps 128) → IsNamed name (Application.Listed calls) → ⊥)
names = (refl, refl, λ is. cc is, λ is. grind arith, λ name calls is. is)

-- no other application is a list
no_list : (text : List ℕ) → IsListed text Application.ClockWatcher → ⊥
no_list text is = is

read_256 : read_number (codes "256") ≡ Some 256
unfolding digits
read_256 = read_decimal 256 (omega arith)

read_255 : read_number (codes "255") ≡ Some 255
unfolding digits
read_255 = read_decimal 255 (omega arith)

-- ---- possible calls, and refusals

-- each call is possible at its largest numbers and most bytes

byte : IsByte 255
byte = omega arith

wide : IsWide 4294967295
wide = omega arith

bytes_of_255 : (n i : ℕ) → get_or (replicate n 255) i 0 < 256
bytes_of_255 zero i = omega arith
bytes_of_255 (suc n) zero = omega arith
bytes_of_255 (suc n) (suc i) = bytes_of_255 n i

longest : IsChunk (record { items = replicate 64 255 })
longest = (omega arith, bytes_of_255 64)

longest_line : IsPayload (Payload.Line (record { items = replicate 127 255 }))
longest_line = (omega arith, bytes_of_255 127)

all : ArePossible (
    Call.Post 255 255 (Payload.Num 4294967295) ∷ Call.Broadcast 255 Payload.Empty
    ∷ Call.PostSynch 255 255 (Payload.Line (record { items = replicate 127 255 })) ∷ Call.AllocEvent ∷ Call.Poll 255
    ∷ Call.Start 255 ∷ Call.Kill 255 ∷ Call.IsRunning 255 ∷ Call.Wait ∷ Call.Exit
    ∷ Call.Print (record { items = replicate 64 255 }) ∷ Call.TimerSet 255 4294967295 ∷ Call.TimerStop 255 ∷ Call.TimerReset 255
    ∷ Call.TimerRestart 255 ∷ Call.TimerExpired 255 ∷ Call.CallbackSet 255 4294967295 ∷ Call.CallbackStop 255 ∷ Call.Clock
    ∷ Call.MmemAlloc 255 4294967295 ∷ Call.MmemFree 255 ∷ Call.MmemWrite 255 4294967295 (record { items = replicate 64 255 })
    ∷ Call.MmemRead 255 4294967295 255 ∷ Call.MmemCopy 255 255 ∷ Call.MmemAvail ∷ Call.HeapAlloc 255 4294967295
    ∷ Call.HeapRealloc 255 4294967295 ∷ Call.HeapFree 255 ∷ Call.HeapWrite 255 4294967295 (record { items = replicate 64 255 })
    ∷ Call.HeapRead 255 4294967295 255 ∷ Call.HeapStats ∷ Call.MembAlloc 255 ∷ Call.MembFree 255 255
    ∷ Call.MembWrite 255 255 4294967295 (record { items = replicate 64 255 }) ∷ Call.MembRead 255 255 4294967295 255
    ∷ Call.MembNumFree 255 ∷ Call.ListAdd 255 255 ∷ Call.ListPush 255 255 ∷ Call.ListInsert 255 255 255 ∷ Call.ListPop 255
    ∷ Call.ListChop 255 ∷ Call.ListRemove 255 255 ∷ Call.ListHead 255 ∷ Call.ListNext 255 255 ∷ Call.ListLength 255
    ∷ Call.PacketOpen ∷ Call.PacketRead 4294967295 255 ∷ Call.PacketDone ∷ Call.PacketCount ∷ Call.PacketSend 255 ∷ [])
all = grind (arith, byte, wide, longest, longest_line)

-- a number, offset, length or bytes too large, also in a list
too_much : IsPossible (Call.Kill 256) ⊎ ArePossible (Call.Wait ∷ Call.Kill 256 ∷ []) ⊎ IsPossible (Call.PacketRead 4294967296 1)
    ⊎ IsPossible (Call.PacketRead 0 256) ⊎ IsChunk (record { items = replicate 65 0 })
    ⊎ IsPayload (Payload.Line (record { items = replicate 128 0 })) ⊎ IsPayload (Payload.Num 4294967296) → ⊥
too_much is = grind arith

no_bytes : IsChunk (record { items = 256 ∷ [] }) → ⊥
no_bytes is = let over : 256 < 256 = is.1 0 in absurd (omega arith)

-- for example, a text that begins with a digit, or is empty
no_call : IsNoCall (codes "4 kill")
no_call call possible is = grind arith

a_call : IsNoCall (codes "kill 4") → ⊥
a_call none = none (Call.Kill 4) (omega arith) kill

-- one call and 127 waits
waits : (n : ℕ) → ArePossible (replicate n Call.Wait)
waits zero = tt
waits (suc n) = (tt, waits n)

a_list : IsNoList (codes "exit") → ⊥
a_list none = none (Call.Exit ∷ replicate 127 Call.Wait) (tt, waits 127) refl (record {
  parts = codes "exit" ∷ [];
  made = Call.Exit ∷ [];
  waits = replicate 127 Call.Wait;
  is_text = refl;
  are_of_parts = (Call.Exit ∷ [], [], refl, inl (refl, (exit, tt)), refl);
  are_calls = refl;
  are_waits = All-replicate (λ call. call ≡ Call.Wait) 127 Call.Wait refl;
})

no_name : IsNoName (codes "nobody")
no_name = grind arith

a_name : IsNoName (codes "hello") ⊎ IsNoName (codes "clock-watcher") → ⊥
a_name (inl none) = cc none.0
a_name (inr none) = none.1 refl

other_faults : (word : List ℕ) → IsNoNumber word 0 255 CallFault.TooManyCalls ⊎ TellsNoName word CallFault.TooManyCalls → ⊥
other_faults word is = grind arith

module _ (reported : Bor (List ℕ)) where
  too_large : reported.now ≡ codes "256" → IsNoNumber (codes "256") 0 255 (CallFault.NoNumber reported 0 255)
  too_large is = grind arith

  no_digits : reported.now ≡ codes "-" → IsNoNumber (codes "-") 0 255 (CallFault.NoNumber reported 0 255)
  no_digits is = (is, refl, refl, tt)

  -- not reported: a valid number, the least or the greatest one too, another bound, another word or name, an existing name
  not_reported : IsNoNumber (codes "255") 0 255 (CallFault.NoNumber reported 0 255) ⊎ IsNoNumber (codes "-") 0 255 (CallFault.NoNumber reported 1 255)
      ⊎ IsNoNumber (codes "255") 255 300 (CallFault.NoNumber reported 255 300) ⊎ IsNoNumber (codes "-") 0 255 (CallFault.NoNumber reported 0 254)
      ⊎ ((reported.now ≡ codes "7") × IsNoNumber (codes "-") 0 255 (CallFault.NoNumber reported 0 255))
      ⊎ ((reported.now ≡ codes "nobody") × TellsNoName (codes "somebody") (CallFault.NoApplication reported))
      ⊎ TellsNoName (codes "hello") (CallFault.NoApplication reported) → ⊥
  not_reported is = grind (arith, read_255)

module _ (text : List ℕ) (calls : List Call) (list : IsListOf text calls) where
  -- no parts: an empty text, and only waits
  no_parts : list.parts ≡ [] → (text ≡ []) × AreWaits calls
  no_parts none = (grind arith, grind arith)
