-- Worked examples: replies to calls on managed memory under a quota.
use Rattle.std.proofs.Common.{◌≡◌, ℕ, true, false, List, [], ◌∷◌, length, get_or, ap, refl, ◌-◌, None, Some, if◌then◌else◌, ◌==◌}
use Rattle.kernel_core.proofs.Common.{list_all, list_any, Call, Reply, Refusal, Entry, Applications, Config, is_bootable, after_steps, at_start, is_managed_call, managed_calls, managed_replies, IsAnsweredAlone}
use Rattle.kernel_core.proofs.run_laws.Examples.{started, told}
use Rattle.kernel_core.specs.Laws.Isolation.{replies_from}
use Rattle.kernel_core.specs.Laws.RunLaws.{IsAnsweredAlike, ProcessesAreIsolated}
use Rattle.kernel_core.specs.Run.{Running, Runs}
use Rattle.mote_types.specs.declared.entry.Input.{Input}
use Rattle.mmem_core.specs.ManagedStore.{empty_store}

six_calls : list_all is_managed_call
    (Call.MmemAlloc 0 1 ∷ Call.MmemFree 0 ∷ Call.MmemWrite 0 0 (record { items = [] }) ∷ Call.MmemRead 0 0 1 ∷ Call.MmemCopy 0 1
    ∷ Call.MmemAvail ∷ []) ≡ true
six_calls = refl

-- sends, and calls on other memory, are no managed calls
no_others : list_any is_managed_call
    (Call.PacketSend 0 ∷ Call.HeapAlloc 0 1 ∷ Call.HeapRead 0 0 1 ∷ Call.HeapStats ∷ Call.MembAlloc 0 ∷ Call.ListPop 0 ∷ Call.Clock
    ∷ Call.Wait ∷ []) ≡ false
no_others = refl

-- 48 bytes, of which each process may hold 16: process 4 fills its part, and process 5 still has all of its own.
abbrev shared : List Entry
shared =
    started 4 (Call.MmemAlloc 0 10)
    ∷ told 4 Reply.Done (Call.MmemAlloc 1 5)
    ∷ told 4 (Reply.Refused Refusal.OverQuota) (Call.MmemAlloc 1 4)
    ∷ told 4 Reply.Done Call.MmemAvail
    ∷ told 4 (Reply.Num 0) Call.Wait
    ∷ started 5 Call.MmemAvail
    ∷ told 5 (Reply.Num 16) (Call.MmemAlloc 0 16)
    ∷ told 5 Reply.Done Call.Wait
    ∷ []

-- the machine agrees, if the processes make these calls in turn and then wait
abbrev config : Config
config = record { mmem = 48; heap = 20; apps = 2; quota = Some 16; header = 16 }

abbrev calls_in_turn : ℕ → List Call
calls_in_turn p =
    if p == 4 then Call.MmemAlloc 0 10 ∷ Call.MmemAlloc 1 5 ∷ Call.MmemAlloc 1 4 ∷ Call.MmemAvail ∷ []
    else Call.MmemAvail ∷ Call.MmemAlloc 0 16 ∷ []

abbrev says : Applications
says p heard = get_or (calls_in_turn p) (length heard - 1) Call.Wait

boots : is_bootable config ≡ true
boots = refl

made_by_the_machine : (after_steps says 30 (at_start config)).entries ≡ shared
made_by_the_machine = refl

calls : managed_calls 4 shared ∷ managed_calls 5 shared ∷ []
    ≡ (Call.MmemAlloc 0 10 ∷ Call.MmemAlloc 1 5 ∷ Call.MmemAlloc 1 4 ∷ Call.MmemAvail ∷ [])
    ∷ (Call.MmemAvail ∷ Call.MmemAlloc 0 16 ∷ []) ∷ []
calls = refl

replies : managed_replies 4 shared ∷ managed_replies 5 shared ∷ []
    ≡ (Reply.Done ∷ Reply.Refused Refusal.OverQuota ∷ Reply.Done ∷ Reply.Num 0 ∷ []) ∷ (Reply.Num 16 ∷ Reply.Done ∷ []) ∷ []
replies = refl

first_alone : replies_from 4 (empty_store 16 None) (Call.MmemAlloc 0 10 ∷ Call.MmemAlloc 1 5 ∷ Call.MmemAlloc 1 4 ∷ Call.MmemAvail ∷ [])
    ≡ Reply.Done ∷ Reply.Refused Refusal.OverQuota ∷ Reply.Done ∷ Reply.Num 0 ∷ []
first_alone = refl

second_alone : replies_from 5 (empty_store 16 None) (Call.MmemAvail ∷ Call.MmemAlloc 0 16 ∷ []) ≡ Reply.Num 16 ∷ Reply.Done ∷ []
second_alone = refl

-- a call without a reply doesn't count
not_answered_yet : managed_calls 4 (started 4 (Call.MmemAlloc 0 10) ∷ []) ≡ []
not_answered_yet = refl

-- private memory wouldn't reply with what process 4 leaves of the 48 bytes
told_of_another : IsAnsweredAlone 16 5 (started 5 Call.MmemAvail ∷ told 5 (Reply.Num 32) Call.Wait ∷ []) → ⊥
told_of_another e = cc

-- process 4 has all of its own 8 bytes, and yet it is refused
abbrev refused_alone : List Entry
refused_alone = started 4 (Call.MmemAlloc 0 4) ∷ told 4 (Reply.Refused Refusal.OverQuota) Call.Wait ∷ []

abbrev first_reply : List Reply → Reply
first_reply [] = Reply.Num 0
first_reply (reply ∷ later) = reply

not_isolated : ProcessesAreIsolated (Some 8) 1 refused_alone → ⊥
not_isolated laws =
    let same : Reply.Refused Refusal.OverQuota ≡ Reply.Done = ap first_reply (laws.alone_so_far 8 4 refused_alone [] refl refl refl) in absurd (cc)

-- and another run accepts the same call
module _ (other : Config) (tells : Applications) (inputs : List Input) (last : Running) (runs : Runs tells (at_start other) inputs last)
    (bootable : is_bootable other ≡ true) (quota : other.quota ≡ Some 8) (there : other.apps ≡ 1)
    (calls : managed_calls 4 last.entries ≡ Call.MmemAlloc 0 4 ∷ []) (replies : managed_replies 4 last.entries ≡ Reply.Done ∷ []) where
  not_alike : IsAnsweredAlike (Some 8) 1 refused_alone → ⊥
  not_alike law =
      let alike = law other tells inputs last 8 4 refl refl runs bootable quota (rw there refl) 1 (rw calls refl) in
      let same : Reply.Refused Refusal.OverQuota ≡ Reply.Done = ap first_reply (rw replies at alike) in absurd (cc)
