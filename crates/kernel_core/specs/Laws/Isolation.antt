-- The replies of managed memory to a process, and those of a memory of its own.
use Rattle.std.specs.Prelude.{◌≡◌, ℕ, Bool, ◌&&◌, List, [], ◌∷◌, filter, filter_map, map, Option, Some, None, is_some}
use Rattle.std.specs.Option.{option_map_or}
use Rattle.mote_types.specs.Kinds.{ProcessNumber}
use Rattle.mote_types.specs.declared.call.Call.{Call}
use Rattle.mote_types.specs.declared.reply.Reply.{Reply}
use Rattle.mote_types.specs.declared.refusal.Refusal.{Refusal}
use Rattle.mote_types.specs.declared.entry.Entry.{Entry}
use Rattle.mmem_core.specs.ManagedStore.{ManagedStore, empty_store}
use Rattle.node_memory.specs.Answered.{Asked, done}
use Rattle.node_memory.specs.ManagedCalls.{alloc, free, write, read, copy, avail}
use Rattle.kernel_core.specs.Laws.OwnTurns.{OwnTurn, own}
use Rattle.kernel_core.specs.Laws.Deeds.{Touch, deed, managed_touch}

-- What a transcript shows.

-- what p asks of managed memory by a call that does only this there
abbrev pub request : ProcessNumber → Touch → Option (ManagedStore → Asked ManagedStore)
request p (Touch.Makes handle length) = Some (alloc p handle length)
request p (Touch.Frees handle) = Some (free p handle)
request p (Touch.Writes handle at bytes) = Some (write p handle at bytes)
request p (Touch.Copies source target) = Some (copy p source target)
request p (Touch.Reads handle at len) = Some (read p handle at len)
request p Touch.TellsFree = Some (avail p)
request p (Touch.Resizes handle length) = None
request p (Touch.Sends handle) = None
request p Touch.Spares = None

-- a call that only asks something of managed memory; whose call it is makes no difference
abbrev pub is_managed_call : Call → Bool
is_managed_call call = is_some (request 0 (managed_touch (deed call)))

-- the turns of p with calls on managed memory that have replies
abbrev pub managed_turns : ProcessNumber → List Entry → List OwnTurn
managed_turns p entries = filter (λ turn. is_managed_call turn.call && is_some turn.reply) (own p entries)

-- what p asked of managed memory
abbrev pub managed_calls : ProcessNumber → List Entry → List Call
managed_calls p entries = map (λ turn. turn.call) (managed_turns p entries)

abbrev pub managed_replies : ProcessNumber → List Entry → List Reply
managed_replies p entries = filter_map (λ turn. turn.reply) (managed_turns p entries)

-- The replies of a memory of its own.

-- where there is no room in it, the reply is OverQuota
abbrev pub as_over_quota : Reply → Reply
as_over_quota (Reply.Refused Refusal.NoRoom) = Reply.Refused Refusal.OverQuota
as_over_quota reply = reply

-- the reply of managed memory to a call of p, and the memory after it
abbrev pub asked_by : ProcessNumber → Call → ManagedStore → Asked ManagedStore
asked_by p call store = option_map_or (λ answer. answer store) (request p (managed_touch (deed call))) (done store)

-- the replies to these calls of p, from a memory that only p uses
abbrev pub replies_from : ProcessNumber → ManagedStore → List Call → List Reply
replies_from p store [] = []
replies_from p store (call ∷ later) =
    let asked = asked_by p call store in as_over_quota asked.1 ∷ replies_from p asked.0 later

-- whatever others do, p's calls have those of a memory of the quota's size, without a quota, in which no block is live yet
abbrev pub IsAnsweredAlone : ℕ → ProcessNumber → List Entry → Type 0
IsAnsweredAlone quota p entries = managed_replies p entries ≡ replies_from p (empty_store quota None) (managed_calls p entries)
