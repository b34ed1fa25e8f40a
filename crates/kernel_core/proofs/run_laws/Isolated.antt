-- Under a quota, shared memory replies to a process as private memory would.
use Rattle.std.proofs.Common.{◌≡◌, ℕ, ◌≤◌, Bool, true, false, length, refl, ◌∙◌, ap, arith, Some, None, sum_by, zero, suc, List, [], ◌∷◌, ◌++◌, cond, append-nil, Option, map, filter, filter_map, is_some, ◌&&◌, take}
use Rattle.heap_core.specs.HeapStore.{empty_heap}
use Rattle.mmem_core.specs.ManagedStore.{ManagedStore, empty_store}
use Rattle.kernel_core.specs.Laws.Isolation.{as_over_quota, asked_by, replies_from}
use Rattle.kernel_core.specs.Laws.RunLaws.{IsAnsweredAlike}
use Rattle.kernel_core.proofs.Common.{decide, Call, size_of, taken_by, Memory, ask, is_kernel_process, Blocks, no_blocks, deed, managed_touch, is_managed_call, handles, Reply, Entry, Frame, is_application, Config, Machine, is_bootable, after_call, IsAnsweredAlone, OwnTurn, own}
use Rattle.kernel_core.proofs.run_laws.event_order.Runs.{Ran, ran}
use Rattle.kernel_core.proofs.run_laws.OwnBlocks.{alters, accepted, same_blocks, managed-keeps, empty-own, own_blocks, ask-rest, ask-shape, managed-change, managed_store, own_view, HasBlocks, own-laws, each-call, one_reply}
use Rattle.kernel_core.proofs.run_laws.Whole.{At, marks, due, View, Starts, told_so_far, answered, LawAt, Laws, OwnTold, own-told, run-told}

-- managed memory of n bytes, without a quota, and no other memory
abbrev private_memory : ℕ → Memory
private_memory bytes = record { managed = empty_store bytes None; heap = empty_heap 0 0; pools = [] }

-- only p has blocks, and no quota limits it
pub record IsAlone (bytes p : ℕ) (s : Memory) : Type 0 where
  pub unlimited : s.managed.quota ≡ None
  pub capacity : s.managed.capacity ≡ bytes
  pub size : length s.managed.blocks ≡ 272
  pub total : sum_by size_of s.managed.blocks ≡ taken_by p s.managed

-- p has the same blocks in m, which is under a quota
module _ (quota p : ℕ) (m s : Memory) (limit : m.managed.quota ≡ Some quota) (alone : IsAlone quota p s)
    (own : (h : ℕ) → own_blocks p m h ≡ own_blocks p s h) where
  same-reply : (call : Call) → is_managed_call call ≡ true → as_over_quota (ask call p s).1 ≡ (ask call p m).1
  same-reply (Call.MmemAlloc h n) e = grind decide
  same-reply (Call.MmemFree h) e = grind decide
  same-reply (Call.MmemWrite h at chunk) e = grind decide
  same-reply (Call.MmemRead h at len) e = grind decide
  same-reply (Call.MmemCopy source target) e = grind decide
  same-reply Call.MmemAvail e = grind (arith)
  same-reply call e = grind decide

pub record StaysAlone (bytes p : ℕ) (call : Call) (s : Memory) : Type 0 where
  pub alone : IsAlone bytes p (ask call p s).0
  pub own : own_blocks p (ask call p s).0 ≡ accepted managed_touch call (ask call p s).1 (own_blocks p s)

module _ (bytes p : ℕ) (s : Memory) (few : p ≤ 19) (mortal : is_kernel_process p ≡ false) (alone : IsAlone bytes p s) (call : Call) where
  shaped-alone : sum_by size_of (ask call p s).0.managed.blocks ≡ taken_by p (ask call p s).0.managed
      → IsAlone bytes p (ask call p s).0
  shaped-alone total =
      grind (decide, ask-shape call p s)

  stays-alone : StaysAlone bytes p call s
  stays-alone = go (alters (managed_touch (deed call))) refl
    where
      go : (b : Bool) → alters (managed_touch (deed call)) ≡ b → StaysAlone bytes p call s
      go true e =
          let change = managed-change call p s e in
          record {
            alone = shaped-alone (omega (arith, alone.total));
            own =
                change.blocks.own few mortal alone.size;
          }
      go false e =
          let same = ask-rest call p s e in
          record { alone = shaped-alone (rw same alone.total); own = same_blocks _ _ (λ h. grind (arith, same)) }

-- The replies under a quota.

call-quota : (call : Call) (q : ℕ) (m : Machine) → (after_call call q m).memory.managed.quota ≡ m.memory.managed.quota
call-quota call q m =
    each-call (λ x frames. x.managed.quota ≡ m.memory.managed.quota) q m refl (λ slot e. refl) call (ask-shape call q m.memory).quota

module _ (bytes : ℕ) (p : ℕ) where
  no-own : own_blocks p (private_memory bytes) ≡ no_blocks
  no-own = empty-own p (private_memory bytes) refl

  alone-at-first : IsAlone bytes p (private_memory bytes)
  alone-at-first =
      grind (decide, ap (λ (blocks : Blocks). sum_by (λ h. size_of (blocks h)) handles) no-own)

module _ (quota p : ℕ) where
  -- p's private memory after a call
  abbrev own_after : Call → Reply → Memory → Memory
  own_after call reply s = cond (is_managed_call call) (ask call p s).0 s

  abbrev AsAlone : Memory → Call → Reply → Type 0
  AsAlone s call reply = is_managed_call call ≡ true → as_over_quota (ask call p s).1 ≡ reply

  -- p has the same blocks in its private memory as in the node's
  pub record IsLikeOwn (m : Memory) (frames : List Frame) (s : Memory) : Type 0 where
    pub has : HasBlocks managed_store p m frames (own_blocks p s)
    pub limit : m.managed.quota ≡ Some quota
    pub alone : IsAlone quota p s

  -- what p knows from its own calls
  abbrev alone_view : View Memory
  alone_view = record { p = p; first = private_memory quota; next = own_after; Law = AsAlone; Rel = IsLikeOwn }

  still-like : {m s new : Memory} {frames left : List Frame} → IsLikeOwn m frames s
      → HasBlocks managed_store p new left (own_blocks p s)
      → new.managed.quota ≡ m.managed.quota → IsLikeOwn new left s
  still-like = grind decide

  module _ (few : p ≤ 19) where
    abbrev blocks_laws : Laws (own_view managed_store p)
    blocks_laws = own-laws managed_store managed-keeps p few

    own-call : (call : Call) (m : Machine) (s : Memory) (reply : Option Reply) (test : Bool) → is_managed_call call ≡ test
        → is_kernel_process p ≡ false → At alone_view m s
        → At (own_view managed_store p) (after_call call p m) (answered (accepted managed_touch) (Some call) reply (own_blocks p s))
        → due (marks p (after_call call p m).scheduler.agenda) ≡ reply
        → LawAt AsAlone (Some call) s reply
        × At alone_view (after_call call p m) (answered (λ (c : Call) (r : Reply). λ x. cond test (ask c p x).0 x) (Some call) reply s)
    own-call call m s None test f k rel has e = (tt, still-like rel has (call-quota call p m))
    own-call call m s (Some reply) false f k rel has e =
        let plain : accepted managed_touch call reply (own_blocks p s) ≡ own_blocks p s = grind arith in
        (λ g. absurd (grind (arith, f, g)), still-like rel (rw plain at has) (call-quota call p m))
    own-call call m s (Some reply) true f k rel has e =
        let stays = stays-alone quota p s few k rel.alone call in
        let asked : (ask call p m.memory).1 ≡ reply = one_reply _ _ _ (grind decide) e in
        let alike =
        same-reply quota p m.memory s rel.limit rel.alone (λ h. ap (λ (b : Blocks). b h) (rel.has.own k)) call f ∙ asked in
        let blocks : own_blocks p (ask call p s).0 ≡ accepted managed_touch call reply (own_blocks p s) = grind (arith, stays.own, alike) in
        (λ _. alike, record { has = rw blocks has; limit = call-quota call p m ∙ rel.limit; alone = stays.alone })

    isolated-laws : Laws alone_view
    isolated-laws =
        record {
          self = λ call m s reply k rel rest e.
              own-call call m s reply (is_managed_call call) refl k rel
              (blocks_laws.self call m (own_blocks p s) reply k rel.has rest e).1 e;
          other = λ call q m s n rel. still-like rel (blocks_laws.other call q m (own_blocks p s) n rel.has) (call-quota call q m);
          frame = λ slot len bytes memory frames s low rel.
              still-like rel (blocks_laws.frame slot len bytes memory frames (own_blocks p s) low rel.has) refl;
        }

  abbrev asking : List OwnTurn → List OwnTurn
  asking turns = filter (λ turn. is_managed_call turn.call && is_some turn.reply) turns

  -- the replies in these turns are those of p's private memory
  abbrev Replied : List OwnTurn → Memory → Type 0
  Replied turns s = filter_map (λ turn. turn.reply) (asking turns) ≡ replies_from p s.managed (map (λ turn. turn.call) (asking turns))

  one-more : (turn : OwnTurn) (turns : List OwnTurn) (s : Memory) → LawAt AsAlone (Some turn.call) s turn.reply
      → Replied turns (answered own_after (Some turn.call) turn.reply s) → Replied (turn ∷ turns) s
  one-more = grind decide

  replied : (turns : List OwnTurn) (s : Memory) → OwnTold alone_view s turns → Replied turns s
  replied [] s h = refl
  replied (turn ∷ turns) s h = one-more turn turns s h.0 (replied turns _ h.1)

  -- at boot neither memory has a block
  boot-like : (c : Config) → c.quota ≡ Some quota → Starts alone_view c
  boot-like c e = record {
    has = grind decide;
    limit = e;
    alone = alone-at-first quota p;
  }

-- later turns change no reply
replies-take : (p n : ℕ) (calls : List Call) (store : ManagedStore)
    → take n (replies_from p store calls) ≡ replies_from p store (take n calls)
replies-take p zero calls store = refl
replies-take p (suc n) [] store = refl
replies-take p (suc n) (call ∷ calls) store = grind (decide, replies-take p n calls (asked_by p call store).0)

module _ (run : Ran) where
  pub alone-so-far : is_bootable run.config ≡ true → (quota p : ℕ) (before later : List Entry) → run.config.quota ≡ Some quota
      → is_application run.config.apps p ≡ true
      → before ++ later ≡ run.after.entries → IsAnsweredAlone quota p before
  alone-so-far boots quota p before later e named split =
      let view = alone_view quota p in
      replied quota p (own p before) (private_memory quota)
      (own-told view before 0 (told_so_far view [])
      (run-told view (isolated-laws quota p (grind (decide, boots, named))) run (boot-like quota p run.config e) before later split))

  all-alone : is_bootable run.config ≡ true → (quota p : ℕ) → run.config.quota ≡ Some quota → is_application run.config.apps p ≡ true
      → IsAnsweredAlone quota p run.after.entries
  all-alone boots quota p e named =
      alone-so-far boots quota p run.after.entries [] e named (append-nil run.after.entries)

pub alone-alike : (run : Ran) → is_bootable run.config ≡ true → IsAnsweredAlike run.config.quota run.config.apps run.after.entries
alone-alike run boots other tells others last quota p limited named also_runs also_boots also_limited also_named n same =
    grind (
      decide,
      replies-take,
      all-alone (ran other tells others last also_runs) also_boots quota p also_limited also_named,
      all-alone run boots quota p limited named,
    )
