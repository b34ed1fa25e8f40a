-- What the agenda holds for one process.
use Rattle.kernel_core.proofs.run_laws.Changes.{farewells-same, all-delivered, state_of-seats, seats-with_state, seats-with_mark, seats-without, serve-untouched, effect-keeps, all-append, all-mapped, is_regular, carried-regular, KeptByReplies, kept_by_reply}
use Rattle.std.proofs.Common.{is_none, ◌≡◌, ℕ, Bool, true, false, not, ◌&&◌, ◌||◌, List, [], ◌∷◌, ◌++◌, refl, arith, Option, Some, None, map, ◌==◌, if◌then◌else◌, ◌≤◌, subst, fold, zero, suc, ◌+◌}
use Rattle.kernel_core.proofs.Common.{cons_option, decide, Stimulus, Origin, Reply, Process, State, Item, state_of, is_on_list, is_running, is_kernel_process, Scheduler, reply_of, is_turn_entry, after_item, Call, with_mark, farewells, Machine, after_call, Entry, Frame, frame_taken, Memory, with_more_work, list_all, range_with_len, fold-append, PacketQueue, free_slot, Config, booted, at_start, reply_in, HasCall, Turn, up_to_call, OwnTurn, own_from, ticks_in}
use Rattle.kernel_core.proofs.run_laws.event_order.Runs.{Known, carried, facing, Taken, taking, taken, entry_of, Cases, kernel_carried, Ran, Anything, AllFrom, at_each}

-- what an item is to a process
pub data Mark : Type 0 where
  -- a turn, with its reply if there is one
  Turns : Option Reply → Mark
  Exits : Mark
  Removes : Mark
  -- a reply without a turn: this never occurs
  Strays : Mark

abbrev stray : Option Reply → Option Mark
stray None = None
stray (Some reply) = Some Mark.Strays

abbrev only_removes : List Mark → Bool
only_removes [] = true
only_removes (Mark.Removes ∷ rest) = only_removes rest
only_removes (_ ∷ rest) = false

-- at most one turn is on the agenda, and none if the process is idle
abbrev fit : Bool → List Mark → Bool
fit idle (Mark.Turns reply ∷ rest) = not idle && only_removes rest
fit idle (Mark.Exits ∷ rest) = not idle && only_removes rest
fit idle rest = only_removes rest

-- the reply that is delivered next
abbrev pub due : List Mark → Option Reply
due (Mark.Turns reply ∷ rest) = reply
due _ = None

abbrev is_turn_item : Item → Bool
is_turn_item (Item.Turn p origin stimulus) = true
is_turn_item _ = false

module _ (p : ℕ) where
  abbrev mark_of : Item → Option Mark
  mark_of (Item.Turn q origin stimulus) = if q == p then Some (Mark.Turns (reply_of stimulus)) else None
  mark_of (Item.Give q origin stimulus) = if q == p then stray (reply_of stimulus) else None
  mark_of (Item.GiveExit q) = if q == p then Some Mark.Exits else None
  mark_of (Item.Remove q) = if q == p then Some Mark.Removes else None
  mark_of (Item.Show entry) = if is_turn_entry entry then Some Mark.Strays else None
  mark_of _ = None

  abbrev pub marks : List Item → List Mark
  marks [] = []
  marks (item ∷ items) = cons_option (mark_of item) (marks items)

  abbrev idle : List Process → Bool
  idle list = is_kernel_process p || not (is_on_list (state_of p list)) || is_running (state_of p list)

  abbrev is_unmarked : Item → Bool
  is_unmarked item = is_none (mark_of item)

  marks-front : (xs items : List Item) → list_all is_unmarked xs ≡ true → marks (xs ++ items) ≡ marks items
  marks-front [] items h = refl
  marks-front (x ∷ xs) items h = grind (decide, marks-front xs items)

  module _ (before : List Item) (list : List Process) (s : Scheduler Bool) where
    -- what is preserved for p
    pub record Kept : Type 0 where
      pub is_fit : fit (idle s.processes) (marks s.agenda) ≡ true
      pub same_due : due (marks s.agenda) ≡ due (marks before)

    stays : fit (idle list) (marks before) ≡ true
        → state_of p s.processes ≡ state_of p list → marks s.agenda ≡ marks before → Kept
    stays = grind decide

  after_item-kept : (item : Item) (s : Scheduler Bool) → is_turn_item item ≡ false
      → fit (idle s.processes) (marks (item ∷ s.agenda)) ≡ true → Kept (item ∷ s.agenda) s.processes (after_item item s)
  after_item-kept (Item.Give q origin stimulus) s n h = grind (decide, state_of-seats, seats-with_state)
  after_item-kept (Item.Turn q origin stimulus) s n h = absurd (grind arith)
  after_item-kept (Item.GiveExit q) s n h =
      record {
        is_fit = grind (decide, state_of-seats, seats-with_state p q State.Ending s.processes);
        same_due = grind decide;
      }
  after_item-kept (Item.Remove q) s n h = grind (decide, state_of-seats, seats-without)
  after_item-kept Item.Polls s n h = grind (decide, marks-front, all-mapped)
  after_item-kept Item.Deliver s n h = grind (decide, stays, marks-front, all-delivered)
  after_item-kept item s n h = grind (decide, state_of-seats, seats-with_mark)

-- What a call leaves for the caller and for others.

marks-farewells : (o p : ℕ) (s : Scheduler Bool) (rest agenda : List Item)
    → marks o ((farewells p s ++ rest) ++ agenda) ≡ marks o (rest ++ agenda)
marks-farewells o p = farewells-same (marks o) p (grind decide)

module _ (p : ℕ) (m : Machine) (busy : idle p m.scheduler.processes ≡ false) (rest : only_removes (marks p m.scheduler.agenda) ≡ true) where
  after_call-fit : (call : Call)
      → fit (idle p (after_call call p m).scheduler.processes) (marks p (after_call call p m).scheduler.agenda) ≡ true
  after_call-fit Call.Wait = grind decide
  after_call-fit Call.Exit = grind (decide, marks-farewells)
  after_call-fit (Call.Kill q) = grind (decide, state_of-seats, seats-with_state, marks-farewells)
  after_call-fit call = kept_by_reply {P = λ list items. fit (idle p list) (marks p items) ≡ true} p m kept call refl
    where
      kept : KeptByReplies (λ list items. fit (idle p list) (marks p items) ≡ true) p m.scheduler
      kept =
          record {
            replied = grind decide;
            marked = λ n reply.
                grind (
                  decide,
                  state_of-seats p m.scheduler.processes,
                  state_of-seats p (with_mark n true m.scheduler.processes),
                  seats-with_mark p n true m.scheduler.processes,
                );
            preceded = grind decide;
          }

module _ (o p : ℕ) (m : Machine) (other : (p == o) ≡ false)
    (is_fit : fit (idle o m.scheduler.processes) (marks o m.scheduler.agenda) ≡ true) where
  after_call-others : (call : Call) → Kept o m.scheduler.agenda m.scheduler.processes (after_call call p m).scheduler
  after_call-others Call.Wait = grind (decide, state_of-seats, seats-with_state)
  after_call-others Call.Exit = grind (decide, state_of-seats, seats-with_state, marks-farewells)
  after_call-others (Call.Kill q) = grind (decide, state_of-seats, seats-with_state, marks-farewells)
  after_call-others (Call.PostSynch q code payload) = grind decide
  after_call-others (Call.Start q) = grind decide
  after_call-others call = grind (decide, state_of-seats, seats-with_mark)

-- What a process received in the entries, and how a step adds to it.

-- what a process knows, and its last call
pub record Knowledge (S : Type 0) : Type 0 where
  pub now : S
  pub last : Option Call

module _ {S : Type 0} (next : Call → Reply → S → S) where
  abbrev pub answered : Option Call → Option Reply → S → S
  answered (Some call) (Some reply) s = next call reply s
  answered _ _ s = s

  abbrev pub told : ℕ → Knowledge S → Entry → Knowledge S
  told p t (Entry.Turn pid origin stimulus call) =
      if pid.0 == p then record { now = answered t.last (reply_of stimulus) t.now; last = Some call } else t
  told p t _ = t

  abbrev pub told_all : ℕ → Knowledge S → List Entry → Knowledge S
  told_all p t entries = fold (told p) t entries

module _ {S : Type 0} (Law : S → Call → Reply → Type 0) where
  abbrev pub LawAt : Option Call → S → Option Reply → Type 0
  LawAt (Some call) s (Some reply) = Law s call reply
  LawAt _ s _ = Unit {0}

  abbrev Fine : ℕ → Knowledge S → Entry → Type 0
  Fine p t (Entry.Turn pid origin stimulus call) = (pid.0 == p) ≡ true → LawAt t.last t.now (reply_of stimulus)
  Fine p t _ = Unit {0}

-- what p knows: what a reply adds, what the reply must be, and how the memory agrees
pub record View (S : Type 0) : Type 1 where
  pub p : ℕ
  pub first : S
  pub next : Call → Reply → S → S
  pub Law : S → Call → Reply → Type 0
  pub Rel : Memory → List Frame → S → Type 0

module _ {S : Type 0} (view : View S) where
  abbrev pub told_so_far : List Entry → Knowledge S
  told_so_far X = told_all view.next view.p (record { now = view.first; last = None }) X

  abbrev pub At : Machine → S → Type 0
  At m s = view.Rel m.memory m.packets.frames s

  abbrev marked : Machine → List Mark
  marked m = marks view.p m.scheduler.agenda

  -- what calls must preserve
  pub record Laws : Type 0 where
    -- after p's own call
    pub self : (call : Call) (m : Machine) (s : S) (reply : Option Reply) → is_kernel_process view.p ≡ false → At m s
        → only_removes (marked m) ≡ true → due (marked (after_call call view.p m)) ≡ reply
        → LawAt view.Law (Some call) s reply × At (after_call call view.p m) (answered view.next (Some call) reply s)
    pub other : (call : Call) (q : ℕ) (m : Machine) (s : S) → (q == view.p) ≡ false → At m s → At (after_call call q m) s
    pub frame : (slot len : ℕ) (bytes : List ℕ) (memory : Memory) (frames : List Frame) (s : S) → slot ≤ 15 → view.Rel memory frames s
        → view.Rel (frame_taken slot bytes memory) (frames ++ record { slot = slot; len = len } ∷ []) s

  pub record Now (t : Knowledge S) (m : Machine) : Type 0 where
    pub is_fit : fit (idle view.p m.scheduler.processes) (marked m) ≡ true
    pub law : LawAt view.Law t.last t.now (due (marked m))
    pub rel : At m (answered view.next t.last (due (marked m)) t.now)

  carried-now : (item : Item) (t : Knowledge S) (m : Machine) → is_turn_item item ≡ false
      → Now t (facing item m) → Now t (carried item m)
  carried-now item t m n h =
      grind (decide, after_item-kept view.p item m.scheduler n h.is_fit)

  -- what a turn delivers, and leaves
  pub record Turned (t : Knowledge S) (entry : Entry) (m : Machine) : Type 0 where
    pub fine : Fine view.Law view.p t entry
    pub now : Now (told view.next view.p t entry) m

  module _ (laws : Laws) where
    module _ (call : Call) where
      turn-self : (origin : Origin) (stimulus : Stimulus) (t : Knowledge S) (m : Machine)
          → Now t (facing (Item.Turn view.p origin stimulus) m)
          → Turned t (Entry.Turn (record { 0 = view.p }) origin stimulus call) (after_call call view.p (with_more_work m))
      turn-self origin stimulus t m h =
          let old = with_more_work m in
          let busy : idle view.p m.scheduler.processes ≡ false = grind (decide, h.is_fit) in
          let rest : only_removes (marked m) ≡ true = grind (decide, h.is_fit) in
          let mortal : is_kernel_process view.p ≡ false = grind (arith, busy) in
          let s = answered view.next t.last (reply_of stimulus) t.now in
          let rel : At m s = grind decide in
          let owed = laws.self call old s (due (marked (after_call call view.p old))) mortal rel rest refl in
          grind (decide, after_call-fit)

    turn-step : (b : Bool) (u : Taken) (t : Knowledge S) → (u.q == view.p) ≡ b → Now t (taking u) → Turned t (entry_of u) (taken u)
    turn-step true u t e h = grind (decide, turn-self u.call u.origin u.stimulus t u.m)
    turn-step false u t e h =
        let same : marked (taking u) ≡ marked u.m = grind arith in
        grind (decide, after_call-others view.p u.q (with_more_work u.m) e (rw same at h.is_fit) u.call)

slot_low : (packets : PacketQueue) (slot : ℕ) → free_slot packets ≡ Some slot → slot ≤ 15
unfolding free_slot
slot_low = grind decide

module _ {S : Type 0} (view : View S) where
  abbrev WellTold : Knowledge S → List Entry → Type 0
  WellTold t [] = Unit {0}
  WellTold t (entry ∷ entries) = Fine view.Law view.p t entry × WellTold (told view.next view.p t entry) entries

  well-after : (t : Knowledge S) (xs ys : List Entry) → WellTold t (xs ++ ys) → WellTold (told_all view.next view.p t xs) ys
  well-after t [] ys h = h
  well-after t (x ∷ xs) ys h = well-after (told view.next view.p t x) xs ys h.1

  abbrev pub Fitting : List Entry → Entry → Type 0
  Fitting X entry = Fine view.Law view.p (told_so_far view X) entry

  well-told : (before entries later : List Entry) → AllFrom Fitting Anything before (entries ++ later)
      → WellTold (told_so_far view before) entries
  well-told before [] later all = tt
  well-told before (entry ∷ entries) later all = (
    all.0.0,
    subst (λ t. WellTold t entries) (fold-append (told view.next view.p) (told_so_far view []) before (entry ∷ []))
        (well-told (before ++ entry ∷ []) entries later all.1),
  )

  module _ (known : Known) where
    -- what p received so far; kernel processes take no turn
    pub record Holds (m : Machine) (X : List Entry) : Type 0 where
      pub regular : list_all is_regular m.scheduler.agenda ≡ true
      pub now : Now view (told_so_far view X) m

    carried-holds : (item : Item) (m : Machine) (X : List Entry) → is_turn_item item ≡ false
        → Holds (facing item m) X → Holds (carried item m) X
    carried-holds item m X n h =
        record { regular = grind (decide, carried-regular); now = carried-now view item (told_so_far view X) m n h.now }

  module _ (laws : Laws view) where
    turned : (known : Known) (t : Taken) → Holds known (taking t) t.X → Turned view (told_so_far view t.X) (entry_of t) (taken t)
    turned known t h = turn-step view laws (t.q == view.p) t (told_so_far view t.X) refl h.now

    pub told_cases : Cases Holds Fitting
    told_cases = record {
      carried = λ known m X item n s h. carried-holds known item m X (grind arith) h;
      served = λ known m X q origin event k h.
          let there = subst (λ n. Holds known n X) (kernel_carried q origin (Stimulus.Event event) m k)
          (carried-holds known (Item.Give q origin (Stimulus.Event event)) m X refl h) in
          grind (decide, serve-untouched q event m);
      called_back = grind decide;
      round = grind decide;
      turn = λ known t agrees h.
          record {
            regular = grind (decide, all-mapped, all-append);
            now = rw (fold-append (told view.next view.p) (told_so_far view []) t.X (entry_of t ∷ [])) ((turned _ t h).now);
          };
      told = λ t h. (turned _ t h).fine;
      notes = grind decide;
      shown = grind (decide, fold-append);
      noted = grind decide;
      other = grind decide;
      input = grind (decide, effect-keeps, state_of-seats, seats-with_mark, fold-append, slot_low);
    }

  marks-starts : (n from : ℕ) → marks view.p (map (λ q. Item.Start q) (range_with_len from n)) ≡ []
  marks-starts zero from = refl
  marks-starts (suc n) from = marks-starts n (from + 1)

  abbrev pub Starts : Config → Type 0
  Starts c = view.Rel (booted c).memory [] view.first

  pub boot-holds : (c : Config) → Starts c → (known : Known) → Holds known (at_start c).machine []
  boot-holds = grind (decide, marks-starts, all-mapped)

  pub run-told : Laws view → (run : Ran) → Starts run.config → (before later : List Entry) → before ++ later ≡ run.after.entries
      → WellTold (told_so_far view []) before
  run-told laws run rel before later split =
      well-told [] before later (rw split (at_each _ _ (told_cases laws) run (boot-holds run.config rel)))

  -- the next reply is what the law says
  law-at : (later : List Entry) (t : Knowledge S) → WellTold t later → LawAt view.Law t.last t.now (reply_in view.p later)
  law-at [] t h = grind decide
  law-at (Entry.Turn pid origin stimulus call ∷ later) t h = grind (decide, law-at later t)
  law-at (entry ∷ later) t h = law-at later t h.1

  pub call-law : (X before : List Entry) (turn : Turn) (reply : Reply) → turn.p ≡ view.p
      → WellTold (told_so_far view []) X → HasCall X before turn reply
      → view.Law (told_so_far view (up_to_call before turn)).now turn.call reply
  call-law X before turn reply same well has =
      let t = told_so_far view (up_to_call before turn) in
      let last : t.last ≡ Some turn.call = grind (decide, fold-append, same) in
      let later = well-after (told_so_far view []) (up_to_call before turn) has.later (rw has.is_split well) in
      let answered = rw same at has.is_answered in
      rw (last, answered) at (law-at has.later t later)

  -- so are all replies to p's calls, each by what p knew before it
  abbrev pub OwnTold : S → List OwnTurn → Type 0
  OwnTold s [] = Unit {0}
  OwnTold s (turn ∷ turns) =
      LawAt view.Law (Some turn.call) s turn.reply × OwnTold (answered view.next (Some turn.call) turn.reply s) turns

  pub own-told : (entries : List Entry) (clock : ℕ) (t : Knowledge S) → WellTold t entries
      → OwnTold (answered view.next t.last (reply_in view.p entries) t.now) (own_from view.p clock entries)
  own-told [] clock t h = tt
  own-told (Entry.Turn pid origin stimulus call ∷ later) clock t h =
      let new = told view.next view.p t (Entry.Turn pid origin stimulus call) in
      grind (decide, law-at later new h.1, own-told later (clock + 0) new h.1)
  own-told (entry ∷ later) clock t h = own-told later (clock + ticks_in entry) t h.1
