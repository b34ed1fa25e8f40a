-- A pool's two lists after a change of links, of heads or of used blocks.
use Rattle.memb_core.proofs.Words.{◌≡◌, ◌≢◌, ℕ, suc, ◌≤◌, ◌<◌, true, false, List, [], ◌∷◌, length, sym, ◌∙◌, arith, Option, Some, None, IfSome, slice_get, PoolTable, ListHeads, ListName, has_number, without, put_behind, popped, pool_of, IsWithin, start_of, link_of, list_of, Names, AreDistinct, is_used, IsLinked, AreLinked, KeepsLists, LeavesOthers, with_start}
use Rattle.memb_core.proofs.Blocks.{used_below}
use Rattle.memb_core.proofs.Numbers.{has_at, has_cases, differ, at_most, has_left, distinct_left, had_behind, distinct_behind, without_head}
use Rattle.memb_core.proofs.Chains.{all_along_none, all_along_is, head_named, names_agree, link_listed, names_without, names_behind}

module _ (name : ListName) where
  pub start_same : (start : Option ℕ) (lists : ListHeads) → start_of name (with_start name start lists) ≡ start
  start_same start lists = grind arith

  pub start_other : (other : ListName) (start : Option ℕ) (lists : ListHeads) → other ≢ name
      → start_of other (with_start name start lists) ≡ start_of other lists
  start_other other start lists ne = grind arith

  -- links that name a list of used blocks
  pub is_linked : (lists : ListHeads) (pool : PoolTable) (bytes list : List ℕ) → length pool.used ≤ 16
      → Names (link_of pool bytes) (start_of name lists) list → AreDistinct list
      → ((b : ℕ) → has_number b list ≡ true → is_used b pool ≡ true) → (list_of name lists pool bytes ≡ list)
      × IsLinked name lists pool bytes
  is_linked lists pool bytes list most names distinct used =
      let few : length list ≤ 16 = grind (arith, at_most, used_below) in
      grind (arith, all_along_is)

pub still_linked : {lists : ListHeads} {old : PoolTable} (new : PoolTable) {before : List ℕ} (after : List ℕ) → AreLinked lists old before
    → IsWithin new after
    → length new.used ≤ 16
    → ((name : ListName) (c : ℕ) → has_number c (list_of name lists old before) ≡ true → (link_of new after c ≡ link_of old before c)
    × (is_used c new ≡ true))
    → AreLinked lists new after × ((name : ListName) → list_of name lists new after ≡ list_of name lists old before)
still_linked {lists = lists} {old = old} new {before = before} after linked within few kept =
    let each : (name : ListName) → (list_of name lists new after ≡ list_of name lists old before) × IsLinked name lists new after =
    λ name. is_linked name lists new after (list_of name lists old before) few
    (names_agree (link_of old before) (link_of new after) (start_of name lists) (list_of name lists old before) (λ c h. (kept name c h).0)
    (linked.each name).ends)
    (linked.each name).distinct (λ b h. (kept name b h).1) in grind arith

pub keeps_lists : (old new : PoolTable) (before after : List ℕ) → IsWithin new after → length new.used ≤ 16
    → ((c : ℕ) → is_used c old ≡ true → (link_of new after c ≡ link_of old before c) × (is_used c new ≡ true))
    → KeepsLists old new before after
keeps_lists old new before after within few kept = record {
  linked = λ lists linked. (still_linked new after linked within few (λ name c h. kept c ((linked.each name).used c h))).0;
  same = λ lists linked. (still_linked new after linked within few (λ name c h. kept c ((linked.each name).used c h))).1;
}

-- a call on one list makes it this one
pub record Changes (name : ListName) (pool : PoolTable) (old new : ListHeads) (before after list : List ℕ) : Type 0 where
  pub within : IsWithin pool after
  pub names : Names (link_of pool after) (start_of name new) list
  pub distinct : AreDistinct list
  pub used : (b : ℕ) → has_number b list ≡ true → is_used b pool ≡ true
  pub apart : (b : ℕ) (other : ListName) → other ≢ name → has_number b list ≡ true → has_number b (list_of other old pool before) ≡ false
  pub starts : (other : ListName) → other ≢ name → start_of other new ≡ start_of other old
  pub links : (c : ℕ) (other : ListName) → other ≢ name → has_number c (list_of other old pool before) ≡ true
      → link_of pool after c ≡ link_of pool before c

module _ {name : ListName} {pool : PoolTable} {old new : ListHeads} {before after list : List ℕ} (linked : AreLinked old pool before)
    (changes : Changes name pool old new before after list) where
  mine : (list_of name new pool after ≡ list) × IsLinked name new pool after
  mine = is_linked name new pool after list linked.few changes.names changes.distinct changes.used

  module _ (other : ListName) where
    others : other ≢ name → (list_of other new pool after ≡ list_of other old pool before) × IsLinked other new pool after
    others ne =
        let was = linked.each other in
        let names : Names (link_of pool after) (start_of other new) (list_of other old pool before) =
        grind (arith, names_agree) in
        is_linked other new pool after (list_of other old pool before) linked.few names was.distinct was.used

    each : IsLinked other new pool after
    each = grind (arith, mine, others)

  module _ (b : ℕ) where
    apart_from : (other : ListName) → other ≢ name → has_number b (list_of name new pool after) ≡ true
        → has_number b (list_of other new pool after) ≡ false
    apart_from other ne h = grind (arith, others, mine)

    apart : (one other : ListName) → one ≢ other → has_number b (list_of one new pool after) ≡ true
        → has_number b (list_of other new pool after) ≡ false
    apart one other ne h = grind (arith, apart_from)

  pub made : pool_of pool after ≡ pool_of pool before → (list_of name new pool after ≡ list) × LeavesOthers name pool old new before after
  made blocks = (
    mine.0,
    record {
      linked = record { within = changes.within; few = linked.few; each = each; apart = apart };
      list = λ other ne. (others other ne).0;
      blocks = blocks;
    },
  )

-- blocks of a list
module _ (name : ListName) {lists : ListHeads} {pool : PoolTable} {bytes : List ℕ} (b : ℕ) (linked : AreLinked lists pool bytes)
    (had : has_number b (list_of name lists pool bytes) ≡ true) where
  pub listed_below : b < length pool.used
  listed_below = grind (arith, used_below)

  pub link_small : IfSome (link_of pool bytes b) (λ next. next < 256)
  link_small = grind (arith, link_listed, used_below)

module _ (name : ListName) {pool : PoolTable} {old : ListHeads} {before : List ℕ} (linked : AreLinked old pool before) where
  abbrev list : List ℕ
  list = list_of name old pool before

  was : IsLinked name old pool before
  was = linked.each name

  module _ (b : ℕ) where
    apart_before : (other : ListName) → other ≢ name → has_number b list ≡ true → has_number b (list_of other old pool before) ≡ false
    apart_before other ne h = grind arith

    pub head_out : (new : ListHeads) → start_of name old ≡ Some b → new ≡ with_start name (link_of pool before b) old
        → Changes name pool old new before before (popped list)
    head_out new e same = grind arith

    pub first_out : (new : ListHeads) → slice_get list 0 ≡ Some b → new ≡ with_start name (link_of pool before b) old
        → Changes name pool old new before before (without b list)
    first_out new at same = rw (without_head b list was.distinct at)
        (head_out new (head_named (link_of pool before) (start_of name old) list was.ends ∙ at) same)

    pub later_out : (i prev : ℕ) (after : List ℕ) → IsWithin pool after → slice_get list i ≡ Some prev → slice_get list (suc i) ≡ Some b
        → link_of pool after prev ≡ link_of pool before b
        → ((c : ℕ) → c ≢ prev → link_of pool after c ≡ link_of pool before c)
        → Changes name pool old old before after (without b list)
    later_out i prev after within at_prev at here rest =
        grind (
          arith,
          distinct_left,
          has_left,
          apart_before,
          differ,
          names_without (link_of pool before) (link_of pool after)
              (start_of name old) prev b i list at_prev at was.distinct here
              (λ c _. rest c) was.ends,
          has_at i prev list at_prev,
        )

  module _ (b : ℕ) (used : is_used b pool ≡ true) (free : (other : ListName) → has_number b (list_of other old pool before) ≡ false)
      (after : List ℕ) (within : IsWithin pool after) where
    pub front_in : (new : ListHeads) → new ≡ with_start name (Some b) old → link_of pool after b ≡ start_of name old
        → ((c : ℕ) → c ≢ b → link_of pool after c ≡ link_of pool before c)
        → Changes name pool old new before after (b ∷ list)
    front_in new same here rest = grind (arith, names_agree, differ, start_same, has_cases, apart_before, start_other)

    pub behind_in : (prev : ℕ) → has_number prev list ≡ true → link_of pool after b ≡ link_of pool before prev
        → link_of pool after prev ≡ Some b
        → ((c : ℕ) → c ≢ b → c ≢ prev → link_of pool after c ≡ link_of pool before c)
        → Changes name pool old old before after (put_behind prev b list)
    behind_in prev listed' here at_prev rest = grind (arith, names_behind, differ, distinct_behind, had_behind, apart_before)

pub none_listed : (name : ListName) (lists : ListHeads) (pool : PoolTable) (bytes : List ℕ) → start_of name lists ≡ None
    → list_of name lists pool bytes ≡ []
none_listed name lists pool bytes e = grind (arith, all_along_none)

pub start_listed : (name : ListName) {lists : ListHeads} {pool : PoolTable} {bytes : List ℕ} (b : ℕ) → AreLinked lists pool bytes
    → start_of name lists ≡ Some b → has_number b (list_of name lists pool bytes) ≡ true
start_listed name {lists} {pool} {bytes} b linked e = let list = list_of name lists pool bytes in
    has_at 0 b list (sym (head_named (link_of pool bytes) (start_of name lists) list (linked.each name).ends) ∙ e)

pub empty_linked : (lists : ListHeads) (pool : PoolTable) (bytes : List ℕ) → ((name : ListName) → start_of name lists ≡ None)
    → length pool.used ≤ 16 → IsWithin pool bytes → AreLinked lists pool bytes
empty_linked lists pool bytes none few within = grind (arith, none_listed)

-- a block removed from one list, and not in the other
pub absent_after : {name : ListName} {pool : PoolTable} {old new : ListHeads} {before after : List ℕ} (b : ℕ)
    → LeavesOthers name pool old new before after → list_of name new pool after ≡ without b (list_of name old pool before)
    → ((other : ListName) → other ≢ name → has_number b (list_of other old pool before) ≡ false) → (other : ListName)
    → has_number b (list_of other new pool after) ≡ false
absent_after {name = name} b others taken absent other = grind (arith, has_left, others)
