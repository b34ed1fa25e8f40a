-- Examples: numbers that are appended, chains of the lists, and the signals and times of a dump.
use Rattle.std.proofs.Common.{◌≡◌, ◌≤◌, ◌+◌, ◌⊎◌, ℕ, List, [], ◌∷◌, ◌++◌, inl, inr, length, refl, arith}
use Rattle.std.specs.Bool.{⊤}
use Rattle.pictures.specs.Ascending.{MayAppend}
use Rattle.pictures.specs.Chains.{AreChains}
use Rattle.pictures.specs.Dump.{AreChanges}
use Rattle.pictures.specs.Lists.{changed}
use Rattle.pictures.specs.declared.facts.chains.Chain.{Chain}
use Rattle.pictures.specs.declared.facts.chains.ListChange.{ListChange}

-- one number or none is appended, and no other one
none_appended : MayAppend 5 (1 ∷ []) (1 ∷ [])
none_appended = inl refl

one_appended : MayAppend 5 (1 ∷ []) (1 ∷ 5 ∷ [])
one_appended = inr refl

another_appended : MayAppend 5 (1 ∷ []) (1 ∷ 6 ∷ []) ⊎ MayAppend 5 (1 ∷ []) (1 ∷ 5 ∷ 5 ∷ []) ⊎ MayAppend 5 (1 ∷ []) [] → ⊥
another_appended is = grind arith

-- there are eight lists
abbrev AreEightLists : List Chain → Type 0
AreEightLists [] = ⊤
AreEightLists (chain ∷ chains) = (chain.list ≤ 7) × AreEightLists chains

one_more : (chains : List Chain) (chain : Chain) → AreEightLists chains → chain.list ≤ 7 → AreEightLists (chains ++ chain ∷ [])
one_more [] chain are is = (is, tt)
one_more (first ∷ chains) chain are is = (are.0, one_more chains chain are.1 is)

eight_lists : {chains : List Chain} → AreChains chains → AreEightLists chains
eight_lists AreChains.none = tt
eight_lists (AreChains.more {chains = chains} before chain change inside blocks) = one_more chains chain (eight_lists before) (omega (arith, inside))

-- the first chain of a list has one block at most
few : (change : ListChange) → length (changed change []) ≤ 1
few (ListChange.Append block) = omega arith
few (ListChange.Prepend block) = omega arith
few (ListChange.InsertAfter other block) = omega arith
few (ListChange.Remove block) = omega arith

first_chain : {chains : List Chain} → AreChains chains → (one : Chain) → chains ≡ one ∷ [] → length one.blocks.items ≤ 1
first_chain AreChains.none one same = absurd (cc)
first_chain (AreChains.more {chains = []} before chain change inside blocks) one same =
    let is : one ≡ chain = grind arith in rw (is, blocks) (few change)
first_chain (AreChains.more {chains = first ∷ []} before chain change inside blocks) one same = absurd (cc)
first_chain (AreChains.more {chains = first ∷ second ∷ chains} before chain change inside blocks) one same = absurd (cc)

-- a dump has 94 signals
abbrev AreFew : {first time : ℕ} {text : List ℕ} → AreChanges first time text → Type 0
AreFew (AreChanges.begun time) = ⊤
AreFew (AreChanges.set before value signal few) = AreFew before × (signal ≤ 93)
AreFew (AreChanges.later before next later) = AreFew before

few_signals : {first time : ℕ} {text : List ℕ} (changes : AreChanges first time text) → AreFew changes
few_signals (AreChanges.begun time) = tt
few_signals (AreChanges.set before value signal few) = (few_signals before, omega (arith, few))
few_signals (AreChanges.later before next later) = few_signals before

-- no time is there twice
abbrev times : {first time : ℕ} {text : List ℕ} → AreChanges first time text → ℕ
times (AreChanges.begun time) = 0
times (AreChanges.set before value signal few) = times before
times (AreChanges.later before next later) = times before + 1

each_later : {first time : ℕ} {text : List ℕ} (changes : AreChanges first time text) → times changes ≤ time
each_later (AreChanges.begun time) = omega arith
each_later (AreChanges.set before value signal few) = each_later before
each_later (AreChanges.later {first} {time} before next later) = omega (arith, each_later before, later)
