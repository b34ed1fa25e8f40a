-- Links that name the blocks of a list: reads along them, and how a change of links changes the list.
use Rattle.memb_core.proofs.Words.{◌≡◌, ◌≢◌, ℕ, zero, suc, ◌≤◌, inl, inr, true, false, List, [], ◌∷◌, ◌++◌, length, take, refl, sym, ◌∙◌, arith, Option, Some, None, IfSome, length-append, take_all, take_more, cases_lt, slice_get, slice_get-get_or, slice_get_within, get_or_from_slice_get, eq-eqb, ne_eqb, cases_eq, has_number, without, head_of, next_of, put_behind, along, all_along, Names, AreDistinct}
use Rattle.memb_core.proofs.Numbers.{has_first, has_later, has_cases, none_parts, differ, without_head, has_at, behind_here, behind_later}

-- what the links name is what is read along them
along_is : (n : ℕ) (link : ℕ → Option ℕ) (start : Option ℕ) (list : List ℕ) → Names link start list → length list ≤ n
    → along n link start ≡ list
along_is zero link start [] names few = refl
along_is zero link start (b ∷ list) names few = absurd (omega arith)
along_is (suc n) link start [] names few = rw names refl
along_is (suc n) link start (b ∷ list) names few = grind (arith, along_is n link (link b) list names.1)

length-along : (n : ℕ) (link : ℕ → Option ℕ) (start : Option ℕ) → length (along n link start) ≤ n
length-along zero link start = omega arith
length-along (suc n) link None = omega arith
length-along (suc n) link (Some b) = omega (arith, length-along n link (link b))

-- these items were passed, and here the links go on
pub record IsWalked (here : Option ℕ) (items list : List ℕ) : Type 0 where
  pub passed : items ≡ take (length items) list
  pub next : here ≡ slice_get list (length items)

pub walk_ended : (items list : List ℕ) → IsWalked None items list → items ≡ list
walk_ended items list walked = elim (cases_lt (length items) (length list)) [
  | inl less ↦ absurd (let some = slice_get-get_or list (length items) 0 less in cc)
  | inr past ↦ walked.passed ∙ take_all (length items) list past
]

module _ (link : ℕ → Option ℕ) where
  pub all_along_none : all_along link None ≡ []
  unfolding all_along
  all_along_none = refl

  module _ (start : Option ℕ) where
    pub all_along_is : (list : List ℕ) → Names link start list → length list ≤ 16 → all_along link start ≡ list
    unfolding all_along
    all_along_is list names few = along_is 16 link start list names few

    pub length-all_along : length (all_along link start) ≤ 16
    unfolding all_along
    length-all_along = length-along 16 link start

    pub head_named : (list : List ℕ) → Names link start list → start ≡ head_of list
    head_named [] names = names
    head_named (b ∷ list) names = names.0

  pub next_named : (start : Option ℕ) (b : ℕ) (list : List ℕ) → Names link start list → has_number b list ≡ true
      → link b ≡ next_of b list
  next_named start b [] names h = absurd (cc)
  next_named start b (x ∷ list) names h = grind (arith, cases_eq, eq-eqb, head_named, ne_eqb, has_cases, next_named (link x) b list names.1)

  -- a link of a block of the list names a block of the list
  pub link_listed : (P : ℕ → Type 0) (start : Option ℕ) (b : ℕ) (list : List ℕ) → Names link start list
      → has_number b list ≡ true → ((c : ℕ) → has_number c list ≡ true → P c) → IfSome (link b) P
  link_listed P start b [] names h all = absurd (cc)
  link_listed P start b (x ∷ []) names h all = grind arith
  link_listed P start b (x ∷ (y ∷ list)) names h all = grind (arith, link_listed P (link x) b (y ∷ list) names.1)

  -- the link of the block at a position names the next one
  pub names_at : (start : Option ℕ) (i b : ℕ) (list : List ℕ) → Names link start list → slice_get list i ≡ Some b
      → link b ≡ slice_get list (suc i)
  names_at start i b [] names at = absurd (cc)
  names_at start zero b (x ∷ list) names at = grind (arith, head_named)
  names_at start (suc i) b (x ∷ list) names at = names_at (link x) i b list names.1 at

  pub walk_more : (start : Option ℕ) (b : ℕ) (items list : List ℕ) → Names link start list → IsWalked (Some b) items list
      → IsWalked (link b) (items ++ b ∷ []) list
  walk_more start b items list names walked =
      let n = length items in let long = length-append items (b ∷ []) in let at = sym walked.next in
      grind (
        arith,
        names_at start n b list names at,
        get_or_from_slice_get list n b 0 at,
        take_more list n 0
            (slice_get_within list n b at),
      )

  module _ (new : ℕ → Option ℕ) where
    pub names_agree : (start : Option ℕ) (list : List ℕ) → ((c : ℕ) → has_number c list ≡ true → new c ≡ link c)
        → Names link start list → Names new start list
    names_agree start [] same names = names
    names_agree start (b ∷ list) same names = grind (arith, names_agree (link b) list)

    -- the block at position i + 1 is removed: the one before it gets its link
    pub names_without : (start : Option ℕ) (prev b i : ℕ) (list : List ℕ) → slice_get list i ≡ Some prev → slice_get list (suc i) ≡ Some b
        → AreDistinct list
        → new prev ≡ link b → ((c : ℕ) → has_number c list ≡ true → c ≢ prev → new c ≡ link c)
        → Names link start list → Names new start (without b list)
    names_without start prev b i [] before at distinct here others names = absurd (cc)
    names_without start prev b zero (x ∷ []) before at distinct here others names = absurd (cc)
    names_without start prev b zero (x ∷ (y ∷ list)) before at distinct here others names =
        grind (arith, none_parts, ne_eqb, has_later, differ, names_agree (link y) list, without_head b (y ∷ list) distinct.1 at)
    names_without start prev b (suc i) (x ∷ list) before at distinct here others names =
        grind (
          arith,
          ne_eqb,
          differ,
          has_first,
          has_later,
          has_at (suc i) b list at,
          has_at i prev list before,
          names_without
              (link x) prev b i list before at distinct.1 here,
        )

    -- b is put after prev: it gets prev's link, and prev's link then names it
    pub names_behind : (start : Option ℕ) (prev b : ℕ) (list : List ℕ) → has_number prev list ≡ true
        → has_number b list ≡ false → AreDistinct list
        → new b ≡ link prev → new prev ≡ Some b → ((c : ℕ) → has_number c list ≡ true → c ≢ prev → new c ≡ link c)
        → Names link start list → Names new start (put_behind prev b list)
    names_behind start prev b [] h none distinct at_b at_prev others names = absurd (cc)
    names_behind start prev b (x ∷ list) h none distinct at_b at_prev others names =
        let later = names_behind (link x) prev b list in let kept = names_agree (link x) list in
        elim (cases_eq x prev) [
          | inl e ↦ rw (behind_here prev b x list e) (grind (arith, differ))
          | inr ne ↦ rw (behind_later prev b x list ne) (grind (arith, has_cases, none_parts, has_later))
        ]
