-- Links that are added one after the other.
use Rattle.std.proofs.Common.{◌≡◌, ℕ, zero, suc, ◌+◌, ◌-◌, ◌<◌, ◌≤◌, List, [], ◌∷◌, ◌++◌, length, get_or, set, true, Result, Ok, Err, append_assoc, append-nil, ap, sym, refl, ◌∙◌, arith}
use Rattle.std.proofs.lemmas.List.{length-map, map-set}
use Rattle.std.specs.Global.{Vec}
use Rattle.std.specs.List.{range_with_len}
use Rattle.std.specs.Prelude.{flat_map}
use Rattle.medium_core.specs.Code.Airs.{link_lists}
use Rattle.medium_core.specs.declared.link.Fate.{Fate}
use Rattle.medium_core.specs.declared.link.Link.{Link}
use Rattle.network_setup.specs.Code.Linking.{Links}
use Rattle.network_setup.specs.Code.Setups.{Does}
use Rattle.network_setup.specs.Setting.{is_fit, next_carriage}
use Rattle.network_setup.specs.Shapes.{is_shape, linked, links_of, up_to, with_new_link, with_shape}
use Rattle.network_setup.specs.declared.carriage.Carriage.{Carriage}
use Rattle.network_setup.specs.declared.fault.LineFault.{LineFault}
use Rattle.network_setup.specs.declared.shape.Shape.{Shape}

-- the first of the numbers that are left
pub up_to_more : (a end : ℕ) → a < end → up_to a end ≡ a ∷ up_to (a + 1) end
up_to_more a end h =
    let e : end - a ≡ suc (end - (a + 1)) = omega arith in
    ap (range_with_len a) e

pub up_to_none : (a end : ℕ) → end ≤ a → up_to a end ≡ []
up_to_none a end h =
    let e : end - a ≡ 0 = omega arith in
    ap (range_with_len a) e

-- of a loop's links these are left
pub record IsLeft (all left : List (ℕ × ℕ)) (before after : Carriage) (old new : List (List Link)) : Type 0 where
  pub goes : (later : List (ℕ × ℕ)) → linked (all ++ later) before old ≡ linked (left ++ later) after new

module _ (f : ℕ → List (ℕ × ℕ)) (all : List (ℕ × ℕ)) (a end : ℕ) (before now after : Carriage) (old mid new : List (List Link)) where
  next_at : a < end → (later : List (ℕ × ℕ)) →
      linked (flat_map f (up_to a end) ++ later) now mid ≡ linked (f a ++ (flat_map f (up_to (a + 1) end) ++ later)) now mid
  next_at h later =
      ap (λ (xs : List ℕ). linked (flat_map f xs ++ later) now mid) (up_to_more a end h)
      ∙ ap (λ (xs : List (ℕ × ℕ)). linked xs now mid) (append_assoc (f a) (flat_map f (up_to (a + 1) end)) later)

  pub one_more : a < end → IsLeft all (flat_map f (up_to a end)) before now old mid → Links (Ok tt) (f a) now after mid new →
      IsLeft all (flat_map f (up_to (a + 1) end)) before after old new
  one_more h left goes = record {
    goes = λ later. left.goes later ∙ (next_at h later ∙ goes (flat_map f (up_to (a + 1) end) ++ later));
  }

  pub one_fails : (fault : LineFault) → a < end → IsLeft all (flat_map f (up_to a end)) before now old mid →
      Links (Err fault) (f a) now after mid new → Links (Err fault) all before after old new
  one_fails LineFault.Malformed h left fails = λ later. left.goes later ∙ (next_at h later ∙ fails (flat_map f (up_to (a + 1) end) ++ later))
  one_fails LineFault.Memory h left fails = tt

  pub none_left : end ≤ a → IsLeft all (flat_map f (up_to a end)) before now old mid → Links (Ok tt) all before now old mid
  none_left h left later =
      left.goes later ∙ ap (λ (xs : List ℕ). linked (flat_map f xs ++ later) now mid) (up_to_none a end h)

module _ (first second : List (ℕ × ℕ)) (before now after : Carriage) (old mid new : List (List Link)) where
  -- the second ones after the first ones
  pub both_added : (r : Result (Unit {0}) LineFault) → Links (Ok tt) first before now old mid → Links r second now after mid new →
      Links r (first ++ second) before after old new
  both_added (Ok u) goes then = λ later.
      ap (λ (xs : List (ℕ × ℕ)). linked xs before old) (append_assoc first second later) ∙ (goes (second ++ later) ∙ then later)
  both_added (Err LineFault.Malformed) goes then = λ later.
      ap (λ (xs : List (ℕ × ℕ)). linked xs before old) (append_assoc first second later) ∙ (goes (second ++ later) ∙ then later)
  both_added (Err LineFault.Memory) goes then = tt

  pub first_fails : (fault : LineFault) → Links (Err fault) first before now old mid → Links (Err fault) (first ++ second) before after old new
  first_fails LineFault.Malformed fails = λ later.
      ap (λ (xs : List (ℕ × ℕ)). linked xs before old) (append_assoc first second later) ∙ fails (second ++ later)
  first_fails LineFault.Memory fails = tt

own_items : (lists : List (Vec Link)) (i : ℕ) (d : Vec Link) → i < length lists → get_or (link_lists lists) i [] ≡ (get_or lists i d).items
own_items [] i d h = absurd (omega arith)
own_items (x ∷ lists) zero d h = refl
own_items (x ∷ lists) (suc i) d h = own_items lists i d (omega arith)

module _ (links : List (Vec Link)) (from to : ℕ) (carriage : Carriage) (own written : Vec Link) where
  -- the lists with one more link of this sender
  is_pushed : from - 1 < length links → own ≡ get_or links (from - 1) own →
      written.items ≡ own.items ++ record { to = to - 1; delay = carriage.delay; loss = carriage.loss; last = Fate.Unused } ∷ [] →
      link_lists (set links (from - 1) written) ≡ with_new_link from to carriage (link_lists links)
  is_pushed h here more =
      let e : get_or (link_lists links) (from - 1) [] ≡ own.items = own_items links (from - 1) own h ∙ ap (λ (v : Vec Link). v.items) (sym here) in
      let m = map-set (λ (v : Vec Link). v.items) links (from - 1) written in
      rw (e, m, more) refl

  pub one_added : is_fit (length links) from to carriage ≡ true → from - 1 < length links → own ≡ get_or links (from - 1) own →
      written.items ≡ own.items ++ record { to = to - 1; delay = carriage.delay; loss = carriage.loss; last = Fate.Unused } ∷ [] →
      Links (Ok tt) ((from, to) ∷ []) carriage (next_carriage carriage) (link_lists links) (link_lists (set links (from - 1) written))
  one_added fit h here more later =
      let known : is_fit (length (link_lists links)) from to carriage ≡ true =
      ap (λ (n : ℕ). is_fit n from to carriage) (length-map links (λ (v : Vec Link). v.items)) ∙ fit in
      rw (known, is_pushed h here more) refl

module _ (shape : Shape) (before after : Carriage) (links : List (Vec Link)) (new : List (List Link)) (is : is_shape (length links) shape ≡ true) where
  is_planned : with_shape shape before (link_lists links) ≡ linked (links_of shape) before (link_lists links)
  is_planned =
      let known : is_shape (length (link_lists links)) shape ≡ true =
      ap (λ (n : ℕ). is_shape n shape) (length-map links (λ (v : Vec Link). v.items)) ∙ is in
      rw known refl

  all_of : linked (links_of shape) before (link_lists links) ≡ linked (links_of shape ++ []) before (link_lists links)
  all_of = ap (λ (all : List (ℕ × ℕ)). linked all before (link_lists links)) (sym (append-nil (links_of shape)))

  -- no links follow those of a line
  pub shape_added : (r : Result (Unit {0}) LineFault) → Links r (links_of shape) before after (link_lists links) new →
      Does r (with_shape shape before (link_lists links)) new
  shape_added (Ok u) goes = is_planned ∙ (all_of ∙ goes [])
  shape_added (Err LineFault.Malformed) goes = is_planned ∙ (all_of ∙ goes [])
  shape_added (Err LineFault.Memory) goes = tt
