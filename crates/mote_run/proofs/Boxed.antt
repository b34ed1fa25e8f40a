-- Boxed applications say what the applications inside say.
use Rattle.std.proofs.Common.{◌≡◌, ◌∙◌, ◌-◌, ◌++◌, ℕ, zero, suc, refl, sym, ap, List, ◌∷◌, map, length, nat_lt, if◌then◌else◌, []}
use Rattle.std.proofs.Math.Path.{fun_ext}
use Rattle.std.proofs.lemmas.List.{append_assoc, append-nil, length-map, map-append}
use Rattle.mote_types.specs.Applications.{Says, nth_says, says_of}
use Rattle.mote_types.specs.declared.call.Call.{Call}
use Rattle.mote_types.specs.declared.event.Stimulus.{Stimulus}

abbrev itself : Says → Says
itself says = says

nth_says_listed : {B : Type 0} (says : B → Says) (xs : List B) (i : ℕ) (l : List Stimulus)
    → nth_says says xs i l ≡ nth_says itself (map says xs) i l
nth_says_listed says [] i l = refl
nth_says_listed says (x ∷ xs) zero l = refl
nth_says_listed says (x ∷ xs) (suc i) l = nth_says_listed says xs i l

says_of_listed : {B : Type 0} (says : B → Says) (xs : List B) → says_of says xs ≡ says_of itself (map says xs)
says_of_listed says xs = fun_ext
    (λ p. fun_ext (λ l. ap (λ call. if nat_lt p 4 then Call.Wait else call) (nth_says_listed says xs (p - 4) l)))

module _ {B A : Type 0} (says : B → Says) (others : A → Says) where
  -- each application so far has a box that says what it says; the rest follows
  abbrev pub AreBoxed : List B → List A → List A → List A → Type 0
  AreBoxed boxes yielded rest all = (map says boxes ≡ map others yielded) × (yielded ++ rest ≡ all)

  pub one_more_boxed : (boxes grown : List B) (box : B) (yielded rest later all : List A) (application : A)
      → AreBoxed boxes yielded rest all →
      grown ≡ boxes ++ box ∷ [] → says box ≡ others application → rest ≡ application ∷ later
      → AreBoxed grown (yielded ++ application ∷ []) later all
  one_more_boxed boxes grown box yielded rest later all application boxed pushed same next = (
    rw (pushed, map-append says boxes (box ∷ []), map-append others yielded (application ∷ []), boxed.0, same) refl,
    rw (append_assoc yielded (application ∷ []) later, ← next) boxed.1,
  )

  pub record Boxes (lent : List B) (all : List A) : Type 0 where
    pub same : says_of says lent ≡ says_of others all
    pub as_many : length lent ≡ length all

  pub all_boxed : (lent boxes : List B) (yielded rest all : List A) → AreBoxed boxes yielded rest all → rest ≡ [] → lent ≡ boxes
      → Boxes lent all
  all_boxed lent boxes yielded rest all boxed none of_lent =
      let listed : yielded ≡ all = rw (none, append-nil yielded) at boxed.1 in
      record {
        same = ap (says_of says) of_lent ∙ (says_of_listed says boxes ∙ (ap (says_of itself) boxed.0
            ∙ (sym (says_of_listed others yielded) ∙ ap (says_of others) listed)));
        as_many = ap length of_lent ∙ (sym (length-map boxes says) ∙ (ap length boxed.0 ∙ (length-map yielded others ∙ ap length listed)));
      }
