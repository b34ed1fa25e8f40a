-- A list that is filled with the calls of its parts, from the front.
use Rattle.std.proofs.Common.{◌≡◌, ◌∙◌, ◌≤◌, ◌<◌, ◌+◌, ℕ, List, [], ◌∷◌, ◌++◌, sym, ap, subst, arith, length, drop, set}
use Rattle.std.proofs.lemmas.Grind.{common_steps}
use Rattle.std.proofs.lemmas.List.{append-nil, append_assoc, drop-drop, length-append, take-append-drop}
use Rattle.mote_types.specs.declared.call.Call.{Call}
use Rattle.std.proofs.lemmas.List.Elements.{All-drop}
use Rattle.call_lists.specs.Calls.{AreCalls, AreWaits, IsCall, IsListOf}
use Rattle.call_lists.specs.Code.Lists.{AreOfText, ArePut}

pub none_put : (place : ℕ) (calls : List Call) → place ≤ length calls → ArePut [] place place calls calls
none_put place calls fits = grind (arith, append-nil)

one_put : (end : ℕ) (calls : List Call) (call : Call) → end < length calls → ArePut (call ∷ []) end (end + 1) calls (set calls end call)
one_put end calls call fits = grind (arith, common_steps)

pub put_more : (made more : List Call) (place middle end : ℕ) (old calls new : List Call) → ArePut made place middle old calls
    → ArePut more middle end calls new → ArePut (made ++ more) place end old new
put_more made more place middle end old calls new first second =
    record {
      is_end = omega (arith, length-append made more);
      fits = second.fits;
      front = grind (arith, append_assoc);
      others =
          let behind = drop-drop (length more) middle calls in
          let before = drop-drop (length more) middle old in
          second.others ∙ grind arith;
      is_long = second.is_long ∙ first.is_long;
    }

module _ (words : List ℕ) where
  -- from place to end are n calls of these words
  pub record AreCopies (count place end : ℕ) (old new : List Call) : Type 0 where
    pub made : List Call
    pub are_calls : AreCalls words made
    pub is_count : length made ≡ count
    pub put : ArePut made place end old new

  calls_more : (calls : List Call) (call : Call) → AreCalls words calls → IsCall words call
      → AreCalls words (calls ++ call ∷ [])
  calls_more [] call are is = (is, tt)
  calls_more (first ∷ calls) call are is = (are.0, calls_more calls call are.1 is)

  pub copies_more : (count place end : ℕ) (old new : List Call) (call : Call) → AreCopies count place end old new
      → IsCall words call → end < length new → AreCopies (count + 1) place (end + 1) old (set new end call)
  copies_more count place end old new call copies is fits =
      record {
        made = copies.made ++ call ∷ [];
        are_calls = calls_more copies.made call copies.are_calls is;
        is_count = grind (arith, length-append);
        put = put_more copies.made (call ∷ []) place end (end + 1) old new _ copies.put (one_put end new call fits);
      }

module _ (text : List ℕ) where
  pub listed_none : (calls : List Call) → text ≡ [] → AreWaits calls → IsListOf text calls
  listed_none calls none waits = grind arith

  -- the calls of a text, at the front of a list of waits
  pub listed_put : (old calls made : List Call) (end : ℕ) → AreWaits old → AreOfText text made
      → ArePut made 0 end old calls → IsListOf text calls
  listed_put old calls made end waits ([], is, are) put = cc is
  listed_put old calls made end waits (part ∷ parts, is, are) put =
      record {
        parts = part ∷ parts;
        made = made;
        waits = drop end calls;
        is_text = ap (drop 2) is;
        are_of_parts = are;
        are_calls = sym (take-append-drop end calls) ∙ ap (λ front. front ++ drop end calls) put.front;
        are_waits = subst AreWaits (sym put.others) (All-drop (λ call. call ≡ Call.Wait) end old waits);
      }
