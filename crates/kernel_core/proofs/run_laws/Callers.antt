-- Each note of a sent packet follows its sender's turn and has the bytes of the sender's block.
use Rattle.std.proofs.Common.{◌≡◌, ℕ, ◌≤◌, Bool, true, false, List, ◌∷◌, [], refl, arith, append-nil, nat_le, Option, Some, None}
use Rattle.std.proofs.lemmas.List.{get_or_past}
use Rattle.node_memory.specs.Frames.{send_refusal}
use Rattle.kernel_core.specs.PacketCalls.{sent}
use Rattle.kernel_core.proofs.Common.{BlocksAreOwn, decide, list_all, Call, Entry, Item, Machine, Origin, Refusal, Stimulus, after_call, answer_done, fold-append, Note, at_start, Blocks, number_of, refused_or, shown_first, Turn, up_to_call, with_more_work}
use Rattle.kernel_core.proofs.run_laws.Changes.{serve-untouched, is_note, all-append, all-mapped, all-delivered}
use Rattle.kernel_core.proofs.run_laws.event_order.Runs.{Known, Ran, Anything, at_each, at-split, Cases, facing}
use Rattle.kernel_core.specs.Laws.Sent.{IsSent}
use Rattle.kernel_core.proofs.run_laws.OwnBlocks.{are-own, heap_store, heap-keeps, managed_store, blocks-told, managed-keeps, own_view, own-laws, boot-has}
use Rattle.kernel_core.proofs.run_laws.Whole.{View, Holds, Fitting, told_cases, boot-holds}

-- no note of a sent packet
abbrev is_plain : Item → Bool
is_plain (Item.Show (Entry.Note (Note.Sent bytes))) = false
is_plain (Item.Show entry) = is_note entry
is_plain _ = true

abbrev all_plain : List Item → Bool
all_plain items = list_all is_plain items

-- only the front may be such a note, and it has its sender
abbrev Front : List Entry → List Item → Type 0
Front X (Item.Show (Entry.Note (Note.Sent bytes)) ∷ items) = IsSent X bytes × (all_plain items ≡ true)
Front X items = all_plain items ≡ true

plain-front : (X : List Entry) (items : List Item) → all_plain items ≡ true → Front X items
plain-front X [] h = h
plain-front X (item ∷ items) h = grind decide

abbrev view : ℕ → View Blocks
view p = own_view managed_store p

record Sending (known : Known) (m : Machine) (X : List Entry) : Type 0 where
  told : (p : ℕ) → p ≤ 19 → Holds (view p) known m X
  front : Front X m.scheduler.agenda

abbrev HasSender : List Entry → Entry → Type 0
HasSender X (Entry.Note (Note.Sent bytes)) = IsSent X bytes
HasSender X _ = Unit {0}

base : (p : ℕ) → p ≤ 19 → Cases (Holds (view p)) (Fitting (view p))
base p few = told_cases (view p) (own-laws managed_store managed-keeps p few)

module _ (known : Known) (m : Machine) (X : List Entry) (q : ℕ) (origin : Origin) (stimulus : Stimulus)
    (s : Sending known (facing (Item.Turn q origin stimulus) m) X) where
  abbrev on : Machine
  on = with_more_work m

  abbrev made : Call → Turn
  made call = record { p = q; origin = origin; stimulus = stimulus; call = call }

  -- only the processes up to 19 have blocks
  sent-front : (h : ℕ) (o : Option Refusal) → send_refusal q h m.memory.managed ≡ o
      → Front (up_to_call X (made (Call.PacketSend h)))
      (refused_or o q on (shown_first (sent q h on) (answer_done q on))).scheduler.agenda
  sent-front h (Some refusal) e = grind decide
  sent-front h None e =
      let sound = (s.told 4 (omega arith)).now.rel.sound in
      let few : nat_le q 19 ≡ true = grind (decide, e, sound.size, get_or_past m.memory.managed.blocks (number_of q h) None) in (
        record {
          earlier = X;
          turn = made (Call.PacketSend h);
          h = h;
          sends = refl;
          between = [];
          no_turn = refl;
          split = append-nil _;
          block = grind (decide, fold-append, blocks-told, s.told q (grind (decide, few)), e);
        },
        grind (decide, s.front),
      )

  turn-front : (call : Call) → Front (up_to_call X (made call)) (after_call call q on).scheduler.agenda
  turn-front (Call.PacketSend h) = sent-front h (send_refusal q h m.memory.managed) refl
  turn-front call = grind (decide, plain-front, all-mapped, all-append)

sending_cases : Cases Sending HasSender
sending_cases = record {
  carried = λ known m X item n s h.
      record {
        told = λ p few. (base p few).carried known m X item n s (h.told p few);
        front = grind (decide, plain-front, all-mapped, all-append, all-delivered);
      };
  served = λ known m X q origin event k h.
      record {
        told = λ p few. (base p few).served known m X q origin event k (h.told p few);
        front = rw ((serve-untouched q event m).agenda) (plain-front X m.scheduler.agenda h.front);
      };
  called_back = grind (decide, all-append, all-delivered);
  round = grind decide;
  turn = λ known t agrees h.
      record {
        told = λ p few. (base p few).turn known t agrees (h.told p few);
        front = turn-front _ t.m t.X t.q t.origin t.stimulus h t.call;
      };
  told = grind decide;
  notes = grind decide;
  shown = λ known m X note h.
      record { told = λ p few. (base p few).shown known m X note (h.told p few); front = grind decide };
  noted = grind decide;
  other = grind decide;
  input = λ known m X input none h.
      record { told = λ p few. (base p few).input known m X input none (h.told p few); front = grind decide };
}

module _ (run : Ran) where
  boot : (known : Known) → Sending known (at_start run.config).machine []
  boot known =
      record {
        told = λ p few. boot-holds (view p) run.config (boot-has managed_store managed-keeps p run.config) known;
        front = plain-front _ _ (grind (decide, all-mapped));
      }

  pub blocks-own : BlocksAreOwn run.after.entries
  blocks-own = record {
    managed = are-own managed_store managed-keeps run;
    heap = are-own heap_store heap-keeps run;
    sent = λ before later bytes split.
        (at-split HasSender Anything [] before later (Entry.Note (Note.Sent bytes)) (rw split (at_each _ _ sending_cases run boot))).0;
  }
