-- The log of a network and its text go on with each move.
use Rattle.std.proofs.Common.{◌≡◌, ℕ, Bool, false, List, [], ◌∷◌, ◌++◌, refl, ap, sym, subst, ◌∙◌, append-nil, slice_get, Option, None, Some}
use Rattle.std.proofs.lemmas.List.{append_assoc}
use Rattle.std.proofs.lemmas.List.Elements.{filter_map-append}
use Rattle.arrayvec.specs.ArrayVec.{ArrayVec}
use Rattle.kernel_core.specs.declared.config.Config.{Config}
use Rattle.medium_core.specs.Air.{Air}
use Rattle.medium_core.specs.Laws.{Deed, all_done}
use Rattle.medium_core.specs.declared.link.Link.{Link}
use Rattle.mote_session.specs.Sent.{sent_by_entry, sent_in}
use Rattle.mote_session.specs.SessionView.{SessionView}
use Rattle.mote_session.specs.declared.session.Next.{Next}
use Rattle.mote_types.specs.declared.call.Call.{Call}
use Rattle.mote_types.specs.declared.entry.Entry.{Entry}
use Rattle.mote_types.specs.declared.entry.Input.{Input}
use Rattle.network_session.specs.Happenings.{Happening, all_deeds, deeds_of, sends}
use Rattle.network_session.specs.Logs.{submitted, happened, heard_by, made, made_by, told_by}
use Rattle.network_session.specs.Network.{NetworkView}
use Rattle.network_session.specs.Promise.{IsLogOf}
use Rattle.network_session.specs.Steps.{IsNetworkSubmitted, IsNetworkFed, Steps, aired_if}
use Rattle.network_session.specs.declared.outcome.Outcome.{Outcome}
use Rattle.network_session.proofs.Working.{there_after}
use Rattle.network_steps.specs.NetworkRuns.{IsMove, Leads, Move, after_move, log_of, move_lines, moved, moves_text}
use Rattle.network_steps.specs.Code.Calls.{Speak}
use Rattle.network_steps.specs.Code.Turns.{ends_open, time_of, times_of}
use Rattle.mote_session.specs.Voices.{Voices}
use Rattle.network_steps.specs.NetworkText.{happening_lines, log_text}
use Rattle.network_steps.specs.Works.{input_of, inputs_of}

-- what happens to the medium

done_more : (xs ys : List Deed) (air : Air) → all_done (xs ++ ys) air ≡ all_done ys (all_done xs air)
done_more [] ys air = refl
done_more (x ∷ xs) ys air = done_more xs ys _

pub one_deed : (h : Happening) (air : Air) → all_done (all_deeds (h ∷ [])) air ≡ all_done (deeds_of h) air
one_deed h air = ap (λ (deeds : List Deed). all_done deeds air) (append-nil (deeds_of h))

-- the text

pub text_more : (quiet : Bool) (log more : List Happening) (air : Air) →
    log_text quiet air (log ++ more) ≡ log_text quiet air log ++ log_text quiet (all_done (all_deeds log) air) more
text_more quiet [] more air = refl
text_more quiet (h ∷ log) more air =
    ap (λ (later : List ℕ). happening_lines quiet air h ++ later)
    (text_more quiet log more (all_done (deeds_of h) air)
    ∙ ap (λ (a : Air). log_text quiet (all_done (deeds_of h) air) log ++ log_text quiet a more) (sym (done_more (deeds_of h) (all_deeds log) air)))
    ∙ sym (append_assoc (happening_lines quiet air h) (log_text quiet (all_done (deeds_of h) air) log)
    (log_text quiet (all_done (deeds_of h ++ all_deeds log) air) more))

-- the air after a step

aired_sends : (m : ℕ) (o : Option (ArrayVec ℕ)) (air : Air) → aired_if m o air ≡ all_done (sends m o) air
aired_sends m None air = refl
aired_sends m (Some bytes) air = refl

made_air : (m : ℕ) (last : Option Entry) (air : Air) → aired_if m (sent_in last) air ≡ all_done (all_deeds (made m last)) air
made_air m None air = refl
made_air m (Some entry) air = aired_sends m (sent_by_entry entry) air ∙ sym (one_deed (Happening.Entry m entry) air)

abbrev air_of : NetworkView → Air
air_of net = net.air

abbrev motes_of : NetworkView → List SessionView
motes_of net = net.motes

pub air_step : (outcome : Outcome) (old new : NetworkView) → Steps outcome old new → new.air ≡ all_done (all_deeds (happened outcome old new)) old.air
air_step (Outcome.Started m) old new s = ap air_of s
air_step (Outcome.Worked m Next.Turn) old new s = ap air_of s.result
air_step (Outcome.Worked m Next.Rest) old new s = ap air_of s.result
air_step (Outcome.Worked m Next.Halted) old new s = ap air_of s.result
air_step (Outcome.Worked m Next.Entry) old new s =
    let w = s.worked in
    let there = there_after m old.motes new.motes w.before w.after w.mote w.others in
    ap air_of s.result ∙ (made_air m w.after.last old.air
    ∙ ap (λ (log : List Happening). all_done (all_deeds log) old.air) (sym (ap (made_by m) there)))
air_step (Outcome.Woken m) old new s =
    ap air_of s.result ∙ ap (λ (log : List Happening). all_done (all_deeds log) old.air) (sym (ap (told_by old.air.clock m) s.told.mote))
air_step (Outcome.Heard m) old new s =
    ap air_of s.result ∙ ap (λ (log : List Happening). all_done (all_deeds log) old.air) (sym (ap (heard_by m) s.arrives))
air_step (Outcome.Missed from to) old new s = ap air_of s
air_step Outcome.Clock old new s = ap air_of s
air_step Outcome.Rest old new s = ap air_of s
air_step Outcome.Exhausted old new s = ap air_of s

-- moves after moves

pub leads_on : (moves later : List Move) (old mid new : NetworkView) → Leads old moves mid → Leads mid later new → Leads old (moves ++ later) new
leads_on [] later old mid new first after = subst (λ (net : NetworkView). Leads net later new) (sym first) after
leads_on (move ∷ moves) later old mid new first after = (first.0, leads_on moves later (after_move move) mid new first.1 after)

pub text_on : (quiet : Bool) (moves later : List Move) (old mid : NetworkView) → Leads old moves mid →
    moves_text quiet old (moves ++ later) ≡ moves_text quiet old moves ++ moves_text quiet mid later
text_on quiet [] later old mid first = ap (λ (net : NetworkView). moves_text quiet net later) first
text_on quiet (move ∷ moves) later old mid first =
    ap (λ (text : List ℕ). move_lines quiet old move ++ text) (text_on quiet moves later (after_move move) mid first.1)
    ∙ sym (append_assoc (move_lines quiet old move) (moves_text quiet (after_move move) moves) (moves_text quiet mid later))

pub inputs_on : (moves later : List Move) → inputs_of (moves ++ later) ≡ inputs_of moves ++ inputs_of later
inputs_on moves later = filter_map-append input_of moves later

pub times_on : (moves later : List Move) → times_of (moves ++ later) ≡ times_of moves ++ times_of later
times_on moves later = filter_map-append time_of moves later

pub speak_on : (first second : List Move) (old mid : NetworkView) (before between after : Voices) → Leads old first mid →
    Speak old first before between → Speak mid second between after → Speak old (first ++ second) before after
speak_on [] second old mid before between after leads speak later =
    subst (λ (voices : Voices). Speak old second voices after) speak
    (subst (λ (net : NetworkView). Speak net second between after) (sym leads) later)
speak_on (move ∷ first) second old mid before between after leads speak later =
    (speak.0, speak.1, speak_on first second (after_move move) mid speak.0 between after leads.1 speak.2 later)

-- moves that end with no turn
pub ends_closed : (first second : List Move) → ends_open first ≡ false → ends_open second ≡ false → ends_open (first ++ second) ≡ false
ends_closed [] second one two = two
ends_closed (move ∷ []) [] one two = one
ends_closed (move ∷ []) (next ∷ second) one two = two
ends_closed (move ∷ next ∷ first) second one two = ends_closed (next ∷ first) second one two

-- the mote whose call was submitted is there after that
pub there_submitted : (m : ℕ) (call : Call) (old new : NetworkView) → old.active ≡ Some m → (is : IsNetworkSubmitted call old new) →
    slice_get new.motes m ≡ Some is.submitted.after
there_submitted m call old new active is =
    let some_mote : Some is.m ≡ Some m = sym is.was_active ∙ active in
    let number : is.m ≡ m = cc in
    subst (λ (n : ℕ). slice_get new.motes n ≡ Some is.submitted.after) number
    (there_after is.m old.motes new.motes is.submitted.before is.submitted.after is.submitted.mote is.submitted.others)

-- the log

abbrev pub StepLaw : Type 0
StepLaw = (configs : ℕ → Config) (room : ℕ) (links : List (List Link)) (log : List Happening) (outcome : Outcome) (old new : NetworkView) →
    IsLogOf configs room links log old → Steps outcome old new → IsLogOf configs room links (log ++ happened outcome old new) new

abbrev pub SubmitLaw : Type 0
SubmitLaw = (configs : ℕ → Config) (room : ℕ) (links : List (List Link)) (log : List Happening) (call : Call) (old new : NetworkView) →
    IsLogOf configs room links log old → IsNetworkSubmitted call old new → IsLogOf configs room links (log ++ submitted old new) new

abbrev pub FeedLaw : Type 0
FeedLaw = (configs : ℕ → Config) (room : ℕ) (links : List (List Link)) (log : List Happening) (m : ℕ) (input : Input) (old new : NetworkView) →
    IsLogOf configs room links log old → IsNetworkFed m input old new → IsLogOf configs room links (log ++ Happening.Fed m input ∷ []) new

module _ (step : StepLaw) (answer : SubmitLaw) (feed : FeedLaw) (configs : ℕ → Config) (room : ℕ) (links : List (List Link)) where
  -- nothing happens to motes and air
  log_still : (log : List Happening) (old new : NetworkView) → new.motes ≡ old.motes → new.air ≡ old.air → IsLogOf configs room links log old →
      IsLogOf configs room links (log ++ []) new
  log_still log old new motes air is = rw (append-nil log) (record { motes = rw motes is.motes; air = air ∙ is.air; heard = is.heard })

  log_move : (log : List Happening) (move : Move) (old : NetworkView) → IsLogOf configs room links log old → IsMove old move →
      IsLogOf configs room links (log ++ moved old move) (after_move move)
  log_move log (Move.Step outcome new) old is moves = step configs room links log outcome old new is moves.steps
  log_move log (Move.Submit call new) old is moves = answer configs room links log call old new is moves
  log_move log (Move.Tick ticks new) old is moves = log_still log old new (ap motes_of moves.result) (ap air_of moves.result) is
  log_move log (Move.Tell m new) old is moves = step configs room links log (Outcome.Woken m) old new is moves.told
  log_move log (Move.Hand m input new) old is moves = feed configs room links log m input old new is moves.fed
  log_move log (Move.Miss m input new) old is moves = log_still log old new (ap motes_of moves.result) (ap air_of moves.result) is

  pub log_moves : (moves : List Move) (log : List Happening) (old new : NetworkView) → IsLogOf configs room links log old → Leads old moves new →
      IsLogOf configs room links (log ++ log_of old moves) new
  log_moves [] log old new is leads = rw (append-nil log) (subst (IsLogOf configs room links log) leads is)
  log_moves (move ∷ moves) log old new is leads =
      subst (λ (all : List Happening). IsLogOf configs room links all new) (append_assoc log (moved old move) (log_of (after_move move) moves))
      (log_moves moves (log ++ moved old move) (after_move move) new (log_move log move old is leads.0) leads.1)
