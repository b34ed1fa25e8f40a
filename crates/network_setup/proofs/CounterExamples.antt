-- What the definitions refuse: another line's number, a mote that has worked, another application, and how no run ends.
use Rattle.std.specs.Fmt.{digits}
use Rattle.std.proofs.Common.{◌≡◌, ◌∙◌, ℕ, Bool, List, [], ◌∷◌, Option, Some, None, Ok, Err, ap, arith, codes, inl, inr, sym}
use Rattle.std.specs.Option.{option_map_or}
use Rattle.std.specs.Global.{Box}
use Rattle.call_lists.specs.declared.applications.Application.{Application}
use Rattle.kernel_core.specs.Machine.{Machine}
use Rattle.kernel_core.specs.declared.config.Config.{Config}
use Rattle.mote_session.specs.SessionView.{AwaitedCall, SessionView}
use Rattle.mote_session.specs.Voices.{Voices}
use Rattle.mote_text.specs.EntryText.{line_of}
use Rattle.mote_text.specs.Script.{read_line}
use Rattle.mote_text.specs.declared.script.End.{End}
use Rattle.mote_types.specs.declared.entry.Entry.{Entry}
use Rattle.network_setup.specs.FirstLines.{AreCarriedOut, IsBadLine}
use Rattle.network_setup.specs.MoteLines.{AddsMotes, HasCalls, HasMote, HasName, HaveMotes, MoteLine}
use Rattle.network_setup.specs.ScriptRuns.{EndsAtOnce, IsSetUp}
use Rattle.network_setup.specs.SetUpRuns.{HasRunSetUp, start_of}
use Rattle.network_setup.specs.SetupView.{HasJustBooted, SetupView, empty_setup}
use Rattle.network_setup.specs.declared.fault.SetUpRunFault.{SetUpRunFault}
use Rattle.network_setup.specs.declared.mote_app.MoteApp.{MoteApp}
use Rattle.network_steps.specs.declared.input.NetworkInput.{NetworkInput}

-- ---- the first lines

-- a malformed line is reported by its own number
another_number : IsBadLine 5 (codes "walk" ∷ []) empty_setup → ⊥
another_number bad = absurd bad.2

-- what is left begins with an input, not with another line
nothing_left_out : (old new : SetupView) → AreCarriedOut (codes "walk" ∷ []) (codes "walk" ∷ []) old new → ⊥
unfolding read_line
nothing_left_out old new (inl input) = let e = input.0 in absurd (cc)
nothing_left_out old new (inr executed) = let e = executed.2.0 in absurd (cc)

-- no input is executed before the first one that is left
no_input_taken : (old new : SetupView) → AreCarriedOut (codes "tick 1" ∷ []) [] old new → ⊥
unfolding read_line
no_input_taken old new (inl input) = let e = input.1 in absurd (cc)
no_input_taken old new (inr executed) = let e = executed.1.1 in absurd (cc)

-- the lines that are left have their numbers
another_first : IsSetUp [] 2 [] empty_setup → ⊥
another_first is = let e = is.number in absurd (cc)

-- ---- a mote that has just booted

module _ (config : Config) (mote : SessionView) (booted_now : HasJustBooted config mote) where
  has_worked : mote.machine.clock ≡ 1 → ⊥
  has_worked clock = let same : mote.machine.clock ≡ 0 = ap (λ (m : Machine). m.clock) booted_now.machine in absurd (omega (arith, clock, same))

  has_an_input : mote.inputs ≡ 1 → ⊥
  has_an_input inputs = absurd (omega (arith, inputs, booted_now.history.inputs))

  takes_a_turn : (turn : AwaitedCall) → mote.turn ≡ Some turn → ⊥
  takes_a_turn turn waits = let e : Some turn ≡ None = sym waits ∙ booted_now.turn in absurd (cc)

  has_an_entry : mote.last ≡ Some Entry.Halt → ⊥
  has_an_entry last = let e : Some Entry.Halt ≡ None = sym last ∙ booted_now.history.last booted_now.turn in absurd (cc)

-- ---- lines of motes

-- the first mote has number 1
two_first : (setup : SetupView) → AddsMotes (codes "2 hello") empty_setup setup → ⊥
two_first setup adds =
    let said : 2 ≡ adds.line.span.first = ap (λ (line : Option MoteLine). option_map_or (λ (one : MoteLine). one.span.first) line 0) adds.said in
    let next : adds.line.span.first ≡ 1 = adds.next in absurd (omega (arith, said, next))

-- an application in a box has its own name, and its own list
module _ (box : Box Application) (is : box.value ≡ Application.ClockWatcher) where
  another_name : HasName (codes "hello") (MoteApp.Boxed box) → ⊥
  another_name named = let same : codes "hello" ≡ codes "clock-watcher" = rw is at named in absurd (cc)

  no_list : (text : List ℕ) → HasCalls text (MoteApp.Boxed box) → ⊥
  no_list text calls = rw is at calls

-- one more mote has no links, and changes neither room nor rounds
module _ (words : List (List ℕ)) (calls : Option (List ℕ)) (new : SetupView) (more : HasMote words calls empty_setup new) where
  no_links : new.links ≡ [] → ⊥
  no_links links = let e = sym links ∙ ap (λ (setup : SetupView). setup.links) more.added in absurd (cc)

  same_room : new.room ≡ 1_025 → ⊥
  same_room room = let same : new.room ≡ 1_024 = ap (λ (setup : SetupView). setup.room) more.added in absurd (omega (arith, room, same))

  same_rounds : new.rounds ≡ 0 → ⊥
  same_rounds rounds =
      let same : new.rounds ≡ 16_777_216 = ap (λ (setup : SetupView). setup.rounds) more.added in absurd (omega (arith, rounds, same))

-- no motes change nothing
nothing_more : (words : List (List ℕ)) → HaveMotes 0 words None empty_setup (record empty_setup { room = 8 }) → ⊥
nothing_more words have = let same : ◌≡◌ {A = ℕ} 8 1_024 = ap (λ (setup : SetupView). setup.room) have in absurd (omega (arith, same))

-- ---- how runs end

-- a run that ends at once fails only by a write
no_memory_at_once : EndsAtOnce (End.BadLine 7) [] (Err SetUpRunFault.Memory) → ⊥
no_memory_at_once ends = let e = ends.0 in absurd (cc)

another_end : EndsAtOnce (End.BadLine 7) (codes "too long\n") (Ok End.TooLong) → ⊥
unfolding line_of digits
another_end ends = let e = ends.0 in absurd (cc)

module _ (quiet : Bool) (voices : Voices) (script : List NetworkInput × End) where
  runs : List ℕ → SetUpRunFault → Type 0
  runs written fault = HasRunSetUp quiet (start_of empty_setup) voices script written (Err fault)

  -- nothing is written where memory is refused, and links are refused only where one isn't sound
  written_without_memory : runs (10 ∷ []) SetUpRunFault.Memory → ⊥
  unfolding runs
  written_without_memory none = absurd (cc)

  sound_links : runs [] SetUpRunFault.BadLink → ⊥
  unfolding runs
  sound_links bad = let e = bad.1 in absurd (cc)

  no_mote : (written : List ℕ) → runs written SetUpRunFault.NoMote → ⊥
  unfolding runs
  no_mote written none = none
