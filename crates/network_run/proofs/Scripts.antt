-- A script's lines, one after the other.
use Rattle.std.proofs.Common.{map, ◌≡◌, ◌+◌, ◌-◌, ◌<◌, ◌==◌, ℕ, Bool, true, false, List, [], ◌∷◌, ◌++◌, length, refl, ap, sym, subst, ◌∙◌, if◌then◌else◌, append_assoc, append-nil, arith, Option, None, Some, ◌||◌, nat_lt, slice_index, inl, inr}
use Rattle.std.proofs.lemmas.Bool.Decides.{nat_tests}
use Rattle.std.proofs.lemmas.List.Elements.{filter_map-append}
use Rattle.mote_text.specs.Script.{line_limit}
use Rattle.mote_text.specs.Script.{script_lines}
use Rattle.mote_text.specs.declared.script.End.{End}
use Rattle.mote_types.specs.declared.entry.Input.{Input}
use Rattle.network_run.specs.Code.Way.{ComesWith, Ends, Faulted, HasCome, IsFor, IsWithTime, Moment, RunFaulted, Takes, Went}
use Rattle.network_run.specs.NetworkRunText.{CanEnd, IsExhausted}
use Rattle.network_run.specs.declared.fault.NetworkRunFault.{NetworkRunFault}
use Rattle.network_run.specs.Outside.{AreInTurn, Outside, given_of, givens}
use Rattle.network_run.proofs.Lengths.{leads_length}
use Rattle.network_run.proofs.Ways.{all_carried, faulted_after, faulted_before, stopped_after, stopped_before, went_nowhere, went_on}
use Rattle.network_steps.specs.NetworkRuns.{IsResting}
use Rattle.network_steps.specs.NetworkScript.{if_for_some, is_for_some, read_network_input, read_network_line, read_network_lines, with_network_line}
use Rattle.network_steps.specs.declared.input.NetworkInput.{NetworkInput}

abbrev Script : Type 0
Script = List NetworkInput × End

-- an input for a mote that exists
number_is : (motes number : ℕ) (input : Input) → is_for_some motes (NetworkInput.ForMote number input) ≡ true → number - 1 + 1 ≡ number
number_is motes number input some = grind (arith, nat_tests)

pub mote_there : (motes number : ℕ) (said : NetworkInput) (input : Input) → said ≡ NetworkInput.ForMote number input → is_for_some motes said ≡ true →
    number - 1 < motes
mote_there motes number said input is some =
    let here : is_for_some motes (NetworkInput.ForMote number input) ≡ true = rw is at some in grind (arith, nat_tests)

read_so : (motes : ℕ) (input said : NetworkInput) (is : Bool) → is_for_some motes said ≡ is → Some (Some input) ≡ (if is then Some (Some said) else None) →
    is_for_some motes input ≡ true
read_so motes input said true some e = let same : input ≡ said = cc in rw same some
read_so motes input said false some e = absurd (cc)

read_by : (motes : ℕ) (input : NetworkInput) (long blank : Bool) (said : Option NetworkInput) →
    Some (Some input) ≡ (if long then None else if blank then Some None else if_for_some motes said) → is_for_some motes input ≡ true
read_by motes input true blank said e = absurd (cc)
read_by motes input false true said e = absurd (cc)
read_by motes input false false None e = absurd (cc)
read_by motes input false false (Some said) e = read_so motes input said (is_for_some motes said) refl e

pub read_for_some : (motes : ℕ) (line : List ℕ) (input : NetworkInput) → Some (Some input) ≡ read_network_line motes line → is_for_some motes input ≡ true
read_for_some motes line input e =
    read_by motes input (nat_lt line_limit (length line)) (length line == 0 || slice_index line 0 == 35) (read_network_input line) e

-- ---- what comes in turn

-- inputs with no time before them
abbrev pub all_given : List NetworkInput → List Outside
all_given inputs = map Outside.Given inputs

pub given_all : (inputs : List NetworkInput) → givens (all_given inputs) ≡ inputs
given_all [] = refl
given_all (input ∷ inputs) = ap (λ (later : List NetworkInput). input ∷ later) (given_all inputs)

pub given_in_turn : (inputs : List NetworkInput) → AreInTurn (all_given inputs)
given_in_turn [] = tt
given_in_turn (input ∷ inputs) = given_in_turn inputs

in_turn_with : (m : ℕ) (input : NetworkInput) (more : List Outside) → IsFor m input → AreInTurn more → AreInTurn (Outside.Time m ∷ Outside.Given input ∷ more)
in_turn_with m (NetworkInput.ForMote number input) more is turn = (is, turn)
in_turn_with m (NetworkInput.Tick ticks) more is turn = absurd is

-- an input with the time before it, and more
with_more : (input : NetworkInput) (outside more : List Outside) → IsWithTime input outside → AreInTurn more → AreInTurn (outside ++ more)
with_more input outside more is turn =
    elim is.2 [
      | inl none ↦ rw (is.1, none) turn
      | inr told ↦ rw (is.1, told.1) (in_turn_with told.0 input more told.2 turn)
    ]

given_with_time : (input : NetworkInput) (outside : List Outside) → IsWithTime input outside → givens outside ≡ input ∷ []
given_with_time input outside is =
    elim is.2 [
      | inl none ↦ rw (is.1, none) refl
      | inr told ↦ rw (is.1, told.1) refl
    ]

pub no_time : (input : NetworkInput) → IsWithTime input (Outside.Given input ∷ [])
no_time input = ([], refl, inl refl)

-- the input of a line, for a mote that there is
pub said_as : (P : NetworkInput → Type 0) (said : NetworkInput) (number : ℕ) (input : Input) (motes : ℕ) → said ≡ NetworkInput.ForMote number input →
    is_for_some motes said ≡ true → P (NetworkInput.ForMote (number - 1 + 1) input) → P said
said_as P said number input motes is some p =
    let n = number_is motes number input (subst (λ (i : NetworkInput). is_for_some motes i ≡ true) is some) in
    subst P (ap (λ (k : ℕ). NetworkInput.ForMote k input) n ∙ sym is) p

module _ (quiet : Bool) where
  pub line_is : {script : Script} {from here : Moment} (n : ℕ) (line : List ℕ) (said : Option (Option NetworkInput)) (later : Script) →
      HasCome quiet script (with_network_line n (read_network_line (length from.net.motes) line) later) from here →
      said ≡ read_network_line (length here.net.motes) line → HasCome quiet script (with_network_line n said later) from here
  line_is {script} {from} {here} n line said later come is =
      let same : length here.net.motes ≡ length from.net.motes = leads_length come.went.moves from.net here.net come.went.leads in
      subst (λ (o : Option (Option NetworkInput)). HasCome quiet script (with_network_line n o later) from here)
      (sym (is ∙ ap (λ (motes : ℕ). read_network_line motes line) same)) come

  pub come_nowhere : (script : Script) (here : Moment) → HasCome quiet script script here here
  come_nowhere script here =
      record { earlier = []; inputs = refl; in_turn = λ more turn. turn; ends = refl; went = went_nowhere quiet here }

  pub come_on : {script : Script} {input : NetworkInput} (later : Script) {from here to : Moment} (outside : List Outside) →
      HasCome quiet script (input ∷ later.0, later.1) from here → IsWithTime input outside → Went quiet outside here to →
      HasCome quiet script later from to
  come_on {input = input} later outside come is went = record {
    earlier = come.earlier ++ outside;
    inputs = come.inputs ∙ (ap (λ (v : List NetworkInput). givens come.earlier ++ (v ++ later.0)) (sym (given_with_time input outside is))
        ∙ (sym (append_assoc (givens come.earlier) (givens outside) later.0)
        ∙ ap (λ (v : List NetworkInput). v ++ later.0) (sym (filter_map-append given_of come.earlier outside))));
    in_turn = λ more turn. subst AreInTurn (sym (append_assoc come.earlier outside more))
        (come.in_turn (outside ++ more) (with_more input outside more is turn));
    ends = come.ends;
    went = went_on quiet come.went went;
  }

  -- no input is left
  pub ends_as : {script : Script} {said : End} (end : End) {from here : Moment} → HasCome quiet script ([], said) from here →
      CanEnd here.net [] script.1 end → Ends quiet script end from here
  ends_as end {here = here} come can = record {
    outside = come.earlier;
    comes = record {
      given = come.inputs ∙ append-nil (givens come.earlier);
      in_turn = subst AreInTurn (append-nil come.earlier) (come.in_turn [] tt);
    };
    left = [];
    can = can;
    stopped = all_carried quiet here.due come.went;
  }

  pub ends_bad : {script : Script} {n : ℕ} {from here : Moment} → HasCome quiet script ([], End.BadLine n) from here → IsResting here.net →
      Ends quiet script (End.BadLine n) from here
  ends_bad {n = n} come rests = ends_as (End.BadLine n) come (record { rests = rests; none_left = refl; says = come.ends })

  -- no bytes are left
  pub ends_finished : {script : Script} (motes n : ℕ) (rest : List ℕ) {from here : Moment} → rest ≡ [] →
      HasCome quiet script (read_network_lines motes n (script_lines rest)) from here → IsResting here.net → Ends quiet script End.Finished from here
  ends_finished {script} motes n rest {from} {here} none came rests =
      let come : HasCome quiet script ([], End.Finished) from here =
      subst (λ (bytes : List ℕ). HasCome quiet script (read_network_lines motes n (script_lines bytes)) from here) none came in
      ends_as End.Finished come (record { rests = rests; none_left = refl; says = come.ends })

  -- what comes with the inputs of a run that stops amid one
  amid : {script : Script} {input : NetworkInput} (later : Script) {from here : Moment} (outside : List Outside) →
      (come : HasCome quiet script (input ∷ later.0, later.1) from here) → IsWithTime input outside →
      ComesWith script.0 (come.earlier ++ (outside ++ all_given later.0))
  amid {input = input} later outside come is = record {
    given = come.inputs
        ∙ (ap (λ (v : List NetworkInput). givens come.earlier ++ v)
        (ap (λ (v : List NetworkInput). v ++ later.0) (sym (given_with_time input outside is))
        ∙ (ap (λ (v : List NetworkInput). givens outside ++ v) (sym (given_all later.0)) ∙ sym (filter_map-append given_of outside (all_given later.0))))
        ∙ sym (filter_map-append given_of come.earlier (outside ++ all_given later.0)));
    in_turn = come.in_turn (outside ++ all_given later.0) (with_more input outside (all_given later.0) is (given_in_turn later.0));
  }

  pub ends_halted : {script : Script} {input : NetworkInput} (later : Script) {rests : Bool} {from here to : Moment} (outside : List Outside) →
      HasCome quiet script (input ∷ later.0, later.1) from here → IsWithTime input outside → Takes quiet outside rests here to → IsExhausted to.net →
      Ends quiet script End.Halted from to
  ends_halted later outside come is takes exhausted = record {
    outside = come.earlier ++ (outside ++ all_given later.0);
    comes = amid later outside come is;
    left = takes.left ++ all_given later.0;
    can = exhausted;
    stopped = stopped_after quiet come.went (stopped_before quiet (all_given later.0) takes.stopped);
  }

  pub faulted_in : {script : Script} {input : NetworkInput} (later : Script) {fault : NetworkRunFault} {from here to : Moment} (outside : List Outside) →
      HasCome quiet script (input ∷ later.0, later.1) from here → IsWithTime input outside → Faulted quiet outside fault here to →
      RunFaulted quiet script.0 fault from to
  faulted_in later outside come is faulted = record {
    outside = come.earlier ++ (outside ++ all_given later.0);
    comes = amid later outside come is;
    faulted = faulted_after quiet come.went (faulted_before quiet (all_given later.0) faulted);
  }
