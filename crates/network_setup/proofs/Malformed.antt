-- Which words and lists of calls say no mote.
use Rattle.std.proofs.Common.{◌≡◌, ◌≢◌, ◌⊎◌, ◌+◌, ◌∙◌, ℕ, Bool, true, false, ◌&&◌, List, [], ◌∷◌, ◌++◌, length, Option, Some, None, Result, Ok, Err, IsErrAnd, nat_le, ap, append-nil, append_assoc, arith, is_some, refl, subst, sym, if◌then◌else◌}
use Rattle.kernel_core.specs.Machine.{is_bootable}
use Rattle.kernel_core.specs.declared.config.Config.{Config}
use Rattle.network_setup.specs.Code.Setups.{IfMalformed}
use Rattle.network_setup.specs.Code.Words.{AreNamed, IsListLast, IsMoteSaid, TakesWords}
use Rattle.network_setup.specs.MoteLines.{AreSaid, HasCalls, MoteLine, SaysNoMote, SaysNoMotes, config_said, count_said, if_bootable, mote_line, names_said, no_configuration, sizes_said}
use Rattle.network_setup.specs.SetupView.{SetupView, default_config}
use Rattle.network_setup.specs.declared.fault.LineFault.{LineFault}
use Rattle.network_setup.specs.declared.mote_app.MoteApp.{MoteApp}

-- the names one by one, each in its turn after those before it
apart_from : (names : List (List ℕ)) (before all : List MoteApp) → AreNamed names before all →
    (own : List MoteApp) × (all ≡ before ++ own) × AreSaid names None own
apart_from [] before all named = ([], named ∙ sym (append-nil before), tt)
apart_from (name ∷ names) before all named =
    let later = apart_from names (before ++ named.0 ∷ []) all named.2 in
    (named.0 ∷ later.0, later.1 ∙ append_assoc before (named.0 ∷ []) later.0, (named.1, later.2))

and_last : (names : List (List ℕ)) (text : List ℕ) (named : List MoteApp) (last : MoteApp) → AreSaid names None named → HasCalls text last →
    AreSaid names (Some text) (named ++ last ∷ [])
and_last [] text [] last said calls = calls
and_last [] text (app ∷ named) last said calls = absurd said
and_last (name ∷ names) text [] last said calls = absurd said
and_last (name ∷ names) text (app ∷ named) last said calls = (said.0, and_last names text named last said.1 calls)

all_named : (names : List (List ℕ)) (calls : Option (List ℕ)) (named own : List MoteApp) → AreNamed names [] named →
    IsListLast calls named own → AreSaid names calls own
all_named names None named own are list =
    let apart = apart_from names [] named are in
    subst (AreSaid names None) (sym (list ∙ apart.1)) apart.2
all_named names (Some text) named own are list =
    let apart = apart_from names [] named are in
    let said = subst (AreSaid names None) (sym apart.1) apart.2 in
    subst (AreSaid names (Some text)) (sym list.2) (and_last names text named list.0 said list.1)

count_of : (names : List (List ℕ)) (calls : Option (List ℕ)) (own : List MoteApp) → AreSaid names calls own →
    length own ≡ length names + (if is_some calls then 1 else 0)
count_of [] None [] said = refl
count_of [] None (app ∷ own) said = absurd said
count_of [] (Some text) [] said = absurd said
count_of [] (Some text) (last ∷ []) said = refl
count_of [] (Some text) (last ∷ app ∷ own) said = absurd said
count_of (name ∷ names) calls [] said = absurd said
count_of (name ∷ names) calls (app ∷ own) said = omega (arith, count_of names calls own said.1)

-- as many applications as are said
pub is_count : (words : List (List ℕ)) (calls : Option (List ℕ)) (own : List MoteApp) → AreSaid (names_said None words) calls own →
    length own ≡ count_said words calls
is_count words calls own said = count_of (names_said None words) calls own said

no_and : (b : Bool) → (b && false) ≡ false
no_and true = refl
no_and false = refl

if_so : (config : Config) → is_bootable config ≡ true → if_bootable config ≡ Some config
if_so config boots = rw boots refl

pub is_said : (words : List (List ℕ)) (calls : Option (List ℕ)) (config : Config) (own : List MoteApp) → IsMoteSaid words calls config own →
    is_bootable config ≡ true → config_said words calls ≡ Some config
is_said words calls config own mote boots =
    rw mote.said (subst (λ (c : Config). if_bootable c ≡ Some config) mote.is (if_so config boots))

pub too_many : (words : List (List ℕ)) (calls : Option (List ℕ)) (sizes : Config) (own : List MoteApp) → AreSaid (names_said None words) calls own →
    sizes_said None words default_config ≡ Some sizes → nat_le (length own) 16 ≡ false → SaysNoMote words calls
too_many words calls sizes own said is many =
    let count = is_count words calls own said in
    let over : nat_le (count_said words calls) 16 ≡ false = rw (← count) many in
    let none : config_said words calls ≡ None = rw (is, over, no_and _) refl in
    no_configuration none

-- why a line of this form says no motes
pub no_motes : (text : List ℕ) (setup : SetupView) (line : MoteLine) → mote_line text ≡ Some line →
    (line.span.first ≢ length setup.motes + 1) ⊎ SaysNoMote line.words line.calls → SaysNoMotes text setup
no_motes text setup line is why = rw is why

weaker : (B : Type 0) {P Q : Type 0} (fault : LineFault) → (P → Q) → IfMalformed {A = B} (Err fault) P → IfMalformed {A = B} (Err fault) Q
weaker B LineFault.Malformed why is = why is
weaker B LineFault.Memory why is = tt

-- a fault that is handed on, and why it is one
pub passed_on : {B P Q : Type 0} (result : Result B LineFault) (fault : LineFault) → IsErrAnd result (λ (handed : LineFault). handed ≡ fault) →
    (P → Q) → IfMalformed {A = B} (Err fault) P → IfMalformed result Q
passed_on (Ok x) fault is why malformed = absurd is
passed_on {B} {Q = Q} (Err handed) fault is why malformed =
    subst (λ (f : LineFault). IfMalformed {A = B} (Err f) Q) (sym is) (weaker B fault why malformed)

-- the words are taken, and then the list
pub are_said : (words : List (List ℕ)) (calls : Option (List ℕ)) (before after : Config) (old named own : List MoteApp) → old ≡ [] →
    TakesWords words [] None before after old named → IsListLast calls named own → AreSaid (names_said None words) calls own
are_said words calls before after old named own none taken last =
    let are = subst (λ (first : List MoteApp). AreNamed (names_said None words) first named) none (taken.names named refl) in
    all_named (names_said None words) calls named own are last

pub all_said : (words : List (List ℕ)) (calls : Option (List ℕ)) (sizes : Config) (count : ℕ) (own : List MoteApp) → AreSaid (names_said None words) calls own →
    sizes_said None words default_config ≡ Some sizes → count ≡ length own → IsMoteSaid words calls (record sizes { apps = count }) own
all_said words calls sizes count own said is many = record {
  sizes = sizes;
  said = is;
  is = ap (λ (n : ℕ). record sizes { apps = n }) (many ∙ is_count words calls own said);
  applications = said;
}
