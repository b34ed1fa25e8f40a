-- Words of a mote's line, and lines, that are taken.
use denote.Ref.{Bor}
use Rattle.std.specs.Prelude.{◌≡◌, ◌⊎◌, ℕ, List, [], ◌∷◌, ◌++◌, Option, None, Some, MatchOption}
use Rattle.call_lists.specs.Faults.{IsNoList}
use Rattle.call_lists.specs.declared.applications.Application.{Application}
use Rattle.kernel_core.specs.declared.config.Config.{Config}
use Rattle.network_setup.specs.FirstLines.{IsText}
use Rattle.network_setup.specs.Lines.{words_of}
use Rattle.network_setup.specs.MoteLines.{AreSaid, HasCalls, HasName, OneIsUnknown, count_said, names_said, sizes_said}
use Rattle.network_setup.specs.SetupView.{default_config}
use Rattle.network_setup.specs.declared.mote_app.MoteApp.{MoteApp}
use Rattle.network_setup.specs.declared.shape.Kind.{Kind}
use Rattle.network_setup.specs.declared.shape.Shape.{Shape}
use Rattle.network_setup.specs.declared.words.Span.{Span}

-- after these applications those of the names, in their order, are all
abbrev pub AreNamed : List (List ℕ) → List MoteApp → List MoteApp → Type 0
AreNamed [] before all = all ≡ before
AreNamed (name ∷ names) before all = (next : MoteApp) × HasName name next × AreNamed names (before ++ next ∷ []) all

-- and after them the one of the list of calls, if there is a list
abbrev pub IsListLast : Option (List ℕ) → List MoteApp → List MoteApp → Type 0
IsListLast None named all = all ≡ named
IsListLast (Some text) named all = (last : MoteApp) × HasCalls text last × (all ≡ named ++ last ∷ [])

-- the word was taken after this option, and the next option is left for the words after it
pub record TakesWord (option next : Option (List ℕ)) (word : List ℕ) (before after : Config) (old new : List MoteApp) : Type 0 where
  pub sizes : (words : List (List ℕ)) → sizes_said option (word ∷ words) before ≡ sizes_said next words after
  pub names : (words : List (List ℕ)) (all : List MoteApp) → AreNamed (names_said next words) new all →
      AreNamed (names_said option (word ∷ words)) old all
  pub unknown : (words : List (List ℕ)) → OneIsUnknown (names_said next words) → OneIsUnknown (names_said option (word ∷ words))

-- so it is of some words
pub record TakesWords (taken words : List (List ℕ)) (option : Option (List ℕ)) (before after : Config) (old new : List MoteApp) : Type 0 where
  pub sizes : sizes_said None taken before ≡ sizes_said option words after
  pub names : (all : List MoteApp) → AreNamed (names_said option words) new all → AreNamed (names_said None taken) old all
  pub unknown : OneIsUnknown (names_said option words) → OneIsUnknown (names_said None taken)

-- these words after an option say no sizes, or name what there isn't
abbrev pub AreBadWords : Option (List ℕ) → List (List ℕ) → Config → Type 0
AreBadWords option words before = (sizes_said option words before ≡ None) ⊎ OneIsUnknown (names_said option words)

-- the word is bad, whatever comes after it
abbrev pub IsBadWord : Option (List ℕ) → List ℕ → Config → Type 0
IsBadWord option word before = (words : List (List ℕ)) → AreBadWords option (word ∷ words) before

-- a mote's configuration, as yet not booted, and its applications
pub record IsMoteSaid (words : List (List ℕ)) (calls : Option (List ℕ)) (config : Config) (own : List MoteApp) : Type 0 where
  pub sizes : Config
  pub said : sizes_said None words default_config ≡ Some sizes
  pub is : config ≡ record sizes { apps = count_said words calls }
  pub applications : AreSaid (names_said None words) calls own

-- if there is a list of calls, it isn't one
abbrev pub IsBadList : Option (List ℕ) → Type 0
IsBadList calls = (text : List ℕ) × (calls ≡ Some text) × IsNoList text

-- the application in a box
abbrev pub IsBoxed : Application → MoteApp → Type 0
IsBoxed application (MoteApp.Bundled bundled) = ⊥
IsBoxed application (MoteApp.Boxed boxed) = boxed.value ≡ application

-- the words of a text, if there is one
abbrev pub words_in : Option (List ℕ) → List (List ℕ)
words_in None = []
words_in (Some text) = words_of text

-- the shape of these motes
abbrev pub shape_of : Kind → Span → Shape
shape_of Kind.Line span = Shape.Line span
shape_of Kind.Ring span = Shape.Ring span
shape_of Kind.Mesh span = Shape.Mesh span

-- of these lines the first one is taken; it may be no text
pub record IsNextLine (text : Option (Bor (List ℕ))) (lines rest : List (List ℕ)) : Type 0 where
  pub line : List ℕ
  pub first : lines ≡ line ∷ rest
  pub told : MatchOption text (¬ IsText line) (λ told. (told.now ≡ line) × IsText line)
