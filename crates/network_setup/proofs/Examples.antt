-- Worked examples: the links and the motes that a line adds, and which lines are malformed.
use Rattle.std.specs.Fmt.{digits}
use Rattle.std.proofs.Common.{◌≡◌, ℕ, ◌-◌, ◌^◌, List, [], ◌∷◌, Option, Some, None, Ok, true, false, arith, codes, inl, inr, refl, replicate}
use Rattle.medium_core.specs.declared.link.Fate.{Fate}
use Rattle.medium_core.specs.declared.link.Link.{Link}
use Rattle.medium_core.specs.declared.link.Loss.{Loss}
use Rattle.mote_text.specs.EntryText.{line_of}
use Rattle.mote_text.specs.Script.{read_line}
use Rattle.mote_text.specs.declared.script.End.{End}
use Rattle.network_setup.specs.FirstLines.{AreCarriedOut, IsBadLine, IsMalformed}
use Rattle.network_setup.specs.Lines.{links_said, words_of}
use Rattle.network_setup.specs.MoteLines.{OneIsUnknown, config_said, mote_line, names_said, sizes_said}
use Rattle.network_setup.specs.ScriptRuns.{EndsAtOnce, is_there}
use Rattle.network_setup.specs.Setting.{is_fit, next_loss}
use Rattle.network_setup.specs.SetupView.{default_config, empty_setup}
use Rattle.network_setup.specs.Shapes.{grid_links, is_shape, line_links, linked, mesh_links, ring_links, with_shape}
use Rattle.network_setup.specs.declared.carriage.Carriage.{Carriage}
use Rattle.network_setup.specs.declared.shape.Shape.{Shape}

-- `line 2..4`
a_line : line_links 2 4 ≡ (2, 3) ∷ (3, 2) ∷ (3, 4) ∷ (4, 3) ∷ []
a_line = refl

-- a line of one mote has no links
one_mote : line_links 5 5 ≡ []
one_mote = refl

-- `ring 1..3`
a_ring : ring_links 1 3 ≡ (1, 2) ∷ (2, 1) ∷ (2, 3) ∷ (3, 2) ∷ (3, 1) ∷ (1, 3) ∷ []
a_ring = refl

-- `mesh 1..3`
a_mesh : mesh_links 1 3 ≡ (1, 2) ∷ (2, 1) ∷ (1, 3) ∷ (3, 1) ∷ (2, 3) ∷ (3, 2) ∷ []
a_mesh = refl

-- `grid 1..5 width 3`: 1 2 3 above 4 5
a_grid : grid_links 1 5 3 ≡ (1, 2) ∷ (2, 1) ∷ (1, 4) ∷ (4, 1) ∷ (2, 3) ∷ (3, 2) ∷ (2, 5) ∷ (5, 2) ∷ (4, 5) ∷ (5, 4) ∷ []
a_grid = refl

-- `grid 4..7 width 2`: 4 5 above 6 7
a_square : grid_links 4 7 2 ≡ (4, 5) ∷ (5, 4) ∷ (4, 6) ∷ (6, 4) ∷ (5, 7) ∷ (7, 5) ∷ (6, 7) ∷ (7, 6) ∷ []
a_square = refl

-- a grid of one column is a line
a_column : grid_links 1 3 1 ≡ line_links 1 3
a_column = refl

lot : ℕ → Loss
lot seed = Loss.ByLot 100 seed

-- a link to the first mote is a link to 0 in the lists
to_first : ℕ → Link
to_first seed = record { to = 0; delay = 2; loss = Loss.ByLot 100 seed; last = Fate.Unused }

to_second : ℕ → Link
to_second seed = record { to = 1; delay = 2; loss = Loss.ByLot 100 seed; last = Fate.Unused }

-- `line 1..2 delay 2 lot 100 seed 7`, and the same once more: new links come after the other ones
seeds : with_shape (Shape.Line (record { first = 1; last = 2 })) (record { delay = 2; loss = lot 7 }) ([] ∷ (to_first 1 ∷ []) ∷ [])
    ≡ Some ((to_second 7 ∷ []) ∷ (to_first 1 ∷ to_first 8 ∷ []) ∷ [])
unfolding lot to_first to_second
seeds = refl

last_seed : next_loss (Loss.ByLot 9 (2 ^ 64 - 1)) ≡ Loss.ByLot 9 0
last_seed = refl

-- what there isn't: a ring of two, motes that there aren't, a row of no motes
no_shapes : (is_shape 3 (Shape.Ring (record { first = 2; last = 3 })) ≡ false)
    × (is_shape 3 (Shape.Ring (record { first = 1; last = 3 })) ≡ true)
    × (is_shape 3 (Shape.Mesh (record { first = 1; last = 4 })) ≡ false)
    × (is_shape 3 (Shape.Line (record { first = 4; last = 4 })) ≡ false)
    × (is_shape 3 (Shape.Grid (record { first = 1; last = 3 }) 0) ≡ false)
no_shapes = (refl, refl, refl, refl, refl)

-- links that can't be set up: to or from a mote that there isn't, with a delay of 0, or with a rule that isn't sound
no_links : (is_fit 3 1 4 (record { delay = 1; loss = Loss.Never }) ≡ false)
    × (is_fit 3 0 1 (record { delay = 1; loss = Loss.Never }) ≡ false)
    × (is_fit 3 1 3 (record { delay = 0; loss = Loss.Never }) ≡ false)
    × (is_fit 3 1 3 (record { delay = 1; loss = Loss.EveryNth 0 0 }) ≡ false)
    × (is_fit 3 1 3 (record { delay = 1; loss = Loss.ByLot 65537 0 }) ≡ false)
    × (is_fit 3 1 3 (record { delay = 1; loss = Loss.ByLot 65536 0 }) ≡ true)
no_links = (refl, refl, refl, refl, refl, refl)

-- one of the links is enough for the line to be malformed
no_line : linked ((1, 2) ∷ (2, 4) ∷ []) (record { delay = 1; loss = Loss.Never }) ([] ∷ [] ∷ [] ∷ []) ≡ None
no_line = refl

-- what the words of a line say
said : List ℕ → List ℕ → Option (Shape × Carriage)
said word rest = links_said word (words_of rest)

a_link : said (codes "link") (codes "1 2 delay 3") ≡ Some (Shape.Link 1 2, record { delay = 3; loss = Loss.Never })
unfolding said
a_link = refl

-- the first ones of four get through
a_rule : said (codes "line") (codes "1..3 delay 2 every 4") ≡ Some (Shape.Line (record { first = 1; last = 3 }), record { delay = 2; loss = Loss.EveryNth 4 3 })
unfolding said
a_rule = refl

a_width : said (codes "grid") (codes "1..9 width 3 delay 1 lot 6553 seed 42")
    ≡ Some (Shape.Grid (record { first = 1; last = 9 }) 3, record { delay = 1; loss = Loss.ByLot 6553 42 })
unfolding said
a_width = refl

-- malformed lines: two spaces, a 0 in front, no delay, a word too many, a rule without its number, motes from 0 or backwards
malformed : (said (codes "link") (codes "1  2 delay 3") ≡ None) × (said (codes "link") (codes "1 02 delay 3") ≡ None)
    × (said (codes "link") (codes "1 2") ≡ None) × (said (codes "link") (codes "1 2 delay 3 4") ≡ None)
    × (said (codes "link") (codes "1 2 delay 3 every") ≡ None) × (said (codes "mesh") (codes "0..2 delay 3") ≡ None)
    × (said (codes "mesh") (codes "3..2 delay 3") ≡ None) × (said (codes "star") (codes "1..2 delay 3") ≡ None)
unfolding said
malformed = (refl, refl, refl, refl, refl, refl, refl, refl)

-- a delay of 0 and a rule that isn't sound, also where a line adds no link
no_carriage : (said (codes "line") (codes "5 delay 0") ≡ None) × (said (codes "mesh") (codes "5 delay 1 every 0") ≡ None)
unfolding said
no_carriage = (refl, refl)

-- what is said after `mote `
some_motes : mote_line (codes "3..4 blink --mmem 64 echo calls wait")
    ≡ Some (record {
      span = record { first = 3; last = 4 };
      words = words_of (codes "blink --mmem 64 echo");
      calls = Some (codes "wait");
    })
some_motes = refl

a_mote : mote_line (codes "7") ≡ Some (record { span = record { first = 7; last = 7 }; words = []; calls = None })
a_mote = refl

no_calls : mote_line (codes "1 calls") ≡ Some (record { span = record { first = 1; last = 1 }; words = []; calls = Some [] })
no_calls = refl

-- no motes: backwards, from 0, a space without a list, a word that begins with `calls`
no_motes : (mote_line (codes "2..1 blink") ≡ None) × (mote_line (codes "0 blink") ≡ None) × (mote_line (codes "1 calls ") ≡ None)
    × (mote_line (codes "1 callsign") ≡ None)
no_motes = (refl, refl, refl, refl)

sizes : sizes_said None (words_of (codes "blink --mmem 64 echo --quota 8")) default_config
    ≡ Some (record default_config { mmem = 64; quota = Some 8 })
sizes = refl

-- an option without its number, one that there isn't, a number that isn't one
no_sizes : (sizes_said None (words_of (codes "blink --mmem")) default_config ≡ None)
    × (sizes_said None (words_of (codes "--rom 8")) default_config ≡ None)
    × (sizes_said None (words_of (codes "--heap 08")) default_config ≡ None)
no_sizes = (refl, refl, refl)

names : names_said None (words_of (codes "blink --mmem 64 echo")) ≡ codes "blink" ∷ codes "echo" ∷ []
names = refl

-- the list of calls is one more application
a_config : config_said (words_of (codes "blink --mmem 64 echo")) (Some (codes "wait")) ≡ Some (record default_config { mmem = 64; apps = 3 })
a_config = refl

-- sizes that no mote has, and a seventeenth application
no_config : (config_said (words_of (codes "--mmem 63")) None ≡ None) × (config_said (words_of (codes "--quota 0")) None ≡ None)
    × (config_said (replicate 17 (codes "hello")) None ≡ None) × (config_said (replicate 16 (codes "hello")) (Some (codes "wait")) ≡ None)
no_config = (refl, refl, refl, refl)

-- one name is enough
unknown : OneIsUnknown (codes "hello" ∷ codes "walk" ∷ [])
unknown = inr (inl (refl, λ same. absurd (cc)))

-- a line of the second mote where there is no first one, of no words, and of a link to no mote
malformed_lines : IsMalformed (codes "mote 2 hello") empty_setup × IsMalformed (codes "walk") empty_setup
    × IsMalformed (codes "link 1 2 delay 3") empty_setup
unfolding read_line
malformed_lines = (inr (refl, refl, inl (λ same. absurd (cc))), inr (refl, refl, refl), inr (refl, refl, refl))

-- the second of these lines is malformed, as the first one is blank
second_line : IsBadLine 2 (codes "# motes" ∷ codes "walk" ∷ []) empty_setup
unfolding read_line lib.Utf8.encode
second_line = (empty_setup, ((omega arith, (codes "# motes", (refl, refl))), refl, refl), inr (refl, refl, refl))

-- lines from an input on are left, also a malformed one
an_input : AreCarriedOut (codes "tick 1" ∷ codes "walk" ∷ []) (codes "tick 1" ∷ codes "walk" ∷ []) empty_setup empty_setup
unfolding read_line
an_input = inl (refl, refl, refl)

-- a mote that is asked for, and no mote
there : (is_there (Some 3) 3 ≡ true) × (is_there (Some 4) 3 ≡ false) × (is_there (Some 0) 3 ≡ false) × (is_there None 0 ≡ true)
there = (refl, refl, refl, refl)

at_once : EndsAtOnce (End.BadLine 7) (codes "bad line 7\n") (Ok (End.BadLine 7))
unfolding line_of digits
at_once = (refl, refl)
