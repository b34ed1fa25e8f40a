-- The words of a call in a text.
use Rattle.std.specs.Prelude.{ℕ, List, ◌++◌, flat_map, codes}
use Rattle.mote_text.specs.EntryText.{Word}

-- a space before each word
unfoldable pub spaced : List Word → List ℕ
spaced words = flat_map (λ word. codes " " ++ word) words
