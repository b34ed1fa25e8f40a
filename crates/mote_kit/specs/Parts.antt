-- The parts of a file, each with one run.
use Rattle.std.specs.Prelude.{◌≡◌, ℕ, List, None}
use Rattle.mote_kit.specs.declared.run_file.parts.Part.{Part}

-- a part of the file with this path and text: all of it, where it has no name
abbrev pub IsPartOf : List ℕ → List ℕ → Part → Type 0
IsPartOf path text part = (part.path.now ≡ path) × (part.name ≡ None → (part.first_line ≡ 1) × (part.lines.now ≡ text))
