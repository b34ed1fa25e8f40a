use Rattle.std.proofs.Common.{◌≡◌, ◌++◌, ◌∷◌, [], List, ℕ, map, flat_map, string_bytes}
use Rattle.std.specs.Str.Iter.{split_inclusive_text}
use Rattle.mote_kit.proofs.run_file.new_lines.NewLines.of.Given as goal

abbrev pub invariant-loop-line : goal.invariant-loop-line
invariant-loop-line l =
    ((rest : List (List ℕ)) × (map string_bytes l.new.lines.items ≡ [] ∷ rest))
    × (flat_map string_bytes l.new.lines.items ++ split_inclusive_text l.line-iterator ≡ l.text)
