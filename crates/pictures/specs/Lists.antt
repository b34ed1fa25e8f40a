-- What accepted calls do to a list of a pool's blocks.
use Rattle.std.specs.Prelude.{ℕ, ◌+◌, not, ◌||◌, ◌==◌, Option, Some, None, List, ◌∷◌, [], ◌++◌, length, filter, position, insert, bytes_eq, codes, if◌then◌else◌}
use Rattle.pictures.specs.declared.facts.chains.ListChange.{ListChange}

-- the list without a block
abbrev pub without : ℕ → List ℕ → List ℕ
without block blocks = filter (λ other. not (other == block)) blocks

-- the position after the one that was found, or the end
abbrev pub after : Option ℕ → ℕ → ℕ
after (Some index) end = index + 1
after None end = end

abbrev pub position_after : ℕ → List ℕ → ℕ
position_after block blocks = after (position (λ other. other == block) blocks) (length blocks)

-- the list after a change: a block that is put into it is removed first
abbrev pub changed : ListChange → List ℕ → List ℕ
changed (ListChange.Append block) blocks = without block blocks ++ block ∷ []
changed (ListChange.Prepend block) blocks = block ∷ without block blocks
changed (ListChange.InsertAfter other block) blocks = insert (without block blocks) (position_after other (without block blocks)) block
changed (ListChange.Remove block) blocks = without block blocks

-- what a call changes, by its word, its first number after the list's and its last one, and the number in its reply
abbrev pub change_by : List ℕ → ℕ → ℕ → ℕ → Option ListChange
change_by word first last reply =
    if bytes_eq word (codes "list-add") then Some (ListChange.Append last)
    else if bytes_eq word (codes "list-push") then Some (ListChange.Prepend last)
    else if bytes_eq word (codes "list-insert") then Some (ListChange.InsertAfter first last)
    else if bytes_eq word (codes "list-remove") then Some (ListChange.Remove last)
    else if bytes_eq word (codes "list-pop") || bytes_eq word (codes "list-chop") then Some (ListChange.Remove reply)
    else None
