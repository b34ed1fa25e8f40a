-- Calls that post an event.
use Rattle.std.specs.Prelude.{◌≡◌, ℕ, Option, Some, None, List, ◌++◌, codes}
use Rattle.std.specs.List.{before_first}
use Rattle.std.specs.Str.Parse.{digits_value, without_leading_plus}
use Rattle.pictures.specs.Words.{is_space}

-- the call posts an event, its code and what it carries, to all or to the process whose number is the first word after `post`
pub data Posts : List ℕ → Option ℕ → List ℕ → Type 0 where
  to_all : (event : List ℕ) → Posts (codes "broadcast " ++ event) None event
  to_one : (word event : List ℕ) → word ≡ before_first is_space (word ++ codes " " ++ event)
      → Posts (codes "post " ++ word ++ codes " " ++ event) (Some (digits_value 10 (without_leading_plus word))) event
