-- The names of applications as the code stores them.
use Rattle.std.specs.Prelude.{ℕ, Bool, List, Option, Some, None, find, length, nat_lt, if◌then◌else◌}
use Rattle.std.specs.Borrow.{Bor}
use Rattle.command_line.specs.CommandLine.{is_unknown}
use Rattle.command_line.specs.declared.refusal.Refusal.{Refusal}

-- a name, as it was lent
abbrev pub Name : Type 0
Name = Bor (List ℕ)

abbrev pub refusal_with : Option Name → ℕ → Option Refusal
refusal_with (Some unknown) count = Some (Refusal.NoApplication unknown)
refusal_with None count = if nat_lt 16 count then Some Refusal.TooManyApplications else None

module _ {A : Type 0} (by_name : List ℕ → Option A) where
  abbrev pub application_of : Name → Option A
  application_of name = by_name name.now

  abbrev pub is_strange : Name → Bool
  is_strange name = is_unknown by_name name.now

  -- what is wrong with the names: first one that no application has, then that they are too many
  abbrev pub refusal_of : List Name → Option Refusal
  refusal_of names = refusal_with (find is_strange names) (length names)
