-- What an arena ends as, once a `&mut` into it has ended.
use Rattle.std.specs.Prelude.{ℕ, List}
use Rattle.std.specs.Borrow.{Fml, MutBor, Array, u8, Lends, LendsBoth}
use Rattle.arena_core.specs.Code.Contents.{Contents, contents}
use Rattle.arena_core.specs.Code.Written.{written}
use Rattle.arena_core.specs.contracts.arena.Arena.{the_row}

-- a ends with its bytes from at on those last written through r
abbrev pub lends_bytes : MutBor Contents → ℕ → MutBor (List ℕ) → Fml
lends_bytes a at r = Lends the_row (Array u8 0) a r (λ ws. contents (written a.now.bytes at ws) a.now.carved)

-- a ends with its bytes from first on those last written through the first of r, and those from second on those through the second
abbrev pub lends_pair : MutBor Contents → ℕ → ℕ → MutBor (List ℕ) × MutBor (List ℕ) → Fml
lends_pair a first second r =
    LendsBoth the_row (Array u8 0) (Array u8 0) a r (λ ws us. contents (written (written a.now.bytes first ws) second us) a.now.carved)
