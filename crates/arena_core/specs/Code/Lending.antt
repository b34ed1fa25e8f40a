-- What the block ends as, once a `&mut` into it has ended.
use Rattle.std.specs.Prelude.{◌≡◌, ℕ, List, length}
use Rattle.std.specs.Borrow.{Fml, MutBor, Array, u8, Lends}
use Rattle.std.proofs.Common.{sym, ◌∙◌, arith, length-append, length-take, length-drop}
use Rattle.arena_core.specs.Code.Written.{written}
use Rattle.arena_core.specs.declared.block.Block.{Block}
use Rattle.arena_core.specs.contracts.block.Block.{the_row}

-- a write keeps the number of bytes
pub length-written : (xs : List ℕ) (at : ℕ) (ws : List ℕ) → length (written xs at ws) ≡ length xs
length-written xs at ws = grind (arith, length-take, length-append, length-drop)

-- the same block with other bytes
abbrev pub with_bytes : (b : Block) (ys : List ℕ) → length ys ≡ length b.bytes → Block
with_bytes b ys e = record { ptr = b.ptr; len = b.len; bytes = ys; ok = (b.ok.0 ∙ sym e, b.ok.1) }

-- the same block after a write to a range
abbrev pub with_range : Block → ℕ → List ℕ → Block
with_range b at ws = with_bytes b (written b.bytes at ws) (length-written b.bytes at ws)

-- b ends with its bytes from at on those last written through r
abbrev pub lends_range : MutBor Block → ℕ → MutBor (List ℕ) → Fml
lends_range b at r = Lends the_row (Array u8 0) b r (with_range b.now at)
