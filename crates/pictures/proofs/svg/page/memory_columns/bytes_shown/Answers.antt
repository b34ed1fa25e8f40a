use Rattle.std.proofs.Common.{◌^◌, refl, arith}
use Rattle.pictures.proofs.svg.page.memory_columns.bytes_shown.Goals as goal

-- no power of two in 64 bits is enough, so 2 ^ 64 is the first
pub returns-in-None : goal.returns-in-None
returns-in-None c =
    (2 ^ 64, ((64, refl), omega (arith, c.in-None.ensures), omega (arith, c.in-None.ensures)), omega (arith, c.in-None.ensures))
