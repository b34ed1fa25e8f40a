-- What a contract sees of an `Arena`.
use Rattle.std.specs.Prelude.{ℕ, List}

-- the bytes of the block, and the length of the prefix that is handed out
pub record Contents : Type 0 where
  pub bytes : List ℕ
  pub carved : ℕ

abbrev pub contents : List ℕ → ℕ → Contents
contents bytes carved = record { bytes = bytes; carved = carved }
