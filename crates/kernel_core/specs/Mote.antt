-- What contracts see of a kernel.
use Rattle.std.specs.Prelude.{ℕ}
use Rattle.kernel_core.specs.Machine.{Machine}

pub record Mote : Type 0 where
  pub machine : Machine
  -- the number of inputs that were submitted to it
  pub inputs : ℕ
  -- the most entries that it can still make before it rests
  pub entries_left : ℕ
