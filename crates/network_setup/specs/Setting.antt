-- What the lines that set a network up say of its links.
use Rattle.std.specs.Prelude.{ℕ, ◌+◌, ◌%◌, ◌^◌, Bool, ◌&&◌, nat_le, nat_lt}
use Rattle.medium_core.specs.Links.{is_loss}
use Rattle.medium_core.specs.declared.link.Loss.{Loss}
use Rattle.network_setup.specs.declared.carriage.Carriage.{Carriage}

-- the rule of a line's next link: a lot has the next seed
abbrev pub next_loss : Loss → Loss
next_loss (Loss.ByLot chance drawn) = Loss.ByLot chance ((drawn + 1) % 2 ^ 64)
next_loss loss = loss

abbrev pub next_carriage : Carriage → Carriage
next_carriage carriage = record carriage { loss = next_loss carriage.loss }

-- there is a mote of this number
abbrev pub is_mote : ℕ → ℕ → Bool
is_mote motes number = nat_le 1 number && nat_le number motes

-- a link between these motes can be set up
abbrev pub is_fit : ℕ → ℕ → ℕ → Carriage → Bool
is_fit motes from to carriage = is_mote motes from && is_mote motes to && nat_lt 0 carriage.delay && is_loss carriage.loss
