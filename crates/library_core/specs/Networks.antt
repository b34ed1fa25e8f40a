-- What the numbers of a network say, and in which numbers it is reported what happened.
use Rattle.std.specs.Prelude.{ℕ, ◌+◌, ◌-◌, min, if◌then◌else◌, ◌==◌}
use Rattle.medium_core.specs.declared.link.Fate.{Fate}
use Rattle.medium_core.specs.declared.link.Link.{Link}
use Rattle.medium_core.specs.declared.link.Loss.{Loss}
use Rattle.network_steps.specs.declared.came.Came.{Came}
use Rattle.library_core.specs.declared.plain_network.Happening.{Happening}
use Rattle.library_core.specs.declared.plain_network.PlainLink.{PlainLink}

-- the index of the mote of this number, where the first one is 1. Number 0 has the index of no mote
abbrev pub place_of : ℕ → ℕ
place_of number = if number == 0 then 18446744073709551615 else number - 1

-- the number of the mote with this index
abbrev pub number_of : ℕ → ℕ
number_of m = min (m + 1) 4294967295

-- the loss of this kind; one that is never sound, where there is no such kind
abbrev pub loss_said : ℕ → ℕ → ℕ → Loss
loss_said kind number seed =
    if kind == 0 then Loss.Never
    else if kind == 1 then Loss.EveryNth number (number - 1)
    else if kind == 2 then Loss.ByLot number seed
    else Loss.EveryNth 0 0

abbrev pub link_said : PlainLink → Link
link_said plain =
    record { to = place_of plain.to; delay = plain.delay; loss = loss_said plain.loss plain.number plain.seed; last = Fate.Unused }

abbrev pub reported : ℕ → ℕ → ℕ → ℕ → Happening
reported step mote from clock = record { step = step; mote = mote; from = from; clock = clock }

abbrev pub happening_of : Came → ℕ → Happening
happening_of (Came.Turn m) clock = reported 0 (number_of m) 0 clock
happening_of (Came.Entry m) clock = reported 1 (number_of m) 0 clock
happening_of Came.Clock clock = reported 2 0 0 clock
happening_of (Came.Lost from to) clock = reported 3 (number_of to) (number_of from) clock
happening_of (Came.Full from to) clock = reported 4 (number_of to) (number_of from) clock
happening_of (Came.Missed from to) clock = reported 5 (number_of to) (number_of from) clock
happening_of (Came.Unheard m) clock = reported 5 (number_of m) 0 clock
happening_of Came.Rest clock = reported 6 0 0 clock
happening_of Came.Exhausted clock = reported 7 0 0 clock
