-- How long lines are at most, with their ends.
use Rattle.std.specs.Prelude.{ℕ}

-- the digits of a number
abbrev pub number_limit : ℕ
number_limit = 40

-- a line of the network's own
abbrev pub own_line_limit : ℕ
own_line_limit = 96

-- a mote's line with the mote's number in front
abbrev pub mote_line_limit : ℕ
mote_line_limit = 700
