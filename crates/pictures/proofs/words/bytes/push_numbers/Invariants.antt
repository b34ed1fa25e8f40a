use Rattle.std.proofs.Common.{◌≡◌, ◌++◌, take, flat_map, string_bytes}
use Rattle.pictures.specs.Words.{digit_pair}
use Rattle.pictures.proofs.words.bytes.push_numbers.Given as goal

abbrev pub invariant-loop-byte : goal.invariant-loop-byte
invariant-loop-byte l = string_bytes l.out ≡ string_bytes l.initial.out ++ flat_map digit_pair (take l.byte-index l.byte-items)
