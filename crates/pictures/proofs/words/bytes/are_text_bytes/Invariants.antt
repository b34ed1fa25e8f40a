use Rattle.std.proofs.Common.{◌≡◌, take}
use Rattle.std.specs.List.{list_all}
use Rattle.pictures.specs.Words.{is_text_byte}
use Rattle.pictures.proofs.words.bytes.are_text_bytes.Given as goal

abbrev pub invariant-loop-byte : goal.invariant-loop-byte
invariant-loop-byte l = l.are_text ≡ list_all is_text_byte (take l.byte-index l.bytes)
