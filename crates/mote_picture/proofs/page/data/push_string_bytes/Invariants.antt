use Rattle.std.proofs.Common.{◌≡◌, ◌++◌, take}
use Rattle.mote_picture.specs.Data.{string_bytes_of}
use Rattle.mote_picture.proofs.page.data.push_string_bytes.Given as goal

abbrev pub invariant-loop-byte : goal.invariant-loop-byte
invariant-loop-byte l = l.out.items ≡ l.initial.out.items ++ string_bytes_of (take l.byte-index l.text)
