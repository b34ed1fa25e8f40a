use Rattle.std.proofs.Common.{◌≡◌, ◌++◌, take, flat_map, string_bytes}
use Rattle.clap.specs.Walk.{texts}
use Rattle.mote_picture.specs.Named.{title_word}
use Rattle.mote_picture.proofs.named.push_words.Given as goal

abbrev pub invariant-loop-word : goal.invariant-loop-word
invariant-loop-word l = string_bytes l.title ≡ string_bytes l.initial.title ++ flat_map title_word (texts (take l.word-index l.words))
