-- What follows the word of a call.
use Rattle.std.specs.Prelude.{List, drop}
use Rattle.mote_types.specs.declared.call.Call.{Call}
use Rattle.mote_text.specs.EntryText.{Word, call_words}

abbrev pub argument_words : Call → List Word
argument_words call = drop 1 (call_words call)
