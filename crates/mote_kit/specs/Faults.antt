-- Why a line of a file is malformed.
use Rattle.std.specs.Prelude.{◌<◌, Bool, true, false, ⊤}
use Rattle.mote_kit.specs.declared.run_file.fault.Fault.{Fault}
use Rattle.mote_kit.specs.declared.run_file.fault.WordFault.{WordFault}
use Rattle.mote_kit.specs.declared.text_file.TextFault.{TextFault}

-- whether a fault of a word is of its letters, and not of its position in the file
abbrev pub is_of_letters : WordFault → Bool
is_of_letters WordFault.Unknown = true
is_of_letters WordFault.TakesNoWord = true
is_of_letters WordFault.NoScriptLine = true
is_of_letters WordFault.NoTranscriptLine = true
is_of_letters WordFault.NoClock = true
is_of_letters WordFault.NoEnd = true
is_of_letters WordFault.AfterInput = false
is_of_letters WordFault.Twice = false
is_of_letters WordFault.SameName = false

-- whether a typing mistake may be the cause of a fault
abbrev pub may_be_mistyped : Fault → Bool
may_be_mistyped (Fault.Word fault _) = is_of_letters fault
may_be_mistyped (Fault.NoNumber _ _ _) = true
may_be_mistyped (Fault.Form _) = true
may_be_mistyped (Fault.Rule _) = false
may_be_mistyped (Fault.ClockIsPast _) = false
may_be_mistyped (Fault.NoMote _) = false
may_be_mistyped (Fault.BadSize _ _) = false
may_be_mistyped Fault.OutOfMemory = false

-- a file can't be read, or isn't text in a line of a number from 1 on
abbrev pub IsOfReading : TextFault → Type 0
IsOfReading TextFault.NoFile = ⊤
IsOfReading TextFault.Folder = ⊤
IsOfReading TextFault.Unreadable = ⊤
IsOfReading (TextFault.NotText line) = 0 < line
IsOfReading TextFault.ReadOnly = ⊥
IsOfReading TextFault.HasNewFile = ⊥
IsOfReading TextFault.NotWritten = ⊥
IsOfReading TextFault.OutOfMemory = ⊤

-- a file can't be replaced
abbrev pub IsOfWriting : TextFault → Type 0
IsOfWriting TextFault.NoFile = ⊥
IsOfWriting TextFault.Folder = ⊥
IsOfWriting TextFault.Unreadable = ⊥
IsOfWriting (TextFault.NotText _) = ⊥
IsOfWriting TextFault.ReadOnly = ⊤
IsOfWriting TextFault.HasNewFile = ⊤
IsOfWriting TextFault.NotWritten = ⊤
IsOfWriting TextFault.OutOfMemory = ⊤
