-- Re-exports the names that most proofs here cite. Declares nothing.
pub use Rattle.clap.proofs.WalkLemmas.{find-map}
pub use Rattle.clap.specs.Faults.{fault_of, is_simple_and_free}
pub use Rattle.clap.specs.Simple.{is_simple, matches_of, app_of}
pub use Rattle.clap.specs.Walk.{texts, rows_of}
pub use Rattle.clap.specs.Words.{found_of}
pub use Rattle.command_line.specs.CommandLine.{applications_of, is_in_words, is_unknown, number_written, RefusesNames, is_quiet, names_of, number_of, program, sizes_of}
pub use Rattle.std.proofs.lemmas.Bool.Decides.{nat_tests}
pub use Rattle.std.proofs.lemmas.Result.{IfOk-weaker}
pub use Rattle.std.specs.Str.Parse.{ParsesUnsigned}
