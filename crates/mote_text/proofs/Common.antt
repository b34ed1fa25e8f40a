-- Re-exports the names that most proofs here cite.
unfoldable pub use Rattle.hex.specs.Hex.{decode_pairs, encode_with}
pub use Rattle.hex.specs.Hex.{encode_lower, hex_digit_value, pair_value}
unfoldable pub use Rattle.mote_text.specs.Code.Reading.{read_on}
pub use Rattle.mote_text.specs.Code.Reading.{Before, Reading, preceded_by}
unfoldable pub use Rattle.mote_text.specs.EntryText.{entry_line, line_of}
unfoldable pub use Rattle.mote_text.specs.Code.EntryLines.{blanked}
unfoldable pub use Rattle.mote_text.specs.Script.{inputs, read_line, script_limit}
pub use Rattle.mote_text.specs.Script.{argument_of, is_line, is_number, line_limit, parts, read_lines, read_number, whole_lines, with_last_if, with_line}
pub use Rattle.mote_text.specs.declared.script.End.{End}
pub use Rattle.mote_types.specs.declared.entry.Entry.{Entry}
pub use Rattle.mote_types.specs.declared.entry.Input.{Input}
pub use Rattle.std.proofs.lemmas.Bool.{and_from, and_left, and_parts, and_right, cases_lt, cond-true, le-ltb, lt-ltb}
pub use Rattle.std.proofs.lemmas.Bool.Decides.{nat_tests}
pub use Rattle.std.proofs.lemmas.Grind.{common_steps}
pub use Rattle.std.proofs.lemmas.List.{append-nil, length-take, take_all}
pub use Rattle.std.proofs.lemmas.List.Folds.{list_all-append, list_all_more}
pub use Rattle.std.proofs.lemmas.List.Splits.{length-slice_split, slice_split-cons_no, slice_split-cons_yes}
pub use Rattle.std.proofs.lemmas.Str.Parse.{IsNumeralModel, digits_value-take-le, numerals_by_value}
pub use Rattle.std.specs.Char.{digit_value, is_ascii_digit}
pub use Rattle.std.specs.List.{list_all, onto_first}
pub use Rattle.std.specs.Str.Parse.{digits_value}
