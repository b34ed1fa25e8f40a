use Rattle.std.proofs.Common.{◌≡◌, ℕ, List, inl, inr, length, arith}
use Rattle.std.proofs.lemmas.Bool.{cases_lt}
use Rattle.std.proofs.lemmas.List.{length-map}
use denote.Ref.{Bor}
use Rattle.pictures.specs.Rows.{bytes_of}
use Rattle.pictures.proofs.rows.shown_of.Goals as goal

pub returns-clause-first : goal.returns-clause-first
returns-clause-first c = λ none.
    elim (cases_lt 0 c.count_before.result) [
      | inl some ↦ let less = c.count_before.ensures.before 0 some in absurd (omega (arith, none, less))
      | inr zero ↦ omega (arith, zero)
    ]

pub returns-clause-between : goal.returns-clause-between
returns-clause-between c =
    let size : length (bytes_of c.args.lines.now) ≡ length c.args.lines.now =
    length-map c.args.lines.now (λ (line : Bor (List ℕ)). line.now) in
    record {
      before = λ line inside. c.count_before.ensures.before line (omega arith);
      within = λ line begins ends. (
        c.count_before.ensures.after line (omega arith) (omega arith),
        c.count_up_to-end.ensures.within line ends,
      );
      after = λ line begins inside. c.count_up_to-end.ensures.after line begins (omega (arith, size));
    }
