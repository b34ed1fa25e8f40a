use Rattle.std.proofs.Common.{◌≡◌, ◌∙◌, [], ◌∷◌, None, Some, ap, drop, option_map, sym}
use Rattle.network_setup.proofs.Cutting.{motes_first, no_motes_first, one_word, words_first}
use Rattle.network_setup.specs.Lines.{span_said, words_of}
use Rattle.network_setup.proofs.setup.cut_mote_line.Goals as goal
use Rattle.network_setup.proofs.setup.cut_mote_line.Goals.{in-Some, in-None}

pub returns-in-Some-span-clause-said : goal.returns-in-Some-span-clause-said
returns-in-Some-span-clause-said c =
    let text = c.in_ok-text.text.now in
    let calls = option_map (λ calls. calls.now) c.in_ok-text.calls in
    c.in_ok-text.ensures.cut ∙ elim c.match-split_once.branch [
      | in-Some w ↦
          let found = w.in-Some.ensures.cases in
          let cut = words_first text found.0 (drop found.1 text) found.2.0 found.2.1.split in
          let parts : words_of text ≡ w.in-Some.span.now ∷ words_of w.in-Some.words.now = rw (found.3, found.4) cut in
          let read : span_said w.in-Some.span.now ≡ Some c.in-Some-span.span =
          sym w.read_span.ensures.span ∙ (ap (λ p. p.0) (sym w.span-is) ∙ c.in-Some-span.is) in
          rw w.span-is (motes_first text w.in-Some.span.now (words_of w.in-Some.words.now) calls c.in-Some-span.span parts read)
      | in-None w ↦
          let alone = one_word text w.in-None.ensures.cases in
          let read : span_said text ≡ Some c.in-Some-span.span =
          sym w.read_span-in-None.ensures.span ∙ (ap (λ p. p.0) (sym w.span-is) ∙ c.in-Some-span.is) in
          rw w.span-is (motes_first text text [] calls c.in-Some-span.span alone read)
    ]

pub returns-in-None-span-clause-malformed : goal.returns-in-None-span-clause-malformed
returns-in-None-span-clause-malformed c =
    let text = c.in_ok-text.text.now in
    let calls = option_map (λ calls. calls.now) c.in_ok-text.calls in
    c.in_ok-text.ensures.cut ∙ elim c.match-split_once.branch [
      | in-Some w ↦
          let found = w.in-Some.ensures.cases in
          let cut = words_first text found.0 (drop found.1 text) found.2.0 found.2.1.split in
          let parts : words_of text ≡ w.in-Some.span.now ∷ words_of w.in-Some.words.now = rw (found.3, found.4) cut in
          let none : span_said w.in-Some.span.now ≡ None =
          sym w.read_span.ensures.span ∙ (ap (λ p. p.0) (sym w.span-is) ∙ c.in-None-span.is) in
          no_motes_first text w.in-Some.span.now (words_of w.in-Some.words.now) calls parts none
      | in-None w ↦
          let alone = one_word text w.in-None.ensures.cases in
          let none : span_said text ≡ None =
          sym w.read_span-in-None.ensures.span ∙ (ap (λ p. p.0) (sym w.span-is) ∙ c.in-None-span.is) in
          no_motes_first text text [] calls alone none
    ]
