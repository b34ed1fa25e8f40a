-- Words with a blank after each, and the line that they make.
use Rattle.std.proofs.Common.{◌≡◌, ◌≢◌, ◌+◌, ◌-◌, ◌∷◌, ◌++◌, ◌∙◌, ℕ, List, length, take, codes, refl, sym, ap, arith, []}
use Rattle.std.proofs.lemmas.List.{append_assoc, length-append, take-take, take_at}
use Rattle.std.specs.List.{flat_map}
use Rattle.mote_text.specs.EntryText.{Word, entry_words}
use Rattle.mote_text.specs.Code.Appending.{Puts}
use Rattle.mote_text.proofs.Common.{Entry, Input, append-nil, blanked, entry_line, line_of}
use Rattle.mote_types.specs.declared.entry.Note.{Note}

pub blanked_none : blanked [] ≡ []
unfolding blanked
blanked_none = refl

-- later words, with a blank before each
abbrev spaced : List Word → List ℕ
spaced words = flat_map (λ word. codes " " ++ word) words

pub blanked_one : (word : Word) → blanked (word ∷ []) ≡ word ++ codes " "
unfolding blanked
blanked_one word = append-nil (word ++ codes " ")

blanked_more : (word : Word) (words : List Word) → blanked (word ∷ words) ≡ word ++ 32 ∷ blanked words
unfolding blanked
blanked_more word words = append_assoc word (codes " ") (flat_map (λ word. word ++ codes " ") words)

-- there is one blank more than a line has
blanks : (word : Word) (words : List Word) → blanked (word ∷ words) ≡ (word ++ spaced words) ++ codes " "
blanks word [] =
    blanked_more word [] ∙ ap (λ rest. word ++ 32 ∷ rest) blanked_none ∙ sym (ap (λ front. front ++ codes " ") (append-nil word))
blanks word (next ∷ words) =
    blanked_more word (next ∷ words) ∙ ap (λ rest. word ++ 32 ∷ rest) (blanks next words)
    ∙ sym (append_assoc word (32 ∷ (next ++ spaced words)) (codes " "))

module _ (bytes items : List ℕ) (end : ℕ) (word : Word) (words : List Word) where
  abbrev line : List ℕ
  line = items ++ (word ++ spaced words)

  abbrev IsPut : Type 0
  IsPut = take end bytes ≡ items ++ blanked (word ∷ words)

  whole : IsPut → take end bytes ≡ line ++ codes " "
  whole put = put ∙ ap (λ rest. items ++ rest) (blanks word words) ∙ sym (grind (arith, append_assoc))

  line_size : length (take end bytes) ≡ end → IsPut → end ≡ length line + 1
  line_size size put = omega (arith, ap length (whole put), length-append line (codes " "))

  has_some : IsPut → take end bytes ≢ []
  has_some put = λ none. omega (arith, ap length none, ap length (whole put), length-append line (codes " "))

  before_end : length (take end bytes) ≡ end → IsPut → take (end - 1) bytes ≡ line
  before_end size put =
      let last : end - 1 ≡ length line = omega (arith, line_size size put) in
      rw last (
      sym (take-take (length line) end bytes (omega (arith, line_size size put)))
      ∙ ap (take (length line)) (whole put) ∙ take_at line (codes " ") (length line) refl
      )

module _ (old put new : List ℕ) (at end most : ℕ) (word : Word) (words : List Word) where
  pub is_some : Puts old put at end most (blanked (word ∷ words)) → take end put ≢ []
  is_some puts = has_some put (take at old) end word words puts.text

  -- the line's end replaces the last blank
  pub ended : length (take end put) ≡ end → take end new ≡ take (end - 1) put ++ 10 ∷ [] →
      Puts old put at end most (blanked (word ∷ words)) → Puts old new at end most (line_of (word ∷ words))
  unfolding line_of
  ended size last puts = record {
    text =
        last ∙ ap (λ front. front ++ 10 ∷ []) (grind (arith, before_end))
        ∙ append_assoc (take at old) (word ++ spaced words) (10 ∷ []);
    few = puts.few;
  }

-- the line of an entry

abbrev HasWords : Entry → Type 0
HasWords entry = (word : Word) × (words : List Word) × (entry_words entry ≡ word ∷ words)

has_words : (entry : Entry) → HasWords entry
has_words (Entry.Input (Input.Tick n)) = (_, _, refl)
has_words (Entry.Input (Input.Serial bytes)) = (_, _, refl)
has_words (Entry.Input (Input.Frame bytes)) = (_, _, refl)
has_words (Entry.Turn pid origin stimulus call) = (_, _, refl)
has_words (Entry.Note (Note.Lost refusal)) = (_, _, refl)
has_words (Entry.Note (Note.Sent bytes)) = (_, _, refl)
has_words Entry.Halt = (_, _, refl)

module _ (old put : List ℕ) (at end most : ℕ) {words others : List Word} where
  with_words : words ≡ others → Puts old put at end most (blanked words) → Puts old put at end most (blanked others)
  with_words is puts = record {
    text = puts.text ∙ ap (λ them. take at old ++ blanked them) is;
    few = puts.few;
  }

module _ (entry : Entry) (old put new : List ℕ) (at end most : ℕ) where
  pub entry_is_some : Puts old put at end most (blanked (entry_words entry)) → take end put ≢ []
  entry_is_some puts =
      let words = has_words entry in
      is_some old put new at end most words.0 words.1 (grind (arith, with_words))

  pub entry_ended : length (take end put) ≡ end → take end new ≡ take (end - 1) put ++ 10 ∷ [] →
      Puts old put at end most (blanked (entry_words entry)) → Puts old new at end most (entry_line entry)
  unfolding entry_line
  entry_ended size last puts =
      let words = has_words entry in
      rw words.2 (ended old put new at end most words.0 words.1 size last (with_words old put at end most words.2 puts))
