-- The words of a text, and their forms.
use Rattle.std.proofs.Common.{◌≡◌, ◌≢◌, ◌<◌, ◌+◌, ◌==◌, ℕ, false, List, [], ◌∷◌, length, get_or, Option, Some, None, is_none, refl, arith}
use Rattle.std.proofs.lemmas.List.Elements.{All-from_get_or}
use Rattle.std.proofs.lemmas.List.Splits.{length-slice_split, slice_split_none}
use Rattle.pictures.specs.Transcript.Code.{words_in}
use Rattle.pictures.specs.Transcript.Turns.{have_forms, words}
use denote.Ref.{Bor}

no_space : (byte : ℕ) → byte ≢ 32 → (byte == 32) ≡ false
no_space byte other = grind arith

-- a text without spaces is one word
pub one_word : (text : List ℕ) → ((i : ℕ) → i < length text → get_or text i 0 ≢ 32) → words text ≡ text ∷ []
one_word text lacks =
    slice_split_none (λ byte. byte == 32) text
    (All-from_get_or (λ byte. (byte == 32) ≡ false) text 0 (λ i inside. no_space (get_or text i 0) (lacks i inside)))

some_left : (left : List (List ℕ)) (n : ℕ) → length left ≡ n + 1 → have_forms [] left ≡ false
some_left [] n is = absurd (omega arith)
some_left (word ∷ left) n is = refl

-- without forms there is no word exactly if no text is left
pub none_left : (text : Option (Bor (List ℕ))) → have_forms [] (words_in text) ≡ is_none text
none_left None = refl
none_left (Some text) = some_left (words text.now) _ (length-slice_split (λ byte. byte == 32) text.now)
