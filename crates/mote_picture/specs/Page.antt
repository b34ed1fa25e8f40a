-- What a page holds of a transcript.
use Rattle.std.specs.Prelude.{◌≡◌, ℕ, ◌-◌, ◌^◌, ◌≤◌, List, ◌++◌, flat_map, length, slice_range, codes}
use denote.Ref.{Bor}
use Rattle.mote_picture.specs.Data.{IsHarmless, json_string}

-- the lines, a line end after each
abbrev pub ended_lines : List (Bor (List ℕ)) → List ℕ
ended_lines lines = flat_map (λ line. line.now ++ codes "\n") lines

-- data that begins with a text and a title, by these names
abbrev pub begins_with : List ℕ → List ℕ → List ℕ → List ℕ
begins_with text title rest = codes "{\"text\":" ++ json_string text ++ codes ",\"title\":" ++ json_string title ++ rest

-- a page: its front, data without any `<`, and its back; the data begins with the lines from one to another, where the widest range of
-- clocks gives all lines, and the title
pub record IsPage (lines : List (Bor (List ℕ))) (title : List ℕ) (from to : ℕ) (front back page : List ℕ) : Type 0 where
  pub first : ℕ
  pub end : ℕ
  pub order : first ≤ end
  pub there : end ≤ length lines
  pub from_start : from ≡ 0 → first ≡ 0
  pub to_end : to ≡ 2 ^ 64 - 1 → end ≡ length lines
  pub rest : List ℕ
  pub is_harmless : IsHarmless (begins_with (ended_lines (slice_range lines first end)) title rest)
  pub whole : page ≡ front ++ begins_with (ended_lines (slice_range lines first end)) title rest ++ back
