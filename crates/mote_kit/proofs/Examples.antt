-- Worked examples: texts that fit where parts are left out, and one that doesn't; repeated lines, faults, flaws, lines of
-- runs and networks, and changes.
use Rattle.std.proofs.Common.{◌≡◌, List, ℕ, None, Some, true, [], ◌∷◌, codes, inl, inr, refl, ap, arith}
use denote.Ref.{Bor}
use Rattle.mote_kit.specs.Changes.{IsChange}
use Rattle.mote_kit.specs.Faults.{IsOfReading, IsOfWriting, may_be_mistyped}
use Rattle.mote_kit.specs.Flaws.{HasFlaw, line_of}
use Rattle.mote_kit.specs.Forms.{SetsUp}
use Rattle.mote_kit.specs.Gaps.{Fits, gap, texts}
use Rattle.mote_kit.specs.NewLines.{repeated}
use Rattle.mote_kit.specs.Parts.{IsPartOf}
use Rattle.mote_kit.specs.Unread.{IsOfRun}
use Rattle.mote_kit.specs.declared.changes.Change.{Change}
use Rattle.mote_kit.specs.declared.run_file.fault.Fault.{Fault}
use Rattle.mote_kit.specs.declared.run_file.fault.WordFault.{WordFault}
use Rattle.mote_kit.specs.declared.run_file.flaw.Flaw.{Flaw}
use Rattle.mote_kit.specs.declared.run_file.line.Line.{Line}
use Rattle.mote_kit.specs.declared.run_file.parts.Part.{Part}
use Rattle.mote_kit.specs.declared.run_file.written_run.Unread.{Unread}
use Rattle.mote_kit.specs.declared.text_file.TextFault.{TextFault}

-- no lines, and two of them
none-left-out : Fits (codes "a" ∷ gap ∷ codes "b" ∷ []) (codes "a" ∷ codes "b" ∷ [])
none-left-out = (codes "a" ∷ [], codes "b" ∷ [], refl, inr refl, ([], codes "b" ∷ [], refl, inl refl, (codes "b" ∷ [], [], refl, inr refl, refl)))

two-left-out : Fits (gap ∷ codes "b" ∷ []) (codes "b" ∷ codes "a" ∷ codes "b" ∷ [])
two-left-out = (codes "b" ∷ codes "a" ∷ [], codes "b" ∷ [], refl, inl refl, (codes "b" ∷ [], [], refl, inr refl, refl))

-- a line more, with no gap for it
one-more : Fits (codes "a" ∷ []) (codes "a" ∷ codes "b" ∷ []) → ⊥
one-more (part, rest, is, inl is_gap, end) = absurd (cc)
one-more (part, rest, is, inr same, end) = absurd (cc)

-- a line that is there twice, and one that isn't there
two-lines : repeated 2 (codes "tick 1") ≡ codes "tick 1\ntick 1\n"
two-lines = refl

no-line : repeated 0 (codes "tick 1") ≡ codes "tick 1\n" → ⊥
no-line is = absurd (cc)

-- a mistyped word, and one that is right but for its position
mistyped : (word : Bor (List ℕ)) → may_be_mistyped (Fault.Word WordFault.Unknown word) ≡ true
mistyped word = refl

in-its-form : (word : Bor (List ℕ)) → may_be_mistyped (Fault.Word WordFault.Twice word) ≡ true → ⊥
in-its-form word is = absurd (cc)

-- faults of reading a file, and of writing it
read : IsOfReading (TextFault.NotText 1)
read = omega arith

not-read : IsOfReading TextFault.ReadOnly → ⊥
not-read fault = fault

written : IsOfWriting TextFault.ReadOnly
written = tt

not-written : IsOfWriting TextFault.NoFile → ⊥
not-written fault = fault

-- a line of a network's script, and a row of an application, which a network has none of
in-network : (line : Line) → IsOfRun true (Unread.OfNetwork line)
in-network line = refl

row-in-network : (row : Bor (List ℕ)) → IsOfRun true (Unread.Row row) → ⊥
row-in-network row is = absurd (cc)

-- the second line differs, and no line has the number 0
second-line : (a b d : Bor (List ℕ)) (change : Change) → change.number ≡ 2 → change.before.now ≡ a ∷ [] → change.wanted.now ≡ b ∷ []
    → change.found.now ≡ d ∷ [] → IsChange (a ∷ b ∷ []) (a ∷ d ∷ []) change
unfolding IsChange
second-line a b d change number before wanted found = (1, 1, 1, 1, 1, number, omega arith, before, ap texts wanted, ap texts found)

no-number : (wanted found : List (Bor (List ℕ))) (change : Change) → change.number ≡ 0 → IsChange wanted found change → ⊥
unfolding IsChange
no-number _ _ change none (row, column, before, size, other, number, few, above, wanted, found) = omega (arith, none, number)

-- a run with no name is the whole text, and no part of it
whole-text : (part : Part) → part.path.now ≡ codes "a" → part.first_line ≡ 1 → part.lines.now ≡ codes "b" → IsPartOf (codes "a") (codes "b") part
whole-text part path line lines = (path, λ _. (line, lines))

no-part : (part : Part) → part.name ≡ None → part.lines.now ≡ codes "b" → IsPartOf (codes "a") (codes "b\nb") part → ⊥
no-part part none lines is = let same = (is.1 none).1 in absurd (cc)

-- the second line of a text; two spaces in a line, and no tab
second : line_of (codes "a\nb") 2 ≡ Some (codes "b")
second = refl

two-spaces : HasFlaw (codes "a  b") Flaw.TwoSpaces
two-spaces = (codes "a", codes "b", refl)

no-tab : HasFlaw (codes "a b") Flaw.Tab → ⊥
no-tab is = absurd (cc)

-- a line that sets a network up, and an empty one
sets-up : SetsUp (codes "link")
sets-up = inr (inl refl)

sets-nothing-up : SetsUp [] → ⊥
sets-nothing-up (inl is) = absurd (cc)
sets-nothing-up (inr (inl is)) = absurd (cc)
sets-nothing-up (inr (inr (inl is))) = absurd (cc)
sets-nothing-up (inr (inr (inr (inl is)))) = absurd (cc)
sets-nothing-up (inr (inr (inr (inr (inl is))))) = absurd (cc)
sets-nothing-up (inr (inr (inr (inr (inr (inl is)))))) = absurd (cc)
sets-nothing-up (inr (inr (inr (inr (inr (inr (inl is))))))) = absurd (cc)
sets-nothing-up (inr (inr (inr (inr (inr (inr (inr is))))))) = absurd (cc)
