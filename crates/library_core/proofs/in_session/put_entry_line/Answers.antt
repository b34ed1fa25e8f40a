use Rattle.std.proofs.Common.{◌≡◌, ◌+◌, List, ℕ, ◌∷◌, ◌++◌, length, take, refl, sym, subst, ap, ◌∙◌, arith, length-append, Option, Some, None, IsSomeAnd, []}
use Rattle.std.proofs.Math.Seq.{take-append_seam}
use Rattle.mote_types.specs.declared.entry.Entry.{Entry}
use Rattle.mote_text.specs.EntryText.{entry_line, line_of}
use Rattle.library_core.proofs.in_session.put_entry_line.Goals as goal

-- the line of an entry ends in byte 10
ends : (before pushed : List ℕ) (last : Option Entry) → IsSomeAnd last (λ entry. pushed ≡ before ++ entry_line entry)
    → (words : List ℕ) × (pushed ≡ before ++ (words ++ 10 ∷ [])) × IsSomeAnd last (λ entry. entry_line entry ≡ words ++ 10 ∷ [])
unfolding entry_line line_of
ends before pushed None is = absurd is
ends before pushed (Some entry) is = (_, is, refl)

but_end : (last : Option Entry) (words shown bytes : List ℕ) (size : ℕ) → shown ≡ words ++ 10 ∷ [] → size + 1 ≡ length shown
    → bytes ≡ take size shown → IsSomeAnd last (λ entry. entry_line entry ≡ words ++ 10 ∷ [])
    → IsSomeAnd last (λ entry. entry_line entry ≡ bytes ++ 10 ∷ [])
but_end last words shown bytes size whole long front is =
    let same : size ≡ length words = omega (arith, long, ap length whole ∙ length-append words (10 ∷ [])) in
    subst (λ (b : List ℕ). IsSomeAnd last (λ entry. entry_line entry ≡ b ++ 10 ∷ []))
    (sym (front ∙ rw (whole, same) (take-append_seam words (10 ∷ [])))) is

pub put_line-requires : goal.put_line-requires
put_line-requires c =
    let line = ends _ _ _ c.in-Ok.ensures.pushed in
    let size = ap length (c.as_slice.ensures.value ∙ line.1) ∙ length-append _ (line.0 ++ 10 ∷ []) in
    omega (arith, size, length-append line.0 (10 ∷ []))

pub returns-in-Ok-clause-line : goal.returns-in-Ok-clause-line
returns-in-Ok-clause-line c = λ is.
    let line = ends _ _ _ c.in-Ok.ensures.pushed in
    let whole = c.as_slice.ensures.value ∙ line.1 ∙ ap (λ before. before ++ (line.0 ++ 10 ∷ [])) c.clear.ensures in
    but_end _ line.0 c.as_slice.result.now _ c.put_line.new.length whole c.put_line.ensures.length (c.put_line.ensures.front is) line.2
