-- Content that grows stays content.
use Rattle.std.proofs.Common.{◌≡◌, ℕ, Bool, true, false, List, ◌++◌, if◌then◌else◌, sym, subst, append_assoc, append-nil}
use Rattle.pictures.specs.Svg.Markup.{IsContent, escaped, element_text}
use Rattle.pictures.specs.Svg.Markup.IsContent.{nothing, words, element}

pub grown : (old more new : List ℕ) (done : Bool) → new ≡ (if done then old ++ more else old) → IsContent old → IsContent (old ++ more)
    → IsContent new
grown old more new true e _ whole = subst IsContent (sym e) whole
grown old more new false e same _ = subst IsContent (sym e) same

pub IsContent-append : {first second : List ℕ} → IsContent first → IsContent second → IsContent (first ++ second)
IsContent-append {first} f nothing = simp append-nil f
IsContent-append {first} f (words {before} s text) = rw (← append_assoc first before (escaped text)) (words (IsContent-append f s) text)
IsContent-append {first} f (element {before} {attributes} {inside} s tag a i) =
    rw (← append_assoc first before (element_text tag attributes inside)) (element (IsContent-append f s) tag a i)
