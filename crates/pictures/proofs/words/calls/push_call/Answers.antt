use Rattle.std.proofs.Common.{◌≡◌, ◌∙◌, ◌∷◌, ◌++◌, inl, inr, ap, drop, refl, string_bytes, subst, sym, take, arith}
use Rattle.std.proofs.lemmas.Result.{IfOk-weaker}
use Rattle.std.proofs.lemmas.Str.Pattern.{NoCharPasses-char, drop_at_char}
use Rattle.std.proofs.Math.ListN.{take-append-drop}
use Rattle.pictures.specs.Words.{HasNoSpace, call_by}
use Rattle.pictures.proofs.Appended.{appended, call_appended}
use Rattle.pictures.proofs.words.calls.push_call.Goals as goal

pub returns-in_default : goal.returns-in_default
returns-in_default c =
    let call = c.args.call.now in
    let none : HasNoSpace call = λ index inside. NoCharPasses-char 32 call index c.in_default.ensures.cases (omega arith) inside in
    IfOk-weaker c.push_str.result _ _ (λ x is. (call, inl (none, refl), is))
    (appended c.push_str.result (string_bytes c.args.out.now) call (string_bytes c.push_str.new.self) c.push_str.ensures.bytes)

pub returns : goal.returns
returns c =
    let call = c.args.call.now in
    let front = c.in-Some.front.now in
    let last = c.in-Some.last.now in
    let cut = c.in-Some.ensures.cases in
    let after : drop cut.0 call ≡ 32 ∷ drop cut.1 call = drop_at_char 32 call cut.0 cut.1 cut.2.1 (omega arith) in
    let whole : call ≡ front ++ 32 ∷ last =
    sym (take-append-drop cut.0 call) ∙ ap (λ text. take cut.0 call ++ text) after ∙ ap (λ text. text ++ 32 ∷ drop cut.1 call) (sym cut.3)
    ∙ ap (λ text. front ++ 32 ∷ text) (sym cut.4) in
    let free : HasNoSpace (drop cut.1 call) = λ index inside. NoCharPasses-char 32 (drop cut.1 call) index cut.2.0 (omega arith) inside in
    let none : HasNoSpace last = subst HasNoSpace (sym cut.4) free in
    IfOk-weaker c.push_last.result _ _
    (λ x is. (
      call_by front last,
      inr (front, last, whole, none, refl),
      call_appended _ front _ _ c.name_of.result.now last c.in_ok-push_str.ensures.bytes c.name_of.ensures is,
    ))
    c.push_last.ensures
