-- The waiting bytes after a put and a get.
use Rattle.std.proofs.Common.{◌≡◌, ◌≢◌, ℕ, suc, ◌+◌, ◌-◌, ◌≤◌, ◌<◌, inl, inr, List, [], ◌∷◌, ◌++◌, length, take, drop, set, get_or, if◌then◌else◌, ap, ◌∙◌, arith, append_assoc, length-drop}
use Rattle.std.proofs.lemmas.Bool.{cases_lt, le-leb, lt-leb}
use Rattle.std.proofs.lemmas.List.{take_more_set, take_all, drop-set-add, drop-set-lt, drop_more, drop_all, append-nil, length-set}
use Rattle.modules_c.specs.Ringbuf.Queues.{queued}

module _ (xs : List ℕ) (put get : ℕ) where
  pub in_line : get ≤ put → queued xs put get ≡ take (put - get) (drop get xs)
  in_line le = ap (λ b. if b then take (put - get) (drop get xs) else drop get xs ++ take put xs) (le-leb get put le)

  pub around : put < get → queued xs put get ≡ drop get xs ++ take put xs
  around lt = ap (λ b. if b then take (put - get) (drop get xs) else drop get xs ++ take put xs) (lt-leb get put lt)

-- a byte was put at their end
at_end : (xs : List ℕ) (put get byte : ℕ) → put < length xs → get ≤ put
    → take (put - get + 1) (drop get (set xs put byte)) ≡ take (put - get) (drop get xs) ++ (byte ∷ [])
at_end xs put get byte inside le =
    let k = put - get in
    let e : put ≡ get + k = omega arith in
    let long = length-drop get xs in
    ap (λ i. take (k + 1) (drop get (set xs i byte))) e
    ∙ ap (take (k + 1)) (drop-set-add get xs k byte)
    ∙ take_more_set (drop get xs) k byte (omega arith)

pub put_behind : (xs : List ℕ) (put get byte next : ℕ) → put < length xs → get < length xs
    → (put + 1 < length xs → next ≡ put + 1) → (put + 1 ≡ length xs → next ≡ 0) → next ≢ get
    → queued (set xs put byte) next get ≡ queued xs put get ++ (byte ∷ [])
put_behind xs put get byte next p g behind round ne =
    let new = set xs put byte in let long = length-drop get new in let size = length-set xs put byte in
    elim (cases_lt put get) [
      | inl lt ↦
          let e : next ≡ put + 1 = behind (omega arith) in
          let now = around xs put get lt in let later = around new next get (omega arith) in
          let kept = drop-set-lt get xs put byte lt in let more = take_more_set xs put byte p in
          grind (arith, append_assoc)
      | inr le ↦
          let now = in_line xs put get le in let end = at_end xs put get byte p le in
          elim (cases_lt (put + 1) (length xs)) [
            | inl more ↦
                let e : next ≡ put + 1 = behind more in
                let count : next - get ≡ put - get + 1 = omega arith in
                let later = in_line new next get (omega arith) in grind arith
            | inr last ↦
                let e : next ≡ 0 = round (omega arith) in
                let later = around new next get (omega arith) in let all = take_all (put - get + 1) (drop get new) (omega arith) in
                grind (arith, append-nil)
          ]
    ]

pub got_first : (xs : List ℕ) (put get next : ℕ) → put < length xs → get < length xs
    → (get + 1 < length xs → next ≡ get + 1) → (get + 1 ≡ length xs → next ≡ 0) → put ≢ get
    → queued xs put get ≡ get_or xs get 0 ∷ queued xs put next
got_first xs put get next p g behind round ne =
    let first = drop_more xs get 0 g in
    elim (cases_lt put get) [
      | inl lt ↦
          let now = around xs put get lt in
          elim (cases_lt (get + 1) (length xs)) [
            | inl more ↦ let e : next ≡ get + 1 = behind more in let later = around xs put next (omega arith) in grind arith
            | inr last ↦
                let e : next ≡ 0 = round (omega arith) in let later = in_line xs put next (omega arith) in
                let none = drop_all (get + 1) xs last in grind arith
          ]
      | inr le ↦
          let e : next ≡ get + 1 = behind (omega arith) in
          let count : put - get ≡ suc (put - next) = omega arith in
          let now = in_line xs put get le in let later = in_line xs put next (omega arith) in grind arith
    ]
