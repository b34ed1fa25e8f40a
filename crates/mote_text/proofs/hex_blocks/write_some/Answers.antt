use Rattle.std.proofs.Common.{◌-◌, ◌*◌, ◌++◌, ◌∙◌, ap, arith, drop, length, take}
use Rattle.std.proofs.lemmas.List.{drop_all, length-drop}
use Rattle.mote_text.proofs.Common.{append-nil, encode_lower, take_all}
use Rattle.mote_text.proofs.HexBlocks.{both_ends}
use Rattle.mote_text.proofs.hex_blocks.write_some.Goals as goal

pub returns : goal.returns
returns c =
    let bytes = c.args.bytes.now in
    let last = length bytes - 8 in
    let rest = drop 16 c.args.buffer.now in
    let first = c.write_few.new.buffer ++ rest in
    let back = c.write_few-2.new.buffer in
    ap (λ none. take (2 * last) first ++ (back ++ none))
    (drop_all (length first - 2 * last) (drop (2 * last) first) (omega (arith, length-drop (2 * last) first)))
    ∙ ap (λ text. take (2 * last) first ++ text)
    (append-nil back ∙ c.write_few-2.ensures ∙ ap encode_lower (take_all _ (drop last bytes) (omega (arith, length-drop last bytes))))
    ∙ ap (λ front. take (2 * last) (front ++ rest) ++ encode_lower (drop last bytes)) c.write_few.ensures
    ∙ both_ends bytes rest 8 last (omega (arith, c.requires.few)) (omega (arith, c.requires.some))
