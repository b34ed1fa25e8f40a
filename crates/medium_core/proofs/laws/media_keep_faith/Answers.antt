use Rattle.std.proofs.Common.{refl, arith}
use Rattle.medium_core.specs.Air.{link_at, still_air}
use Rattle.medium_core.proofs.Faith.{IsSound, exact_on, punctual_all, same_room, sound_all}
use Rattle.medium_core.proofs.laws.media_keep_faith.Goals as goal

pub returns : goal.returns
returns c room links deeds =
    let sound : IsSound (still_air room links) = record { order = tt; ahead = tt; within = omega arith } in
    let after = sound_all deeds (still_air room links) sound in
    record {
      exact = λ m position. exact_on m position deeds (link_at links m position) (still_air room links) sound (record { here = refl; near = tt });
      punctual = punctual_all deeds (still_air room links) sound;
      pending = after.ahead;
      within = let h = after.within in let e = same_room deeds (still_air room links) in omega (arith, h, e);
    }
