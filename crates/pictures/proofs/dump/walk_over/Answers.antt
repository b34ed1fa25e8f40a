use Rattle.std.proofs.Common.{◌≡◌, ◌∙◌, ◌+◌, ◌-◌, get_or, length, refl, ap, subst, arith}
use Rattle.std.proofs.lemmas.Result.{IfOk-weaker}
use Rattle.pictures.specs.Rows.{bytes_of, text_at}
use Rattle.pictures.proofs.Told.{IsInStep, all_told, one_more, takes_at}
use Rattle.pictures.proofs.dump.walk_over.Goals as goal

pub loop-index-preserved : goal.loop-index-preserved
loop-index-preserved c =
    let is = c.loop-index.invariant in
    let clocks = c.args.clocks.now in
    let lines = c.args.lines.now in
    let index = c.loop-index.index in
    let one : index + 1 - 1 ≡ index = omega arith in
    let scale = c.take_line.ensures.scale ∙ is.scale in
    record {
      clock = rw one c.in_ok-take_line.ensures.clock;
      scale = scale;
      first = c.take_line.ensures.first ∙ is.first;
      current = c.in_ok-take_line.ensures.takes.current;
      told = λ room.
          one_more (λ line. get_or clocks line 0) c.args.walk.now.scale.units (length clocks) (text_at (bytes_of lines)) room index
          (omega (arith, c.requires.lines)) c.loop-index.walk c.take_line.new.self c.apply_all.new.self
          (ap (λ scale. scale.units) is.scale) (ap (λ scale. scale.units) scale) is.clock
          c.in_ok-take_line.ensures.clock c.apply_all.ensures (takes_at lines index _ _ _ _ c.in_ok-take_line.ensures.takes refl) (is.told room);
    }

pub returns-clause-told : goal.returns-clause-told
returns-clause-told c =
    let is = c.loop-index.invariant in
    let clocks = c.args.clocks.now in
    let walk = c.loop-index.walk in
    let units = c.args.walk.now.scale.units in
    let texts = text_at (bytes_of c.args.lines.now) in
    let all : c.loop-index.index ≡ length clocks = omega (arith, c.requires.lines) in
    IfOk-weaker c.finish.result _ _
    (λ _ keeps room.
    all_told (λ line. get_or clocks line 0) units (length clocks) texts room walk c.finish.new.self.dump
    (ap (λ scale. scale.units) is.scale)
    (subst (λ n. IsInStep (λ line. get_or clocks line 0) units texts n walk) all (is.told room)) keeps)
    c.finish.ensures.keeps
