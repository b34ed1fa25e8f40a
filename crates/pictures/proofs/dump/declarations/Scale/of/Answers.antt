use Rattle.std.proofs.Common.{◌≡◌, ◌⊎◌, ℕ, suc, ◌≤◌, ◌<◌, ◌+◌, ◌-◌, ◌*◌, ◌^◌, min, inl, inr, subst, arith}
use Rattle.std.proofs.Math.Nat.{pow-le-pow_right, pow-suc}
use Rattle.pictures.proofs.dump.declarations.Scale.of.Goals.{else-scale-most, then-scale-most}
use Rattle.pictures.proofs.dump.declarations.Scale.of.Goals as goal

more : (most units new unit : ℕ) → (most < units) ⊎ (units * 10 ≡ 10 ^ unit) → units ≤ most → unit < 16
    → new ≡ min (units * 10) (2 ^ 64 - 1) → (most < new) ⊎ (new * 10 ≡ 10 ^ (unit + 1))
more most units new unit (inl less) many inside is = absurd (omega (arith, less, many))
more most units new unit (inr power) many inside is =
    let next : suc unit ≡ unit + 1 = omega arith in
    let times : 10 ^ (unit + 1) ≡ 10 ^ unit * 10 = subst (λ n. 10 ^ n ≡ 10 ^ unit * 10) next (pow-suc 10 unit) in
    let some : 0 < 10 = omega arith in
    let least : unit ≤ 15 = omega (arith, inside) in
    let small : 10 ^ unit ≤ 10 ^ 15 = pow-le-pow_right some least in
    inr (omega (arith, power, is, times, small))

pub loop-unit-preserved : goal.loop-unit-preserved
loop-unit-preserved c = elim c.if-scale-most.branch [
  | then-scale-most w ↦
      let units = w.saturating_mul.ensures in
      rw w.scale-is
      record {
        some = omega (arith, units, c.loop-unit.invariant.some);
        room = more c.args.most c.loop-unit.scale.units _ c.loop-unit._unit c.loop-unit.invariant.room (omega arith)
            c.loop-unit-test.true units;
      }
  | else-scale-most w ↦ rw w.scale-is record { some = c.loop-unit.invariant.some; room = inl (omega arith) }
]

pub returns-clause-room : goal.returns-clause-room
returns-clause-room c = λ few.
    elim c.loop-unit.invariant.room [
      | inl less ↦ less
      | inr power ↦
          let last : c.loop-unit._unit ≡ 16 = omega arith in
          let units : c.loop-unit.scale.units * 10 ≡ 10 ^ 16 = rw last at power in
          omega (arith, units, few)
    ]
