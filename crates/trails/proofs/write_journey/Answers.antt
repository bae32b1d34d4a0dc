-- `trails::write_journey` meets its contract. Assumes nothing.
use Rattle.std.proofs.Common.{◌≡◌, length, drop, refl, ap, ◌∙◌, arith, length-set}
use Rattle.model.specs.Predecessors.{follow}
use Rattle.trails.specs.Trail.{journey_to}
use Rattle.trails.proofs.Trail.{length_follow, follow_exact, step_on, write_step, write_done}
use Rattle.trails.proofs.write_journey.Goals as goal

pub loop-i-init : goal.loop-i-init
loop-i-init c =
    let w = c.args.predecessors.now in
    let e = c.journey_length-k.ensures in
    (omega (arith, e, length_follow w (length w) c.args.last, c.requires.1), c.requires.0, rw e (ap length (follow_exact w (length w) c.args.last)), refl)

pub loop-i-preserved : goal.loop-i-preserved
loop-i-preserved c =
    let l = c.loop-i in
    let i = l.invariant in
    let t = write_step _ _ i.1 l.i l.journey (omega arith) (omega (arith, l.auto.i)) i.2 in
    (rw length-set i.0, step_on _ _ i.1, t.0, t.1 ∙ i.3)

pub returns : goal.returns
returns c =
    let l = c.loop-i in
    let k = c.journey_length-k in
    let w = c.args.predecessors.now in
    let q : l.i ≡ 0 = omega arith in
    let z : follow w k.result c.args.last ≡ journey_to w c.args.last = rw k.ensures (follow_exact w (length w) c.args.last) in
    record {
      count = k.ensures;
      connections = write_done w l.c l.journey (journey_to w c.args.last) (drop k.result c.args.journey.now) (rw z at (rw q at l.invariant.3));
    }
