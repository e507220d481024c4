use Rattle.std.proofs.Common.{◌<◌, length, ap, arith, length-take, drop-set-lt}
use lib.Seq.{take-set-lt}
use Rattle.banks.proofs.open.slots_write.Goals as goal

pub bounds-slots-index : goal.bounds-slots-index
bounds-slots-index g c = omega (arith, ap length c.point_slots.ensures, length-take 768 c.args.slots.now)

pub returns-then-index-point_slots-clause-after : goal.returns-then-index-point_slots-clause-after
returns-then-index-point_slots-clause-after g c =
    let k : c.args.index < 768 = omega (arith, ap length c.point_slots.ensures, length-take 768 c.args.slots.now) in
    take-set-lt 768 c.args.slots.now c.args.index c.args.signal k

pub returns-then-index-point_slots-clause-untouched : goal.returns-then-index-point_slots-clause-untouched
returns-then-index-point_slots-clause-untouched g c =
    let k : c.args.index < 768 = omega (arith, ap length c.point_slots.ensures, length-take 768 c.args.slots.now) in
    drop-set-lt 768 c.args.slots.now c.args.index c.args.signal k
