use Rattle.std.proofs.Common.{◌<◌, map, length, get_or, take, drop, set, None, ap, ◌∙◌, length-append, length-take, length-drop, arith}
use Rattle.std.proofs.lemmas.List.{get_or_default, length-map}
use Rattle.std.proofs.lemmas.List.Edits.{map_over_more}
use Rattle.elimination.specs.Slots.{spared}
use Rattle.elimination.proofs.slots.clear.Goals as goal

pub loop-slot-preserved : goal.loop-slot-preserved
loop-slot-preserved c =
    let h : c.loop-slot.slot-index < length c.args.slots.now = omega arith in
    let i = c.loop-slot.slot-index in
    let l = c.args.slots.now in
    let n = ap length c.loop-slot.invariant in
    let p = length-append (map (spared c.args.joint) (take i l)) (drop i l) in
    let q = length-map (take i l) (spared c.args.joint) in
    let t = length-take i l in
    let d = length-drop i l in
    let k : c.loop-slot.slot-index < length c.loop-slot.slots = omega arith in
    let x = get_or c.loop-slot.slots c.loop-slot.slot-index None in
    ap (set c.loop-slot.slots c.loop-slot.slot-index) c.spare.ensures
    ∙ map_over_more (spared c.args.joint) c.args.slots.now c.loop-slot.slots c.loop-slot.slot-index x h c.loop-slot.invariant (get_or_default c.loop-slot.slots c.loop-slot.slot-index None x k)
