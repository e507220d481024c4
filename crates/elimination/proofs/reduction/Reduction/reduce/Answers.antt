use Rattle.std.proofs.Common.{◌+◌, ◌<◌, length, sym, refl, ◌∙◌, subst, arith}
use Rattle.rows.specs.Rows.{parts_of}
use Rattle.elimination.specs.Reduction.{NoReading, Outcome}
use Rattle.elimination.specs.Slots.{edges, live}
use Rattle.elimination.proofs.Picking.{all_gone_by, picked_may, picked_left}
use Rattle.elimination.proofs.Reducing.{work_start, work_more, work_at, fewer, turn_refused, gone_refused, outcome}
use Rattle.elimination.proofs.reduction.Reduction.reduce.Goals as goal

pub loop-next-init : goal.loop-next-init
loop-next-init c = (refl, work_start c.args.self.now.joints c.args.self.now.slots (parts_of c.args.self.now.table.nodes) c.args.self.now.stands)

pub returns-then-next : goal.returns-then-next
returns-then-next c =
    subst (λ j. NoReading j (edges (parts_of c.args.self.now.table.nodes) c.args.self.now.slots)) c.loop-next.invariant.0
    (turn_refused c.loop-next.self.joints _ _ c.loop-next.self.slots (parts_of c.loop-next.self.table.nodes) c.loop-next.gone c.in-Some.next c.loop-next.invariant.1 c.in-Some.ensures c.if-next.true)

pub eliminate-requires-clause-may : goal.eliminate-requires-clause-may
eliminate-requires-clause-may c = picked_may c.loop-next.self.joints c.loop-next.gone (parts_of c.loop-next.self.table.nodes) c.loop-next.self.slots c.in-Some.next c.in-Some.ensures

pub loop-next-smaller : goal.loop-next-smaller
loop-next-smaller c =
    let p = c.in-Some.ensures.1 in
    let m = c.loop-next.self.most in
    let h : c.in-Some.next.joint < length c.loop-next.gone = omega (arith, c.loop-next.invariant.1.long) in
    fewer c.loop-next.gone c.in-Some.next.joint h (picked_left c.loop-next.self.joints c.loop-next.gone c.loop-next.self.slots c.in-Some.next c.in-Some.ensures)

pub loop-next-preserved : goal.loop-next-preserved
loop-next-preserved c =
    let W = work_more c.loop-next.self.joints _ _ c.loop-next.self.slots (parts_of c.loop-next.self.table.nodes) c.loop-next.gone c.in-Some.next _ _ c.loop-next.self.most c.loop-next.invariant.1 c.in-Some.ensures c.eliminate.ensures.step in (
      c.eliminate.ensures.joints ∙ c.loop-next.invariant.0,
      work_at (sym c.eliminate.ensures.joints) W,
    )

pub returns-else-all_gone : goal.returns-else-all_gone
returns-else-all_gone c =
    subst (λ b. Outcome c.args.self.now.joints (length (parts_of c.args.self.now.table.nodes) + live c.args.self.now.slots) (edges (parts_of c.args.self.now.table.nodes) c.args.self.now.slots) c.loop-next.self.slots (parts_of c.loop-next.self.table.nodes) b) (sym c.if-all_gone.false)
    (subst (λ j. NoReading j (edges (parts_of c.args.self.now.table.nodes) c.args.self.now.slots)) c.loop-next.invariant.0
    (gone_refused c.loop-next.self.joints _ _ c.loop-next.self.slots (parts_of c.loop-next.self.table.nodes) c.loop-next.gone c.loop-next.invariant.1 c.in_default.ensures (all_gone_by c.loop-next.self.joints c.loop-next.gone _ (let m = c.loop-next.self.most in omega (arith, c.loop-next.invariant.1.long)) c.if-all_gone.ensures)))

pub returns-then-all_gone : goal.returns-then-all_gone
returns-then-all_gone c =
    subst (λ j. Outcome j (length (parts_of c.args.self.now.table.nodes) + live c.args.self.now.slots) (edges (parts_of c.args.self.now.table.nodes) c.args.self.now.slots) c.loop-next.self.slots (parts_of c.loop-next.self.table.nodes) c.all_straight.result) c.loop-next.invariant.0
    (outcome c.loop-next.self.joints _ _ c.loop-next.self.slots (parts_of c.loop-next.self.table.nodes) c.loop-next.gone c.loop-next.invariant.1 c.in_default.ensures (all_gone_by c.loop-next.self.joints c.loop-next.gone _ (let m = c.loop-next.self.most in omega (arith, c.loop-next.invariant.1.long)) c.if-all_gone.ensures) c.all_straight.result c.all_straight.ensures)
