use Rattle.std.proofs.Common.{◌+◌, length, sym, refl, subst, arith}
use Rattle.rows.specs.Rows.{parts_of}
use Rattle.wiring.specs.Circuit.{circuit}
use Rattle.elimination.specs.Answer.{Answer}
use Rattle.elimination.specs.Reduction.{NoReading, Reduced}
use Rattle.elimination.specs.Slots.{edges, live}
use Rattle.elimination.proofs.Answering.{answer_found, answer_none, answer_refused, range_drawn}
use Rattle.elimination.proofs.Edges.{live_parts}
use Rattle.elimination.proofs.Placing.{placed-all}
use Rattle.elimination.proofs.decompose.Goals as goal

pub returns-then-not-reduce : goal.returns-then-not-reduce
returns-then-not-reduce c =
    let r = c.args.rung.now in
    let o = c.of-reduction.result in
    answer_refused (circuit r) r.two (range_drawn (circuit r) r.linked) _ (parts_of c.args.table.now.nodes)
    (placed-all (circuit r) _ o.slots (parts_of o.table.nodes) refl c.of-reduction.ensures.placed)
    (subst (λ j. NoReading j (edges (parts_of o.table.nodes) o.slots)) c.of-reduction.ensures.joints c.if-not-reduce.ensures)

pub gather-requires-clause-room : goal.gather-requires-clause-room
gather-requires-clause-room c =
    let p = live_parts 0 (parts_of c.reduce.new.self.table.nodes) c.reduce.new.self.slots c.reduce.new.self.stands in
    let n = c.reduce.new.self.room in
    omega arith

pub returns-in_err-group : goal.returns-in_err-group
returns-in_err-group c =
    let r = c.args.rung.now in
    let o = c.of-reduction.result in
    let n = c.reduce.new.self in
    subst (λ a. Answer (circuit r) (parts_of c.args.table.now.nodes) a) (sym c.from_residual.ensures)
    (answer_none (circuit r) r.two (range_drawn (circuit r) r.linked) _ _ n.slots (parts_of n.table.nodes) (parts_of c.gather.new.table.nodes)
    (placed-all (circuit r) _ o.slots (parts_of o.table.nodes) refl c.of-reduction.ensures.placed)
    (subst (λ j. Reduced j (length (parts_of o.table.nodes) + live o.slots) (edges (parts_of o.table.nodes) o.slots) n.slots (parts_of n.table.nodes)) c.of-reduction.ensures.joints c.if-not-reduce.ensures)
    c.in_err-group.ensures)

pub returns : goal.returns
returns c =
    let r = c.args.rung.now in
    let o = c.of-reduction.result in
    let n = c.reduce.new.self in
    let a = c.of-reduction.ensures.placed.len_is in
    let b = c.of-reduction.ensures.placed.live-is in
    answer_found (circuit r) r.two (range_drawn (circuit r) r.linked) (length (parts_of o.table.nodes) + live o.slots) _ n.slots (parts_of n.table.nodes) (parts_of c.gather.new.table.nodes) c.in_ok-group.group
    (placed-all (circuit r) _ o.slots (parts_of o.table.nodes) refl c.of-reduction.ensures.placed)
    (omega arith)
    (subst (λ j. Reduced j (length (parts_of o.table.nodes) + live o.slots) (edges (parts_of o.table.nodes) o.slots) n.slots (parts_of n.table.nodes)) c.of-reduction.ensures.joints c.if-not-reduce.ensures)
    c.in_ok-group.ensures
