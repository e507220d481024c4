use Rattle.std.proofs.Common.{arith}
use Rattle.rows.specs.Rows.{parts_of}
use Rattle.elimination.specs.declared.slots.Side.TheVariants.{Leaving}
use Rattle.elimination.proofs.Edges.{stands_grown, live_parts, touch-grown}
use Rattle.elimination.proofs.Merging.{a_group, group_at, some_group, some_into, some_out, merged}
use Rattle.elimination.proofs.groups.merge.Goals as goal

pub gather-requires-clause-room : goal.gather-requires-clause-room
gather-requires-clause-room c =
    let p = live_parts c.args.passage.joint (parts_of c.args.table.now.nodes) c.args.slots.now c.requires.stands in
    omega (arith, p)

pub unwrap-into-requires : goal.unwrap-into-requires
unwrap-into-requires c =
    some_group c.gather.result (some_into c.args.passage.joint c.args.passage.from c.args.passage.to (parts_of c.args.table.now.nodes) c.args.slots.now 0 _ c.gather.result c.requires.may c.gather.ensures.group)

pub gather-requires-2 : goal.gather-requires-2
gather-requires-2 c =
    let p = live_parts c.args.passage.joint (parts_of c.args.table.now.nodes) c.args.slots.now c.requires.stands in
    let q = (group_at c.gather.ensures c.unwrap-into.ensures).room in
    record {
      stands = stands_grown (parts_of c.args.table.now.nodes) _ c.args.slots.now c.gather.ensures.grown c.requires.stands;
      room = omega arith;
    }

pub unwrap-out-requires : goal.unwrap-out-requires
unwrap-out-requires c =
    some_group c.gather-2.result
    (some_out c.args.passage.joint c.args.passage.from c.args.passage.to (parts_of c.args.table.now.nodes) c.args.slots.now 0 (parts_of c.gather.new.table.nodes) _ c.gather-2.result
    (touch-grown Leaving c.args.passage.joint (parts_of c.args.table.now.nodes) (parts_of c.gather.new.table.nodes) c.args.slots.now c.gather.ensures.grown c.requires.stands)
    c.requires.may c.gather-2.ensures.group)

pub push-at-requires : goal.push-at-requires
push-at-requires c =
    let p = live_parts c.args.passage.joint (parts_of c.args.table.now.nodes) c.args.slots.now c.requires.stands in
    let G = group_at c.gather.ensures c.unwrap-into.ensures in
    let K = group_at c.gather-2.ensures c.unwrap-out.ensures in
    let q = G.room in
    let r = K.room in
    let a = (a_group 0 _ _ _ G.group).at in
    let b = (a_group 0 _ _ _ K.group).at in
    let m = K.grown.more in
    record { room = omega arith; falls = (omega arith, omega arith) }

pub returns : goal.returns
returns c =
    merged c.args.passage.joint c.args.slots.now (parts_of c.args.table.now.nodes) (parts_of c.gather.new.table.nodes) (parts_of c.gather-2.new.table.nodes) _ c.unwrap-into.result c.unwrap-out.result _
    c.requires.stands (group_at c.gather.ensures c.unwrap-into.ensures) (group_at c.gather-2.ensures c.unwrap-out.ensures) c.push-at.ensures.value c.push-at.ensures.len c.push-at.ensures.tree c.push-at.ensures.same c.min.ensures
