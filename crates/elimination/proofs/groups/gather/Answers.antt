use Rattle.std.proofs.Common.{◌≡◌, ◌+◌, length, ◌∙◌, arith}
use Rattle.rows.specs.Rows.{parts_of}
use Rattle.std.specs.Iterator.Adapters.{rev_source, enumerate_source, enumerate_count}
use Rattle.std.specs.Slice.Iter.{iter_rest}
use Rattle.elimination.proofs.Gathering.{gathering_more, asks}
use Rattle.elimination.proofs.groups.gather.Goals as goal

pub extend-group-requires : goal.extend-group-requires
extend-group-requires c =
    let t = asks _ _ _ c.args.side c.args.joint c.args.slots.now (parts_of c.args.table.now.nodes) (parts_of c.loop-i.table.nodes) c.touching.result c.loop-i.group c.in-Some.ensures.steps.1.0 c.requires.stands c.requires.room c.touching.ensures c.loop-i.invariant.1 in
    record { slot = t.0; group = t.1; room = t.2 }

pub loop-i-preserved : goal.loop-i-preserved
loop-i-preserved c =
    let i : c.in-Some.i ≡ enumerate_count (rev_source c.loop-i.i-iterator) + length (iter_rest (enumerate_source (rev_source c.next.new.self))) = c.in-Some.ensures.steps.1.1 in (
      c.in-Some.ensures.steps.0 ∙ c.loop-i.invariant.0,
      gathering_more _ _ _ c.in-Some.i c.args.side c.args.joint c.args.slots.now (parts_of c.args.table.now.nodes) (parts_of c.loop-i.table.nodes) _ c.touching.result c.loop-i.group _ c.in-Some.ensures.steps.1.0 (omega (arith, i, c.loop-i.invariant.0)) c.told-slots c.requires.stands c.touching.ensures c.loop-i.invariant.1 c.extend-group.ensures.grown c.extend-group.ensures.value,
    )
