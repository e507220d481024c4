use Rattle.std.proofs.Common.{length, refl, sym, ap, subst, arith}
use Rattle.rows.specs.Rows.{parts_of}
use Rattle.elimination.proofs.Placing.{Loopless, placed-none, placed-more, rung_loopless}
use Rattle.elimination.proofs.reduction.Reduction.of.Goals as goal

pub loop-i-init : goal.loop-i-init
loop-i-init c = placed-none _ _ _ refl (ap length c.new-table.ensures) refl

pub loop-i-preserved : goal.loop-i-preserved
loop-i-preserved c =
    placed-more c.loop-i.i _ c.loop-i.slots (parts_of c.loop-i.table.nodes) (parts_of c.push-at.new.self.nodes) c.push-at.result c.loop-i.invariant (omega (arith, ap length c.deref-link-items.ensures, c.args.rung.now.most_links)) c.loop-i-test.true (subst Loopless (sym c.deref-link-items.ensures) (rung_loopless c.args.rung.now)) c.push-at.ensures.value c.push-at.ensures.len c.push-at.ensures.tree c.push-at.ensures.same
