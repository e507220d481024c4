use Rattle.std.proofs.Common.{◌≡◌}
use Rattle.rows.specs.Rows.{parts_of}
use Rattle.std.specs.Iterator.Adapters.{rev_source, enumerate_source, enumerate_count}
use Rattle.std.specs.Slice.Iter.{iter_rest}
use Rattle.elimination.proofs.Gathering.{Gathering}
use Rattle.elimination.proofs.groups.gather.Given as goal

abbrev pub invariant-loop-i : goal.invariant-loop-i
invariant-loop-i l =
    (enumerate_count (rev_source l.i-iterator) ≡ 0)
    × Gathering (iter_rest (enumerate_source (rev_source l.i-iterator))) l.side l.joint l.slots (parts_of l.initial.table.nodes) (parts_of l.table.nodes) l.group
