use Rattle.std.proofs.Common.{◌≡◌, ℕ, Some, Option, subst, arith}
use Rattle.rows.specs.Rows.{parts_of}
use Rattle.elimination.specs.Answer.{Answer}
use Rattle.elimination.specs.Trees.{tree_at}
use Rattle.wiring.specs.Circuit.{circuit}
use Rattle.translation.proofs.Texts.{room_for}
use Rattle.translation.proofs.rung.translate.Goals as goal

pub draft_of-draft-requires : goal.draft_of-draft-requires
draft_of-draft-requires c =
    let r = c.args.rung.now in
    let d = c.decompose in
    let found : d.result ≡ Some c.in_ok-root.root = cc (c.ok_or.ensures.ok_part, c.in_ok-root.was) in
    let a : Answer (circuit r) (parts_of d.new.table.nodes) (Some c.in_ok-root.root) = subst (λ (o : Option ℕ). Answer (circuit r) (parts_of d.new.table.nodes) o) found d.ensures in
    room_for (circuit r) (tree_at (parts_of d.new.table.nodes) c.in_ok-root.root) a.leaf_count (omega arith) (omega arith)
