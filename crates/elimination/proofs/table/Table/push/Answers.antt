use Rattle.std.proofs.Common.{length, ap, ◌∙◌}
use Rattle.rows.specs.Rows.{parts_of}
use Rattle.rows.proofs.Keeping.{kept_one, kept_len}
use Rattle.elimination.specs.Trees.{lower, tree_at}
use Rattle.elimination.proofs.Falls.{falls_more, tree_same, tree_new}
use Rattle.elimination.proofs.table.Table.push.Goals as goal

pub invariant_of-self : goal.invariant_of-self
invariant_of-self c =
    let ns = parts_of c.args.self.now.nodes in
    record { falls = ap (lower 0) (kept_one _ _ c.push.result _ c.requires.room c.push.ensures) ∙ falls_more ns c.args.node c.args.self.now.falls c.requires.falls }

pub returns-clause-tree : goal.returns-clause-tree
returns-clause-tree c =
    let ns = parts_of c.args.self.now.nodes in
    ap (λ z. tree_at z (length ns)) (kept_one _ _ c.push.result _ c.requires.room c.push.ensures) ∙ tree_new ns c.args.node c.args.self.now.falls c.requires.falls

pub returns-clause-same : goal.returns-clause-same
returns-clause-same c = λ i h. ap (λ z. tree_at z i) (kept_one _ _ c.push.result _ c.requires.room c.push.ensures) ∙ tree_same (parts_of c.args.self.now.nodes) c.args.node c.args.self.now.falls i h

pub returns-clause-len : goal.returns-clause-len
returns-clause-len c = kept_len _ _ c.push.result _ c.requires.room c.push.ensures
