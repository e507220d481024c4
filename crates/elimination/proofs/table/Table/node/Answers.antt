use Rattle.std.proofs.Common.{◌≡◌, get_or, rules, sym, ap, ◌∙◌, subst}
use Rattle.rows.specs.Rows.{parts_of}
use Rattle.elimination.specs.declared.table.Node.TheVariants.{Link}
use Rattle.elimination.specs.Trees.{tree_at, formed, Under}
use Rattle.elimination.proofs.Falls.{tree_is, under_at}
use Rattle.elimination.proofs.table.Table.node.Goals as goal

pub returns : goal.returns
returns c =
    let ns = parts_of c.args.self.now.nodes in
    let e : c.unwrap_or.result ≡ get_or ns c.args.at (Link 0) = search rules in
    record {
      tree = tree_is ns c.args.self.now.falls c.args.at ∙ ap (formed (tree_at ns)) (sym e);
      below = subst (λ n. Under c.args.at n) (sym e) (under_at ns c.args.at c.args.self.now.falls);
    }
