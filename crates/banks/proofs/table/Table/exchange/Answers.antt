use Rattle.std.proofs.Common.{◌<◌, sym, subst, rules}
use Rattle.banks.proofs.Patching.{Permutation, permutation_swapped}
use Rattle.banks.proofs.table.Table.exchange.Goals as goal

pub invariant_of-self : goal.invariant_of-self
invariant_of-self c =
    let t = c.args.self.now in
    let ha : c.args.a < 256 = search rules in
    let hb : c.args.b < 256 = search rules in
    let p : Permutation c.args.self.now.to = record { whole = t.whole; within = t.within; apart = t.apart } in
    let q : Permutation c.swap.new.self = subst Permutation (sym (c.swap.ensures.by_index.3 0)) (permutation_swapped t.to t.whole c.args.a c.args.b ha hb p) in
    record { whole = q.whole; within = q.within; apart = q.apart }
