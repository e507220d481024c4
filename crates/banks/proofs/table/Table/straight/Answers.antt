use Rattle.std.proofs.Common.{sym, ◌∙◌, arith, rules}
use Rattle.banks.specs.Patches.{Straight}
use Rattle.banks.proofs.table.Table.straight.Goals as goal

pub invariant_of-result : goal.invariant_of-result
invariant_of-result c =
    let own : Straight c.from_fn-to.result = λ i h. let at = c.from_fn-to.ensures.items.at i 0 h in search rules in
    record {
      whole = c.from_fn-to.ensures.items.long;
      within = λ i h. omega (arith, own i h);
      apart = λ i j h. sym (own i h.0) ∙ h.2 ∙ own j h.1;
    }

pub returns : goal.returns
returns c = λ i h. let at = c.from_fn-to.ensures.items.at i 0 h in search rules
