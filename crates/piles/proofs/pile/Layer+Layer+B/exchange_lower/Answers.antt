use Rattle.std.proofs.Common.{rules}
use Rattle.piles.proofs.pile.Layer+Layer+B.exchange_lower.Goals as goal

pub returns-clause-after : goal.returns-clause-after
returns-clause-after g c = let h = c.arrange_lower.ensures in (h.0, let m = h.1 in search rules, h.2)
