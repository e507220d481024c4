use Rattle.std.proofs.Common.{rules, arith}
use Rattle.cards.proofs.Places.{bit_of}
use Rattle.cards.proofs.bits.bit.Goals as goal

pub returns-clause-value : goal.returns-clause-value
returns-clause-value c = bit_of c.args.bytes.now c.args.i c.map_or.result c.get.result _ c.map_or.ensures (λ x p. search rules) (c.get.ensures.lookup.4 (omega arith) 0)
