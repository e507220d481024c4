use Rattle.std.proofs.Common.{eqb, rules, tests}
use Rattle.std.proofs.lemmas.Iterator.{YieldsList-from_slice}
use Rattle.std.proofs.lemmas.Iterator.Search.{position_from_yields_List}
use Rattle.listings.proofs.Bytes.{byte_found}
use Rattle.listings.proofs.line.find_byte.Goals as goal

pub returns : goal.returns
returns c =
    byte_found c.args.byte c.args.text.now c.position.result
    (position_from_yields_List (λ b. eqb b c.args.byte) _ _ c.position.result c.position.ensures.ran (YieldsList-from_slice c.args.text.now cc) (λ x b q k. search (rules, tests)))
