use Rattle.std.proofs.Common.{◌≡◌, arith}
use Rattle.std.proofs.lemmas.Grind.{common_steps}
use Rattle.listings.specs.Reading.{verdict}
use Rattle.listings.specs.Answers.{words_in}
use Rattle.listings.proofs.Laws.{exact}
use Rattle.listings.proofs.listing.read.Goals as goal

pub returns-clause-exact : goal.returns-clause-exact
returns-clause-exact c =
    let v : words_in c.map_err.result ≡ verdict c.args.bytes.now = grind (arith, common_steps) in
    exact c.args.bytes.now c.map_err.result v
