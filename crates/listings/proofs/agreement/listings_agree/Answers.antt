use Rattle.listings.proofs.Laws.{listing_laws}
use Rattle.listings.proofs.agreement.listings_agree.Goals as goal

pub returns : goal.returns
returns c = listing_laws
