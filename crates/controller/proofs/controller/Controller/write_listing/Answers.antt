use Rattle.controller.proofs.Steps.{write_listing_step}
use Rattle.controller.proofs.controller.Controller.write_listing.Goals as goal

pub returns : goal.returns
returns g c = write_listing_step _ _ _ _ _ _ c.write_listing.ensures
