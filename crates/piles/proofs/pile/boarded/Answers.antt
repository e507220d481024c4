use Rattle.std.proofs.Common.{refl}
use Rattle.piles.proofs.pile.boarded.Goals as goal

pub returns : goal.returns
returns g c = (c.over.result, record { below = c.over.ensures.below; straight = c.over.ensures.straight }, refl)
