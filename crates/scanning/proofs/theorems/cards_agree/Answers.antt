use Rattle.scanning.proofs.CardRungs.{cards_listed, one_meaning, cards_agree}
use Rattle.scanning.proofs.theorems.cards_agree.Goals as goal

pub returns : goal.returns
returns g c = record { listed = cards_listed; meaning = one_meaning; agree = cards_agree }
