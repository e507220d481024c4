use Rattle.scanning.proofs.Piles.{pile_none}
use Rattle.scanning.proofs.brackets.Brackets.over.Goals as goal

pub returns : goal.returns
returns g c = pile_none _ _ c.new.ensures
