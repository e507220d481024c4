use Rattle.std.proofs.Common.{rules}
use Rattle.piles.proofs.Laying.{board_laid}
use Rattle.piles.proofs.pile.Layer+Layer+B.lay_board.Goals as goal

pub returns : goal.returns
returns g c = board_laid c.laid.ensures (λ b l h. search rules) (λ l p h. search rules)
