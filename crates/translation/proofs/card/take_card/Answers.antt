use Rattle.instructions.specs.Stores.{stored}
use Rattle.translation.proofs.Keeping.{always_taken}
use Rattle.translation.proofs.card.take_card.Goals as goal

pub unwrap-requires : goal.unwrap-requires
unwrap-requires c = always_taken c.args.card.now (stored c.translate_card.new.staged) c.words.result.now c.of.result c.in_ok-numbers.ensures.verdict c.words.ensures c.of.ensures
