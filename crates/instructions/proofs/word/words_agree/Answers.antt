use Rattle.instructions.proofs.Words.{word_laws}
use Rattle.instructions.proofs.word.words_agree.Goals as goal

pub returns : goal.returns
returns c = word_laws
