use Rattle.translation.proofs.Accepting.{accepted_exactly}
use Rattle.translation.proofs.laws.acceptance_is_exact.Goals as goal

pub returns : goal.returns
returns c = accepted_exactly
