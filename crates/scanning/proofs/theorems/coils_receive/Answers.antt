use Rattle.scanning.proofs.Receiving.{on_by_a_path, plain_is_two}
use Rattle.scanning.proofs.theorems.coils_receive.Goals as goal

pub returns : goal.returns
returns g c = record { path = on_by_a_path; plain = plain_is_two }
