use Rattle.std.proofs.Common.{ap, ◌∙◌}
use Rattle.std.specs.List.{slice_get}
use Rattle.banks.proofs.Slots.{copied_item}
use Rattle.banks.proofs.open.slots_read.Goals as goal

pub returns : goal.returns
returns g c = c.copied.ensures ∙ copied_item c.point_slots.result.now c.args.index c.get.result c.get.ensures.lookup ∙ ap (λ ys. slice_get ys c.args.index) c.point_slots.ensures
