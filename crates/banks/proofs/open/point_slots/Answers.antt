use Rattle.std.proofs.Common.{◌≡◌, min, length, take, ap, ◌∙◌, rules}
use Rattle.std.proofs.lemmas.List.{take_min}
use Rattle.banks.proofs.open.point_slots.Goals as goal

pub returns : goal.returns
returns g c =
    let e : c.min.result ≡ min 768 (length c.args.slots.now) = search rules in
    ap (λ n. take n c.args.slots.now) e ∙ take_min 768 c.args.slots.now
