use Rattle.std.proofs.Common.{false, set, ap, ◌∙◌, set-set}
use lib.Seq.{set-get_or}
use Rattle.banks.proofs.laws.mark_and_restore.Goals as goal

pub returns-clause-restored : goal.returns-clause-restored
returns-clause-restored g c =
    let ms = c.args.strip.now.marks in
    let i = c.args.input in
    c.mark-2.ensures.marked ∙ ap (λ ns. set ns i c.is_marked-before.result) c.mark.ensures.marked
    ∙ set-set ms i c.args.changed c.is_marked-before.result ∙ ap (set ms i) c.is_marked-before.ensures ∙ set-get_or ms i false
