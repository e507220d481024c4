use Rattle.std.proofs.Common.{refl, ◌∙◌, arith}
use Rattle.scanning.proofs.Scans.{going_roomy, going_more, going_done}
use Rattle.scanning.proofs.engine.Engine.run.Goals as goal

pub loop-word-init : goal.loop-word-init
loop-word-init g c = record { going = record { leads = refl; fits = c.requires }; untouched = refl }

pub perform-requires : goal.perform-requires
perform-requires g c = going_roomy _ _ _ _ _ (omega arith) c.loop-word.invariant.going

pub loop-word-preserved : goal.loop-word-preserved
loop-word-preserved g c =
    let h = c.loop-word.invariant in
    let d = c.perform.ensures in
    record {
      going = going_more _ _ _ _ _ _ (omega arith) h.going d.acts;
      untouched = d.untouched ∙ h.untouched;
    }

pub returns : goal.returns
returns g c =
    let h = c.loop-word.invariant in
    record { runs = going_done _ _ _ _ _ (omega arith) h.going; untouched = h.untouched }
