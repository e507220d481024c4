use Rattle.std.proofs.Common.{◌<◌, length, refl, ◌∙◌, arith, rules}
use Rattle.controller.proofs.Histories.{going_start, going_more, going_end}
use Rattle.controller.proofs.controller.Controller.perform.Goals as goal

pub loop-i-init : goal.loop-i-init
loop-i-init g c = record { going = going_start _ _ _ _ _; untouched = refl }

pub loop-i-preserved : goal.loop-i-preserved
loop-i-preserved g c =
    let h = c.answer.ensures in
    let i = c.loop-i.invariant in
    record {
      going =
          going_more _ _ _ _ c.args.calls.now c.loop-i.i _ _ c.loop-i.answers _ _ _ _ c.index-calls-i.result _
          c.loop-i-test.true (omega arith) c.index-calls-i.is c.loop-i.auto.work c.loop-i.auto.buffer i.going h.step h.work;
      untouched = h.untouched ∙ i.untouched;
    }

pub returns-clause-run : goal.returns-clause-run
returns-clause-run g c = going_end _ _ _ _ _ c.loop-i.i _ _ (omega arith) (omega arith) c.loop-i.invariant.going

pub offset_bounds-answers-i : goal.offset_bounds-answers-i
offset_bounds-answers-i g c = let h : c.loop-i.i < length c.args.answers.now = omega arith in search rules
