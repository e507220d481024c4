use Rattle.std.proofs.Common.{Ok, ap, ◌∙◌, rules}
use Rattle.std.proofs.lemmas.Result.{err_from_is_err_and}
use Rattle.translation.proofs.Judging.{in_rung_is, at_rung_is, misread_step, rung_found, none_left, refused_step, taken_step, told_err, head_err, head_ok, end_err, end_ok, stopped}
use Rattle.translation.proofs.card.translate_rungs.Goals as goal

pub returns-in_err-progress : goal.returns-in_err-progress
returns-in_err-progress c =
    let out = err_from_is_err_and c.from_residual.result c.from_residual.ensures.1 in
    told_err _ out.1 out.2 (head_err c.read_head.result _ c.read_head.ensures (in_rung_is _ _ _ _ (λ e x h. search rules) c.map_err.ensures.cases ∙ c.in_err-progress.was))

pub loop-read-init : goal.loop-read-init
loop-read-init c = head_ok c.read_head.result c.in_ok-progress.progress c.args.staged.now c.read_head.ensures (in_rung_is _ _ _ _ (λ e x h. search rules) c.map_err.ensures.cases ∙ c.in_ok-progress.was) c.requires

pub returns-in_err-read : goal.returns-in_err-read
returns-in_err-read c =
    let out = err_from_is_err_and c.from_residual-in_err-read.result c.from_residual-in_err-read.ensures.1 in
    told_err _ out.1 out.2
    (c.loop-read.invariant _
    (misread_step c.args.card.now c.loop-read.progress c.read_rung.new.progress c.loop-read.staged c.read_rung.result c.rung-rung.result _ c.rung-rung.ensures c.read_rung.ensures (in_rung_is _ _ _ _ (λ e x h. search rules) c.map_err-in-loop-read.ensures.cases ∙ c.in_err-read.was)))

pub loop-read-preserved : goal.loop-read-preserved
loop-read-preserved c v j =
    let found = rung_found c.args.card.now c.loop-read.progress c.read_rung.new.progress c.read_rung.result c.rung-rung.result c.in-Some.drawn c.read_rung.ensures (in_rung_is _ _ _ _ (λ e x h. search rules) c.map_err-in-loop-read.ensures.cases ∙ c.in_ok-read.was ∙ ap Ok c.in-Some.is) in
    c.loop-read.invariant v
    (taken_step c.args.card.now c.loop-read.progress c.read_rung.new.progress c.loop-read.staged c.translate.new.store c.in-Some.drawn c.translate.result c.rung-rung.result c.bit-bit.result _ found c.translate.ensures (at_rung_is _ _ _ _ _ (λ e x h. search rules) c.map_err-in-loop-read-2.ensures.cases ∙ c.in_ok-map_err.was) v j)

pub returns-in_err-map_err : goal.returns-in_err-map_err
returns-in_err-map_err c =
    let out = err_from_is_err_and c.from_residual-in_err-map_err.result c.from_residual-in_err-map_err.ensures.1 in
    let found = rung_found c.args.card.now c.loop-read.progress c.read_rung.new.progress c.read_rung.result c.rung-rung.result c.in-Some.drawn c.read_rung.ensures (in_rung_is _ _ _ _ (λ e x h. search rules) c.map_err-in-loop-read.ensures.cases ∙ c.in_ok-read.was ∙ ap Ok c.in-Some.is) in
    told_err _ out.1 out.2
    (c.loop-read.invariant _
    (refused_step c.args.card.now c.loop-read.progress c.read_rung.new.progress c.loop-read.staged c.translate.new.store c.in-Some.drawn c.translate.result c.rung-rung.result c.bit-bit.result _ c.rung-rung.ensures c.bit-bit.ensures found c.translate.ensures (at_rung_is _ _ _ _ _ (λ e x h. search rules) c.map_err-in-loop-read-2.ensures.cases ∙ c.in_err-map_err.was)))

pub returns-in_err-map_err-2 : goal.returns-in_err-map_err-2
returns-in_err-map_err-2 c =
    let out = err_from_is_err_and c.from_residual-in_err-map_err-2.result c.from_residual-in_err-map_err-2.ensures.1 in
    let p = c.read_rung.new.progress in
    let s = c.loop-read.staged in
    let none = none_left c.args.card.now c.loop-read.progress p c.read_rung.result c.rung-rung.result c.in_ok-read.read c.read_rung.ensures (in_rung_is _ _ _ _ (λ e x h. search rules) c.map_err-in-loop-read.ensures.cases ∙ c.in_ok-read.was) c.in_default.is in
    let stop = stopped c.args.card.now c.loop-read.progress p s c.loop-read.invariant none in
    told_err _ out.1 out.2
    (stop.1 _ (end_err p s c.read_end.result c.rung-rung-2.result _ stop.0 c.rung-rung-2.ensures c.read_end.ensures (in_rung_is _ _ _ _ (λ e x h. search rules) c.map_err-2.ensures.cases ∙ c.in_err-map_err-2.was)))

pub returns : goal.returns
returns c =
    let p = c.read_rung.new.progress in
    let s = c.loop-read.staged in
    let none = none_left c.args.card.now c.loop-read.progress p c.read_rung.result c.rung-rung.result c.in_ok-read.read c.read_rung.ensures (in_rung_is _ _ _ _ (λ e x h. search rules) c.map_err-in-loop-read.ensures.cases ∙ c.in_ok-read.was) c.in_default.is in
    let stop = stopped c.args.card.now c.loop-read.progress p s c.loop-read.invariant none in
    stop.1 _ (end_ok p s c.read_end.result c.rung-rung-2.result _ stop.0 c.read_end.ensures (in_rung_is _ _ _ _ (λ e x h. search rules) c.map_err-2.ensures.cases ∙ c.in_ok-map_err-2.was))
