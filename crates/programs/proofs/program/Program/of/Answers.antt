use Rattle.std.proofs.Common.{ℕ, List, Err, sym, ap, ◌∙◌, subst, arith}
use Rattle.std.proofs.lemmas.List.{take_all}
use Rattle.std.proofs.lemmas.Result.{err_from_is_err_and}
use Rattle.programs.specs.Rules.{concluded, judged}
use Rattle.programs.specs.Drafts.{standing}
use Rattle.programs.specs.Programs.{Taken}
use Rattle.programs.proofs.Drafts.{judged_refused, judged-all}
use Rattle.programs.proofs.program.Program.of.Goals as goal

pub returns-in_err-add : goal.returns-in_err-add
returns-in_err-add c =
    let words = c.args.words.now in
    let p = err_from_is_err_and c.from_residual.result c.from_residual.ensures.1 in
    subst (λ r. Taken words (judged words) r) (sym (p.1 ∙ ap Err p.2))
    (judged_refused words c.loop-word.word-index (standing c.loop-word.draft) c.in_err-add.field-0.0 (omega arith) c.loop-word.invariant.0 c.in_err-add.ensures.0)

pub returns : goal.returns
returns c =
    let words = c.args.words.now in
    let i = c.loop-word.word-index in
    let e = c.loop-word.invariant.1 ∙ take_all i words (omega arith) in
    let v = judged-all words i (standing c.loop-word.draft) (omega arith) c.loop-word.invariant.0 in
    let t = subst (λ (l : List ℕ). Taken l (concluded (standing c.loop-word.draft)) c.finish.result) e c.finish.ensures in
    subst (λ x. Taken words x c.finish.result) v t
