use Rattle.std.proofs.Common.{◌≡◌, ◌+◌, ◌^◌, ◌-◌, max, min, get_or, drop, ap, ◌∙◌, arith}
use Rattle.instructions.specs.Words.{instruction_of}
use Rattle.instructions.specs.Depth.{opened_if, deepest}
use Rattle.instructions.proofs.Deepest.{opened_bound, deepest-more}
use Rattle.instructions.proofs.brackets.depth.Goals as goal

pub loop-word-preserved : goal.loop-word-preserved
loop-word-preserved c =
    let i = c.loop-word.word-index in
    let ws = c.args.words.now in
    let n = c.loop-word.«open» in
    let o = instruction_of (get_or ws i 0) in
    let few = opened_bound n o in
    let said : c.ok.result ≡ o = c.ok.ensures.value ∙ c.try_from.ensures in
    let m : c.brackets_after-open.result ≡ opened_if n o = c.brackets_after-open.ensures ∙ ap (λ x. min (opened_if n x) (2 ^ 64 - 1)) said ∙ omega arith in
    let x = c.max-deepest.ensures in
    let step = deepest-more n c.brackets_after-open.result c.loop-word.deepest ws i (omega arith) m c.loop-word.invariant.2 in
    (ap (λ k. max k (deepest c.brackets_after-open.result (drop (i + 1) ws))) x ∙ step ∙ c.loop-word.invariant.0, omega arith, omega arith)
