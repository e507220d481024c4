use Rattle.std.proofs.Common.{[], ◌∷◌, ◌++◌, length, get_or, take, decimal, sym, ap, ◌∙◌, arith}
use Rattle.std.proofs.lemmas.List.{append_assoc, length-append}
use Rattle.instructions.specs.Texts.{field, fields}
use Rattle.instructions.proofs.Texts.{few_digits, joined-next}
use Rattle.instructions.proofs.report.record.Goals as goal

pub loop-number-preserved : goal.loop-number-preserved
loop-number-preserved c =
    let i = c.loop-number.number-index in
    let ns = c.args.numbers.now in
    let n = get_or ns i 0 in
    let word = c.args.word.now in
    let spaced = c.push.ensures.items in
    let whole = c.add_number.ensures ∙ ap (λ l. l ++ decimal n) spaced ∙ append_assoc c.loop-number.line.items (32 ∷ []) (decimal n) in
    let l = ap length whole ∙ length-append c.loop-number.line.items (field n) in
    record {
      so_far = whole ∙ ap (λ l. l ++ field n) c.loop-number.invariant.so_far ∙ append_assoc word (fields (take i ns)) (field n) ∙ ap (λ l. word ++ l) (sym (joined-next field ns i 0 (omega arith)));
      room = omega (arith, few_digits n (omega arith));
    }
