use Rattle.std.proofs.Common.{length, decimal, ap, ◌∙◌, arith}
use Rattle.std.proofs.lemmas.List.{length-append}
use Rattle.instructions.proofs.Texts.{three_digits}
use Rattle.instructions.proofs.instruction.Operand.add_to.Goals as goal

pub returns-in-At-clause-bound : goal.returns-in-At-clause-bound
returns-in-At-clause-bound c =
    let l = ap length c.add_number.ensures ∙ length-append c.push-in-At.new.self.items (decimal c.in-At.point.number) in
    let a = c.push.ensures.len in
    let b = c.push-in-At.ensures.len in
    omega (arith, three_digits c.in-At.point.number (omega arith))
