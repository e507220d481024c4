use Rattle.instructions.proofs.Texts.{one_digit, two_digits, all_three}
use Rattle.std.proofs.Common.{sym, arith}
use Rattle.instructions.proofs.text.digits_in.Goals as goal

pub returns-in-0-to-9-clause-value : goal.returns-in-0-to-9-clause-value
returns-in-0-to-9-clause-value c = sym (one_digit c.args.number (omega arith))

pub returns-in-10-to-99-clause-value : goal.returns-in-10-to-99-clause-value
returns-in-10-to-99-clause-value c = sym (two_digits c.args.number (omega arith) (omega arith))

pub returns-in_default-clause-value : goal.returns-in_default-clause-value
returns-in_default-clause-value c = sym (all_three c.args.number (omega arith) (omega arith))
