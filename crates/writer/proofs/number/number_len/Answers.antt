use Rattle.std.proofs.Common.{arith}
use Rattle.writer.proofs.Digits.{length_decimal}
use Rattle.writer.proofs.number.number_len.Goals as goal

pub returns-in-0-to-9-clause-value : goal.returns-in-0-to-9-clause-value
returns-in-0-to-9-clause-value c = omega (arith, length_decimal 0 c.args.number (omega arith) (omega arith) (omega arith))

pub returns-in-10-to-99-clause-value : goal.returns-in-10-to-99-clause-value
returns-in-10-to-99-clause-value c = omega (arith, length_decimal 1 c.args.number (omega arith) (omega arith) (omega arith))

pub returns-in-100-to-999-clause-value : goal.returns-in-100-to-999-clause-value
returns-in-100-to-999-clause-value c = omega (arith, length_decimal 2 c.args.number (omega arith) (omega arith) (omega arith))

pub returns-in_default-clause-value : goal.returns-in_default-clause-value
returns-in_default-clause-value c = omega (arith, length_decimal c.ilog10.result c.args.number (omega arith) (omega arith) (omega arith))
