use Rattle.std.proofs.Common.{arith}
use Rattle.frame.proofs.DataBits.{masked_all, masked_two, masked_none}
use Rattle.frame.proofs.data.four_masked.Goals as goal

pub returns-then-n-lt16 : goal.returns-then-n-lt16
returns-then-n-lt16 c = masked_none c.args.length c.args.n c.args.key c.requires (λ e. omega arith) (λ e. omega arith)

pub returns-then-n-length : goal.returns-then-n-length
returns-then-n-length c = masked_none c.args.length c.args.n c.args.key c.requires (λ e. c.if-n-length.true (omega arith)) (λ e. c.if-n-length.true (omega arith))

pub returns-then-n-eq0 : goal.returns-then-n-eq0
returns-then-n-eq0 c = masked_all c.args.length c.args.n c.args.key c.requires (omega arith)

pub returns-else-n-eq0 : goal.returns-else-n-eq0
returns-else-n-eq0 c = masked_two c.args.length c.args.n c.args.key c.requires (omega arith)
