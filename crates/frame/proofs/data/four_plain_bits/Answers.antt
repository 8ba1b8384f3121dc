use Rattle.frame.proofs.DataBits.{plain_four, plain_four_before, plain_four_past}
use Rattle.frame.proofs.data.four_plain_bits.Goals as goal
use Rattle.frame.proofs.data.four_plain_bits.Goals.{else-n-ge16-via-then-n-ge16+else-n-bytes, else-n-ge16-via-else-n-ge16}

pub returns-then-n-bytes : goal.returns-then-n-bytes
returns-then-n-bytes c = plain_four c.args.bytes.now c.args.n c.requires c.if-n-ge16.true

pub returns-else-n-ge16 : goal.returns-else-n-ge16
returns-else-n-ge16 c =
    elim c.else-n-ge16.branch [
      | else-n-ge16-via-then-n-ge16+else-n-bytes w ↦ plain_four_past c.args.bytes.now c.args.n c.requires w.if-n-ge16.true w.if-n-bytes.false
      | else-n-ge16-via-else-n-ge16 w ↦ plain_four_before c.args.bytes.now c.args.n c.requires w.if-n-ge16.false
    ]
