use Rattle.std.proofs.Common.{length, arith}
use Rattle.frame.proofs.DataBits.{fill_none, fill_more, fill_all}
use Rattle.frame.proofs.data.fill_data_bits.Goals as goal

pub loop-g-init : goal.loop-g-init
loop-g-init c = fill_none c.args.bytes.now c.args.start c.args.register c.args.out.now

pub loop-g-preserved : goal.loop-g-preserved
loop-g-preserved c =
    let next = c.next_four_key_bits-key_bits in
    fill_more c.args.bytes.now c.args.start c.args.register c.loop-g.g c.loop-g.here c.four_plain_bits.result next.result.0 c.four_masked-masked.result next.result.1 _
    c.loop-g.out c.write_four.new.out (omega arith) (omega arith) c.loop-g.invariant c.four_plain_bits.ensures next.ensures.bits c.four_masked-masked.ensures
    c.write_four.ensures next.ensures.moved

pub returns : goal.returns
returns c =
    let all = fill_all c.args.bytes.now c.args.start c.args.register c.loop-g.g c.loop-g.here c.loop-g.out (length c.args.out.now) (omega arith) (omega arith) c.loop-g.invariant in
    record { bits = all.0; moved = all.1 }
