use Rattle.std.proofs.Common.{rules, arith}
use Rattle.frame.proofs.DataBits.{Full, full, pads_are}
use Rattle.frame.proofs.header.Header.pad_count.Goals as goal

pub overflow_mul-result : goal.overflow_mul-result
overflow_mul-result c =
    let f : Full c.args.self.rate c.args.self.length c.symbol_count.result c.n_dbps.result = full c.args.self.rate c.args.self.length c.symbol_count.result c.n_dbps.result c.symbol_count.ensures c.n_dbps.ensures in
    omega (arith, f.few)

pub overflow_sub-result : goal.overflow_sub-result
overflow_sub-result c =
    let f = full c.args.self.rate c.args.self.length c.symbol_count.result c.n_dbps.result c.symbol_count.ensures c.n_dbps.ensures in
    grind (arith, f.enough)

-- by search, so that whatever is taken away is asked to be the steps
pub returns : goal.returns
returns c = search (rules, pads_are c.args.self.rate c.args.self.length c.symbol_count.result c.n_dbps.result)
