use Rattle.std.proofs.Common.{length, sym, arith}
use Rattle.coding.proofs.Interleaving.{source_by, source_fits}
use Rattle.coding.proofs.interleaver.Grid.source.Goals as goal

pub overflow_mul-result-2 : goal.overflow_mul-result-2
overflow_mul-result-2 g c =
    let e = source_by g.row.COLUMNS g.row.TURN g.row.GROUPS (length c.args.self.now.from.now) c.args.column c.args.group c.args.t c.args.self.now.is_grid c.requires.column_bound c.requires.group_bound c.requires.t_bound c.within_group-turned.result (sym c.within_group-turned.ensures) in
    let f = source_fits g.row.COLUMNS g.row.TURN g.row.GROUPS (length c.args.self.now.from.now) c.args.column c.args.group c.args.t c.args.self.now.is_grid c.requires.column_bound c.requires.group_bound c.requires.t_bound in
    omega arith

pub overflow_add-result-2 : goal.overflow_add-result-2
overflow_add-result-2 g c =
    let e = source_by g.row.COLUMNS g.row.TURN g.row.GROUPS (length c.args.self.now.from.now) c.args.column c.args.group c.args.t c.args.self.now.is_grid c.requires.column_bound c.requires.group_bound c.requires.t_bound c.within_group-turned.result (sym c.within_group-turned.ensures) in
    let f = source_fits g.row.COLUMNS g.row.TURN g.row.GROUPS (length c.args.self.now.from.now) c.args.column c.args.group c.args.t c.args.self.now.is_grid c.requires.column_bound c.requires.group_bound c.requires.t_bound in
    omega arith

pub returns : goal.returns
returns g c =
    let e = source_by g.row.COLUMNS g.row.TURN g.row.GROUPS (length c.args.self.now.from.now) c.args.column c.args.group c.args.t c.args.self.now.is_grid c.requires.column_bound c.requires.group_bound c.requires.t_bound c.within_group-turned.result (sym c.within_group-turned.ensures) in
    let f = source_fits g.row.COLUMNS g.row.TURN g.row.GROUPS (length c.args.self.now.from.now) c.args.column c.args.group c.args.t c.args.self.now.is_grid c.requires.column_bound c.requires.group_bound c.requires.t_bound in
    record { value = e; within = omega arith }
