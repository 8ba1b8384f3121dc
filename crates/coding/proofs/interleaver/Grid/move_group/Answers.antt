use Rattle.std.proofs.Common.{◌≡◌, ℕ, ◌+◌, ◌*◌, ◌<◌, length, set, subst, arith, rules}
use Rattle.coding.specs.Interleaver.{origin, Moved}
use Rattle.coding.proofs.Interleaving.{within, read_at}
use Rattle.coding.proofs.Deinterleaving.{flag, ends_in_group, moved_more}
use Rattle.coding.proofs.interleaver.Grid.move_group.Goals as goal

pub bounds-from-origin : goal.bounds-from-origin
bounds-from-origin g c =
    let e = ends_in_group (flag g.row.BACK) g.row.COLUMNS g.row.TURN g.row.GROUPS (length c.args.self.now.from.now) c.args.column c.args.group c.loop-t.t c.source.result c.ends-origin.result.0 c.ends-origin.result.1
    c.args.self.now.is_grid c.requires.column_bound c.requires.group_bound (omega arith) c.source.ensures.value c.ends-origin.ensures.origin c.ends-origin.ensures.target in
    omega (arith, e.origin_fits)

pub offset_bounds-from-origin : goal.offset_bounds-from-origin
offset_bounds-from-origin g c =
    let e = ends_in_group (flag g.row.BACK) g.row.COLUMNS g.row.TURN g.row.GROUPS (length c.args.self.now.from.now) c.args.column c.args.group c.loop-t.t c.source.result c.ends-origin.result.0 c.ends-origin.result.1
    c.args.self.now.is_grid c.requires.column_bound c.requires.group_bound (omega arith) c.source.ensures.value c.ends-origin.ensures.origin c.ends-origin.ensures.target in
    let h : c.ends-origin.result.0 < length c.args.self.now.from.now = e.origin_fits in search rules

pub bounds-to-target : goal.bounds-to-target
bounds-to-target g c =
    let e = ends_in_group (flag g.row.BACK) g.row.COLUMNS g.row.TURN g.row.GROUPS (length c.args.self.now.from.now) c.args.column c.args.group c.loop-t.t c.source.result c.ends-origin.result.0 c.ends-origin.result.1
    c.args.self.now.is_grid c.requires.column_bound c.requires.group_bound (omega arith) c.source.ensures.value c.ends-origin.ensures.origin c.ends-origin.ensures.target in
    omega (arith, e.target_fits)

pub offset_bounds-to-target : goal.offset_bounds-to-target
offset_bounds-to-target g c =
    let e = ends_in_group (flag g.row.BACK) g.row.COLUMNS g.row.TURN g.row.GROUPS (length c.args.self.now.from.now) c.args.column c.args.group c.loop-t.t c.source.result c.ends-origin.result.0 c.ends-origin.result.1
    c.args.self.now.is_grid c.requires.column_bound c.requires.group_bound (omega arith) c.source.ensures.value c.ends-origin.ensures.origin c.ends-origin.ensures.target in
    let h : c.ends-origin.result.1 < length c.loop-t.to = omega (arith, e.target_fits) in search rules

pub loop-t-preserved : goal.loop-t-preserved
loop-t-preserved g c before =
    let e = ends_in_group (flag g.row.BACK) g.row.COLUMNS g.row.TURN g.row.GROUPS (length c.args.self.now.from.now) c.args.column c.args.group c.loop-t.t c.source.result c.ends-origin.result.0 c.ends-origin.result.1
    c.args.self.now.is_grid c.requires.column_bound c.requires.group_bound (omega arith) c.source.ensures.value c.ends-origin.ensures.origin c.ends-origin.ensures.target in
    let from = c.args.self.now.from.now in
    let grid = c.args.self.now.is_grid in
    let b = within g.row.COLUMNS g.row.TURN g.row.GROUPS (length from) c.args.column c.args.group grid c.requires.column_bound c.requires.group_bound in
    let first = g.row.TURN * (g.row.GROUPS * c.args.column + c.args.group) in
    let x = c.index-from-origin.result in
    let back = flag g.row.BACK in
    let read = read_at from c.ends-origin.result.0 (origin back g.row.COLUMNS (length from) g.row.TURN (first + c.loop-t.t)) x e.origin_fits c.index-from-origin.is e.from_origin in
    let next : first + c.loop-t.t + 1 ≡ first + (c.loop-t.t + 1) = omega arith in
    subst (λ (m : ℕ). Moved back g.row.COLUMNS g.row.TURN from (set c.loop-t.to c.ends-origin.result.1 x) m) next
    (moved_more back g.row.COLUMNS g.row.TURN g.row.GROUPS from grid c.loop-t.to c.ends-origin.result.1 (first + c.loop-t.t) x (omega arith) (omega (arith, b.fits)) e.to_target read (c.loop-t.invariant before))
