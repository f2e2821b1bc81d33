use Rattle.std.proofs.Common.{◌-◌, map, ap, refl, arith}
use Rattle.lore_base.specs.Paths.{path_tree, leaves_of}
use Rattle.path_expr.proofs.BeginLaws.{parts_back, leaves_behind}
use Rattle.path_expr.proofs.last_parts.last_part.Goals as goal

pub returns-clause-last : goal.returns-clause-last
returns-clause-last c =
    parts_back c.args.parts.now (map path_tree c.args.parts.now) c.args.count c.index-parts-count.result refl (omega arith) (omega arith) c.index-parts-count.is

pub returns-clause-room : goal.returns-clause-room
returns-clause-room c =
    let trees = map path_tree c.args.parts.now in
    let back = parts_back c.args.parts.now trees c.args.count c.index-parts-count.result refl (omega arith) (omega arith) c.index-parts-count.is in
    omega (arith, leaves_behind (c.args.count - 1) trees, ap leaves_of back)
