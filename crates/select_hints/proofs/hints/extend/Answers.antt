use Rattle.std.proofs.Common.{map, refl}
use Rattle.lorel_bound.specs.Bound.{range_tree, bound_conds}
use Rattle.select_hints.proofs.MoveLaws.{extends_none, extends_then}
use Rattle.select_hints.proofs.hints.extend.Goals as goal

pub places-init : goal.places-init
places-init c = extends_none (map range_tree c.args.ranges.now) (bound_conds c.args.members.now) (bound_conds c.args.members.now) refl

pub places-preserved : goal.places-preserved
places-preserved c =
    extends_then (map range_tree c.args.ranges.now) (bound_conds c.args.members.now) (bound_conds c.places.members) (bound_conds c.extend_by.new.members)
    c.places.invariant c.in_ok-extend_by.ensures

pub returns : goal.returns
returns c = c.places.invariant
