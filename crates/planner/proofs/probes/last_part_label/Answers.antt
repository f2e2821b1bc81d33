use Rattle.std.proofs.Common.{◌≡◌, ◌-◌, length, map, sym, ap, ◌∙◌}
use Rattle.std.specs.Prelude.{Some, slice_get, option_copied}
use Rattle.lore_base.specs.Paths.{path_tree, step}
use Rattle.planner.specs.Types.{Plain}
use Rattle.planner.specs.inside.Probes.{PartsEndIn}
use Rattle.planner.proofs.ReadLaws.{weaker_if_some}
use Rattle.planner.proofs.ProbeLaws.{last_part}
use Rattle.planner.proofs.probes.last_part_label.Goals as goal

pub returns-in-Some-clause-some : goal.returns-in-Some-clause-some
returns-in-Some-clause-some c =
    let is : slice_get c.args.parts.now (length c.args.parts.now - 1) ≡ Some c.in-Some.part.now = sym c.last.ensures.value ∙ ap option_copied c.in-Some.is in
    weaker_if_some c.plain_label.result (λ label. path_tree c.in-Some.part.now ≡ step (Plain label.now))
    (λ label. PartsEndIn (map path_tree c.args.parts.now) label.now)
    (λ label same. last_part c.args.parts.now c.in-Some.part.now label.now is same)
    c.plain_label.ensures.some
