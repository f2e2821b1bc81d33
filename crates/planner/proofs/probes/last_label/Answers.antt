use Rattle.std.proofs.Common.{ℕ, List, map, sym, subst}
use Rattle.lore_base.specs.Paths.{PathTree, path_tree}
use Rattle.planner.specs.inside.Probes.{EndsIn, PartsEndIn}
use Rattle.planner.proofs.ReadLaws.{weaker_if_none}
use Rattle.planner.proofs.ProbeLaws.{ends_in_parts}
use Rattle.planner.proofs.probes.last_label.Goals as goal

pub returns-in-Seq-clause-none : goal.returns-in-Seq-clause-none
returns-in-Seq-clause-none c =
    weaker_if_none c.last_part_label.result ((label : List ℕ) → PartsEndIn (map path_tree c.as_slice.result.now) label → ⊥)
    ((label : List ℕ) → EndsIn (path_tree c.args.path.now) label → ⊥)
    (λ none label ends. none label (subst (λ (trees : List PathTree). PartsEndIn trees label) (sym c.as_slice.ensures.trees)
    (ends_in_parts c.args.path.now c.in-Seq.parts label c.in-Seq.is ends)))
    c.last_part_label.ensures.none
