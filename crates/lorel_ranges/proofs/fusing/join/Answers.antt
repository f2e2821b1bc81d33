use Rattle.std.proofs.Common.{List, Bor, subst}
use Rattle.std.proofs.lemmas.Result.{on_ok_weaker}
use Rattle.lore_base.specs.declared.paths.Path.{Path}
use Rattle.lorel_ranges.specs.declared.places.Place.{Place}
use Rattle.lorel_ranges.specs.inside.Joins.{TakesOver}
use Rattle.lorel_ranges.proofs.PassLaws.{joined_at}
use Rattle.lorel_ranges.proofs.fusing.join.Goals as goal

pub returns : goal.returns
returns c =
    let left = c.leave-parts in
    let first = c.index_mut.result.now in
    let second = c.index_mut-2.result.now in
    let both = c.take_over.new.range in
    on_ok_weaker c.take_over.result
    (λ takes. joined_at c.args.ranges.now.items c.args.number c.args.later first second left.new.range both c.requires.before c.requires.within
    c.index_mut.ensures.value c.index_mut-2.ensures.value left.ensures.joined
    (subst (λ (parts : List (Bor Path)). TakesOver first.start parts second both) left.ensures.parts
    (subst (λ (start : Place). TakesOver start left.result.1.items second both) left.ensures.start takes)))
    c.take_over.ensures
