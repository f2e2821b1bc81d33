use Rattle.std.proofs.Common.{ℤ, List, Option, IfSome, subst}
use Rattle.lore_base.specs.Paths.{path_tree}
use Rattle.lorel_bound.specs.Bound.{bound_path}
use Rattle.word_walks.specs.WordWalks.{IsItsWord}
use Rattle.word_walks.specs.declared.only_words.OnlyWord.{OnlyWord}
use Rattle.slot_joins.specs.Types.{Oid}
use Rattle.slot_joins.specs.inside.Joins.{IsTableOf}
use Rattle.slot_joins.proofs.JoinLaws.{joins_paths}
use Rattle.slot_joins.proofs.members.join_by.Goals as goal

pub returns : goal.returns
returns g c =
    let indexed = c.args.indexed.now in
    let labels = indexed.labels.now in
    let links = g.K.Links.edges indexed.links.now in
    let entries = g.V.Values.entries indexed.values.now in
    let own = subst (λ (found : Option OnlyWord). IfSome found (IsItsWord labels (path_tree c.args.own.now.rest))) c.in-Some-2.is c.in_ok-word.ensures.word in
    let table = subst (λ (found : Option (List (ℤ × Oid))). IfSome found (IsTableOf labels links entries (path_tree c.args.sought.now.rest))) c.in-Some-3.is
    c.in_ok-table.ensures in
    joins_paths labels (g.G.Adjacent.edges indexed.graph.now) (g.G.ValueOf.objects indexed.graph.now) links entries (bound_path c.args.own.now)
    (bound_path c.args.sought.now) _ c.requires.indexes c.in-Some.ensures.own c.in-Some.ensures.sought own table
