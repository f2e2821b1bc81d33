use Rattle.std.proofs.Common.{Option, IfSome, subst}
use Rattle.lore_base.specs.Paths.{path_tree}
use Rattle.word_walks.specs.WordWalks.{IsItsWord}
use Rattle.word_walks.specs.declared.only_words.OnlyWord.{OnlyWord}
use Rattle.slot_joins.proofs.JoinLaws.{table_for, values_of}
use Rattle.slot_joins.proofs.members.table_of.Goals as goal

pub new-requires : goal.new-requires
new-requires g c =
    let indexed = c.args.indexed.now in
    values_of (g.G.ValueOf.objects indexed.graph.now) (g.G.Adjacent.edges indexed.graph.now) (g.K.Links.edges indexed.links.now)
    (g.V.Values.entries indexed.values.now) c.requires.indexes

pub returns : goal.returns
returns g c =
    let indexed = c.args.indexed.now in
    let labels = indexed.labels.now in
    let path = path_tree c.args.path.now in
    let its = subst (λ (found : Option OnlyWord). IfSome found (IsItsWord labels path)) c.in-Some.is c.in_ok-only.ensures.word in
    table_for labels (g.K.Links.edges indexed.links.now) (g.V.Values.entries indexed.values.now) path c.in-Labels.word c.as_slice.result.now c.new.result
    (subst (λ (o : OnlyWord). IsItsWord labels path o) c.in-Labels.is its) c.as_slice.ensures c.new.ensures
