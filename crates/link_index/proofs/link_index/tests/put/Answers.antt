use Rattle.std.proofs.Common.{All, Contains, sym, subst, ◌∙◌}
use Rattle.std.proofs.lemmas.Bool.{true≢false}
use Rattle.std.proofs.lemmas.List.Elements.{All-nil}
use Rattle.lore_base.specs.Databases.{AreAscendingEdges}
use Rattle.link_index.proofs.SampleLaws.{none_ascends}
use Rattle.link_index.proofs.link_index.tests.put.Goals as goal

pub change-requires-clause-ascend : goal.change-requires-clause-ascend
change-requires-clause-ascend g c = subst AreAscendingEdges (sym c.new.ensures) none_ascends

pub change-requires-clause-kept : goal.change-requires-clause-kept
change-requires-clause-kept g c = subst (All (Contains c.args.index.now.links)) (sym c.new.ensures) (All-nil (Contains c.args.index.now.links))

pub change-requires-clause-new : goal.change-requires-clause-new
change-requires-clause-new g c = λ is. true≢false (sym (c.in_ok-there.ensures.1 is) ∙ c.if-there.false)
