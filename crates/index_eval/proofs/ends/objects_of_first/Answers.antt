use Rattle.std.proofs.Common.{sym, subst}
use Rattle.member_clues.specs.declared.clues.Clue.{Clue}
use Rattle.index_eval.specs.inside.Ends.{IsProbedEnd}
use Rattle.index_eval.proofs.TestLaws.{told_of}
use Rattle.index_eval.proofs.ends.objects_of_first.Goals as goal

pub objects_by-requires : goal.objects_by-requires
objects_by-requires g c =
    subst (λ (clue : Clue). IsProbedEnd clue.end) (sym c.clue-item.is) (c.requires c.clues.clue-index c.clue-item.result c.clues-test.true)

pub returns-then-is_some : goal.returns-then-is_some
returns-then-is_some g c =
    let readers = c.args.readers.now in
    told_of readers.labels.now (g.G.Adjacent.edges readers.graph.now) (g.G.ValueOf.objects readers.graph.now) (g.K.Links.edges readers.links.now)
    (g.V.Values.entries readers.values.now) c.args.clues.now c.clue-item.result c.args.known.now c.args.slot c.args.row.now c.in_ok-found.found
    (c.clues.clue-index, c.clues-test.true, sym c.clue-item.is) (c.is_asked.ensures.slot c.if-is_asked.true) (c.is_asked.ensures.given c.if-is_asked.true)
    c.in_ok-found.ensures
