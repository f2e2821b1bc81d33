use Rattle.std.proofs.Common.{◌≡◌, List, take, length, get_or, sym, ap, ◌∙◌, subst, arith}
use Rattle.std.proofs.lemmas.List.{take_more}
use Rattle.std.proofs.Math.Seq.{take-length}
use Rattle.lore_base.specs.Walks.{edge_of, oid_of}
use Rattle.word_walks.specs.Types.{Edge}
use Rattle.word_walks.specs.inside.Levels.{Gains, IsEndBy}
use Rattle.word_walks.proofs.LevelLaws.{ends_none, ends_more}
use Rattle.word_walks.proofs.levels.push_ends.Goals as goal

pub edges-init : goal.edges-init
edges-init c = ends_none c.args.label c.args.next.now

pub edges-preserved : goal.edges-preserved
edges-preserved c =
    let edges = c.args.edges.now in
    let first : Edge = edge_of (oid_of 0) (record { 0 = 0 }) (oid_of 0) in
    let edge : Edge = get_or edges c.edges.edge-index first in
    subst (λ (l : List Edge). Gains (IsEndBy l c.args.label) c.args.next.now c.push_if.new.next)
    (sym (take_more edges c.edges.edge-index first c.edges-test.true))
    (ends_more (take c.edges.edge-index edges) edge c.args.label c.args.next.now c.edges.next c.push_if.new.next c.edges.invariant c.in_ok-push_if.ensures)

pub returns : goal.returns
returns c =
    let done : c.edges.edge-index ≡ length c.args.edges.now = omega (arith, c.edges-test.false, c.edges.auto.edge-index-end) in
    subst (λ (l : List Edge). Gains (IsEndBy l c.args.label) c.args.next.now c.edges.next)
    (ap (λ n. take n c.args.edges.now) done ∙ take-length c.args.edges.now) c.edges.invariant
