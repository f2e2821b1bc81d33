use Rattle.std.proofs.Common.{◌≡◌, ◌++◌, length, subst, sym, ap, ◌∙◌, arith}
use Rattle.product_walk.specs.Types.{Edge}
use Rattle.product_walk.specs.inside.Arcs.{against, AreArcs}
use Rattle.product_walk.proofs.ArcLaws.{arcs_against, count_entering}
use Rattle.product_walk.proofs.direction.AgainstDirection.read.Goals as goal

pub returns-clause-arcs : goal.returns-clause-arcs
returns-clause-arcs g c =
    let edges = g.K.Links.edges c.args.self.now.links.now in
    let entering = c.in_ok-parents.ensures.edges in
    subst (AreArcs (against edges) (λ edge. edge.parent) c.args.oid)
    (sym (entering.1 ∙ ap (λ l. l ++ entering.0) c.requires))
    (arcs_against edges entering.0 c.args.oid entering.2)

pub returns-clause-steps : goal.returns-clause-steps
returns-clause-steps g c =
    let edges = g.K.Links.edges c.args.self.now.links.now in
    let entering = c.in_ok-parents.ensures.edges in
    let all : c.parents.new.buf ≡ entering.0 = entering.1 ∙ ap (λ l. l ++ entering.0) c.requires in
    omega (arith, c.in_ok-parents.ensures.steps, ap (length {A = Edge}) all, ap (length {A = Edge}) c.requires, count_entering edges entering.0 c.args.oid entering.2)
