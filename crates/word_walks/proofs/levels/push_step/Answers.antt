use Rattle.std.proofs.Common.{◌≡◌, ◌+◌, List, take, length, get_or, sym, ap, ◌∙◌, subst, arith}
use Rattle.std.specs.List.{sum_by}
use Rattle.std.proofs.lemmas.List.{take_more}
use Rattle.std.proofs.lemmas.List.Sums.{sum_by_more}
use Rattle.std.proofs.Math.Seq.{take-length}
use Rattle.lore_base.specs.Walks.{oid_of}
use Rattle.lore_base.specs.TargetSets.{LeavesTo}
use Rattle.product_walk.specs.ProductWalks.{reads_out}
use Rattle.word_walks.specs.Types.{Oid}
use Rattle.word_walks.specs.inside.Levels.{Gains}
use Rattle.word_walks.proofs.LevelLaws.{step_none, step_more}
use Rattle.word_walks.proofs.levels.push_step.Goals as goal

pub oids-init : goal.oids-init
oids-init g c = record { gains = step_none (g.A.Adjacent.edges c.args.graph.now) c.args.label c.args.next.now; taken = omega arith }

pub oids-preserved : goal.oids-preserved
oids-preserved g c =
    let edges = g.A.Adjacent.edges c.args.graph.now in
    let level = c.args.level.now in
    let place = c.oids.oid-index in
    let oid : Oid = get_or level place (oid_of 0) in
    record {
      gains =
          subst (λ (l : List Oid). Gains (LeavesTo edges l c.args.label) c.args.next.now c.push_children.new.next) (sym (take_more level place (oid_of 0) c.oids-test.true))
          (step_more edges (take place level) oid c.args.label c.args.next.now c.oids.next c.push_children.new.next c.oids.invariant.gains c.in_ok-push_children.ensures.gains);
      taken = omega (arith, c.oids.invariant.taken, c.in_ok-push_children.ensures.steps, sum_by_more (reads_out edges) level place (oid_of 0) c.oids-test.true);
    }

pub returns-clause-gains : goal.returns-clause-gains
returns-clause-gains g c =
    let edges = g.A.Adjacent.edges c.args.graph.now in
    let done : c.oids.oid-index ≡ length c.args.level.now = omega (arith, c.oids-test.false, c.oids.auto.oid-index-end) in
    subst (λ (l : List Oid). Gains (LeavesTo edges l c.args.label) c.args.next.now c.oids.next)
    (ap (λ n. take n c.args.level.now) done ∙ take-length c.args.level.now) c.oids.invariant.gains

pub returns-clause-steps : goal.returns-clause-steps
returns-clause-steps g c =
    let edges = g.A.Adjacent.edges c.args.graph.now in
    let done : c.oids.oid-index ≡ length c.args.level.now = omega (arith, c.oids-test.false, c.oids.auto.oid-index-end) in
    c.oids.invariant.taken
    ∙ ap (λ (l : List Oid). c.args.steps.now + sum_by (reads_out edges) l) (ap (λ n. take n c.args.level.now) done ∙ take-length c.args.level.now)
