use Rattle.std.proofs.Common.{◌≡◌, ◌++◌, ◌∷◌, [], ℕ, List, take, length, get_or, sym, ap, ◌∙◌, subst, arith}
use Rattle.std.proofs.lemmas.List.{take_more}
use Rattle.std.proofs.Math.Seq.{take-length}
use Rattle.lore_base.specs.TargetSets.{IsTargetSet}
use Rattle.product_walk.specs.ProductWalks.{IsWalked, reads_out}
use Rattle.product_walk.proofs.LevelLaws.{times_more}
use Rattle.word_walks.specs.Types.{Oid, Label}
use Rattle.word_walks.specs.WordWalks.{TakesAtMost}
use Rattle.word_walks.proofs.LevelLaws.{target_none, target_more}
use Rattle.word_walks.proofs.levels.walk_word.Goals as goal

pub labels-init : goal.labels-init
labels-init g c =
    let edges = g.A.Adjacent.edges c.args.graph.now in
    record {
      set = target_none edges c.args.from c.push.new.self (c.in_ok-push.ensures.ok ∙ ap (λ (l : List Oid). l ++ c.args.from ∷ []) c.cut.ensures);
      taken = λ all whole. omega arith;
    }

pub labels-preserved : goal.labels-preserved
labels-preserved g c =
    let edges = g.A.Adjacent.edges c.args.graph.now in
    let word = c.args.word.now in
    let place = c.labels.label-index in
    let first : Label = record { 0 = 0 } in
    let so_far = c.labels.invariant.set in
    record {
      set =
          subst (λ (w : List Label). IsTargetSet edges c.args.from w c.go_on.new.level.oids) (sym (take_more word place first c.labels-test.true))
          (target_more edges c.args.from (take place word) (get_or word place first) c.labels.level.oids c.go_on.new.level.oids so_far c.in_ok-go_on.ensures.set);
      taken =
          times_more place (reads_out edges) (IsWalked edges c.args.from) c.args.steps.now c.labels.steps c.go_on.new.steps c.labels.level.oids c.labels.invariant.taken
          c.in_ok-go_on.ensures.steps so_far.ascending (λ oid at. (take place word, (so_far.exact oid).0 at));
    }

pub returns-clause-set : goal.returns-clause-set
returns-clause-set g c =
    let edges = g.A.Adjacent.edges c.args.graph.now in
    let done : c.labels.label-index ≡ length c.args.word.now = omega (arith, c.labels-test.false, c.labels.auto.label-index-end) in
    subst (λ (w : List Label). IsTargetSet edges c.args.from w c.labels.level.oids) (ap (λ n. take n c.args.word.now) done ∙ take-length c.args.word.now)
    c.labels.invariant.set

pub returns-clause-steps : goal.returns-clause-steps
returns-clause-steps g c =
    let edges = g.A.Adjacent.edges c.args.graph.now in
    let done : c.labels.label-index ≡ length c.args.word.now = omega (arith, c.labels-test.false, c.labels.auto.label-index-end) in
    subst (λ (n : ℕ). TakesAtMost n (reads_out edges) (IsWalked edges c.args.from) c.args.steps.now c.labels.steps) done c.labels.invariant.taken
