use Rattle.std.proofs.Common.{◌≡◌, ◌+◌, ◌-◌, ◌∷◌, ℕ, suc, List, map, drop, length, sym, ap, ◌∙◌, subst, arith}
use Rattle.std.specs.List.{sum_by}
use Rattle.std.proofs.Math.Seq.{drop-cons, drop-length}
use Rattle.lore_base.specs.Paths.{PathTree, path_tree, trees_of, seq, more}
use Rattle.lore_base.specs.declared.paths.Path.{Path}
use Rattle.lore_base.specs.TargetSets.{ListsInOrder}
use Rattle.product_walk.specs.Types.{Oid}
use Rattle.product_walk.specs.ProductWalks.{ReachesInto, WalksInto}
use Rattle.product_walk.specs.inside.Arcs.{against, reads_entering}
use Rattle.product_walk.specs.inside.Ways.{IsLabel, GoesBy, FromSome, TakesTimes}
use Rattle.product_walk.proofs.LevelLaws.{back_start, back_next, walks_back, times_more}
use Rattle.product_walk.proofs.label_paths.reaching_in_turn.Goals as goal

pub taken-init : goal.taken-init
taken-init g c =
    let labels = g.T.LabelTest.texts c.args.labels.now in
    let edges = g.K.Links.edges c.args.links.now in
    let paths = c.args.paths.now in
    let whole : length paths - 0 ≡ length paths = omega arith in
    let none_left = ap (λ (l : List Path). seq (trees_of (map path_tree l))) (ap (λ (n : ℕ). drop n paths) whole ∙ drop-length paths) in
    record {
      level =
          subst (λ (t : PathTree). ListsInOrder (ReachesInto labels edges t c.args.to.now) c.in_ok-level.level) (sym none_left)
          (back_start labels edges c.args.to.now c.in_ok-level.level c.in_ok-level.ensures);
      taken = λ all whole. omega arith;
    }

pub label_of-requires : goal.label_of-requires
label_of-requires g c =
    subst IsLabel (sym c.index-paths-paths.is)
    (c.requires (length c.args.paths.now - 1 - c.taken.taken) c.index-paths-paths.result (omega (arith, c.taken-test.true)))

pub taken-preserved : goal.taken-preserved
taken-preserved g c =
    let labels = g.T.LabelTest.texts c.args.labels.now in
    let edges = g.K.Links.edges c.args.links.now in
    let paths = c.args.paths.now in
    let to = c.args.to.now in
    let taken = c.taken.taken in
    let level = c.taken.level in
    let place = length paths - 1 - taken in
    let part = c.index-paths-paths.result in
    let pattern = c.label_of.result.now in
    let leads = GoesBy labels (against edges) pattern in
    let others = trees_of (map path_tree (drop (length paths - taken) paths)) in
    let here : length paths - (taken + 1) ≡ place = omega arith in
    let behind : suc place ≡ length paths - taken = omega (arith, c.taken-test.true) in
    let front : drop (length paths - (taken + 1)) paths ≡ part ∷ drop (length paths - taken) paths =
    ap (λ (n : ℕ). drop n paths) here ∙ drop-cons paths place part (omega (arith, c.taken-test.true))
    ∙ ap (λ (p : Path). p ∷ drop (suc place) paths) (sym c.index-paths-paths.is) ∙ ap (λ (n : ℕ). part ∷ drop n paths) behind in
    let left = ap (λ (l : List Path). seq (trees_of (map path_tree l))) front ∙ ap (λ (t : PathTree). seq (more t others)) c.label_of.ensures in
    let found = subst (λ (l : List Oid). ListsInOrder (FromSome leads l) c.in_ok-level-2.level) c.as_slice.ensures c.in_ok-level-2.ensures.objects in
    record {
      level =
          subst (λ (t : PathTree). ListsInOrder (ReachesInto labels edges t to) c.in_ok-level-2.level) (sym left)
          (back_next labels edges pattern others to level c.in_ok-level-2.level c.taken.invariant.level found);
      taken =
          times_more taken (reads_entering edges) (WalksInto edges to) c.args.steps.now c.taken.steps c.ends_of.new.steps level c.taken.invariant.taken
          (c.in_ok-level-2.ensures.steps ∙ ap (λ (l : List Oid). c.taken.steps + sum_by (reads_entering edges) l) c.as_slice.ensures)
          c.taken.invariant.level.ascending (walks_back labels edges (seq others) to level c.taken.invariant.level);
    }

pub returns-clause-objects : goal.returns-clause-objects
returns-clause-objects g c =
    let labels = g.T.LabelTest.texts c.args.labels.now in
    let edges = g.K.Links.edges c.args.links.now in
    let paths = c.args.paths.now in
    let done : length paths - c.taken.taken ≡ 0 = omega (arith, c.taken-test.false) in
    subst (λ (n : ℕ). ListsInOrder (ReachesInto labels edges (seq (trees_of (map path_tree (drop n paths)))) c.args.to.now) c.taken.level) done c.taken.invariant.level

pub returns-clause-steps : goal.returns-clause-steps
returns-clause-steps g c =
    let edges = g.K.Links.edges c.args.links.now in
    let done : c.taken.taken ≡ length c.args.paths.now = omega (arith, c.taken-test.false, c.taken.auto.taken-end) in
    subst (λ (n : ℕ). TakesTimes n (reads_entering edges) (WalksInto edges c.args.to.now) c.args.steps.now c.taken.steps) done c.taken.invariant.taken
