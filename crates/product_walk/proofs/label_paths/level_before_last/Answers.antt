use Rattle.std.proofs.Common.{◌≡◌, ◌+◌, ◌-◌, ◌∷◌, [], ℕ, suc, List, map, drop, length, add-one, refl, sym, ap, ◌∙◌, subst, arith}
use Rattle.std.specs.List.{sum_by}
use Rattle.std.proofs.Math.Seq.{drop-cons}
use Rattle.lore_base.specs.Paths.{PathTree, path_tree, trees_of, seq, step, more, Reaches}
use Rattle.lore_base.specs.declared.paths.Path.{Path}
use Rattle.lore_base.specs.TargetSets.{ListsInOrder}
use Rattle.lore_base.proofs.TargetLaws.{ListsInOrder-same}
use Rattle.product_walk.specs.Types.{Oid}
use Rattle.product_walk.specs.ProductWalks.{IsWalked, reads_out}
use Rattle.product_walk.specs.inside.Arcs.{along}
use Rattle.product_walk.specs.inside.Ways.{IsLabel, GoesBy, FromSome, IsLevel, TakesTimes}
use Rattle.product_walk.proofs.LevelLaws.{goes_reaches, from_alike, level_first, level_next, times_more}
use Rattle.product_walk.proofs.WayLaws.{one_taken}
use Rattle.product_walk.proofs.label_paths.level_before_last.Goals as goal

pub label_of-requires : goal.label_of-requires
label_of-requires g c = subst IsLabel (sym c.index-paths-0.is) (c.requires.labels 0 c.index-paths-0.result (omega (arith, c.requires.two)))

pub places-init : goal.places-init
places-init g c =
    let labels = g.T.LabelTest.texts c.args.labels.now in
    let edges = g.A.Adjacent.edges c.args.graph.now in
    let paths = c.args.paths.now in
    let part = c.index-paths-0.result in
    let pattern = c.label_of.result.now in
    let others = trees_of (map path_tree (drop 1 paths)) in
    let front : paths ≡ part ∷ drop 1 paths =
    drop-cons paths 0 part (omega (arith, c.requires.two)) ∙ ap (λ (p : Path). p ∷ drop 1 paths) (sym c.index-paths-0.is) in
    let whole = ap (λ (l : List Path). seq (trees_of (map path_tree l))) front ∙ ap (λ (t : PathTree). seq (more t others)) c.label_of.ensures in
    record {
      level =
          subst (λ (t : PathTree). IsLevel labels edges t (seq others) c.args.from c.append_ends.new.buf) (sym whole)
          (level_first labels edges pattern others c.args.from c.new-level.result c.append_ends.new.buf c.new-level.ensures c.in_ok-append_ends.ensures.objects);
      taken = one_taken (reads_out edges) (IsWalked edges c.args.from) c.args.from c.args.steps.now c.append_ends.new.steps ([], refl) c.in_ok-append_ends.ensures.steps;
    }

pub label_of-requires-in-places : goal.label_of-requires-in-places
label_of-requires-in-places g c =
    subst IsLabel (sym c.index-paths-place.is) (c.requires.labels c.places.place c.index-paths-place.result (omega (arith, c.requires.two, c.places-test.true)))

pub places-preserved : goal.places-preserved
places-preserved g c =
    let labels = g.T.LabelTest.texts c.args.labels.now in
    let edges = g.A.Adjacent.edges c.args.graph.now in
    let paths = c.args.paths.now in
    let place = c.places.place in
    let part = c.index-paths-place.result in
    let pattern = c.label_of-in-places.result.now in
    let whole = seq (trees_of (map path_tree paths)) in
    let label = step pattern in
    let goes = GoesBy labels (along edges) pattern in
    let others = trees_of (map path_tree (drop (place + 1) paths)) in
    let front : drop place paths ≡ part ∷ drop (place + 1) paths =
    drop-cons paths place part (omega (arith, c.places-test.true))
    ∙ ap (λ (p : Path). p ∷ drop (suc place) paths) (sym c.index-paths-place.is) ∙ ap (λ (n : ℕ). part ∷ drop n paths) (sym (add-one place)) in
    let left = ap (λ (l : List Path). seq (trees_of (map path_tree l))) front ∙ ap (λ (t : PathTree). seq (more t others)) c.label_of-in-places.ensures in
    record {
      level =
          level_next labels edges whole label others c.args.from c.places.level c.in_ok-level.level
          (subst (λ (t : PathTree). IsLevel labels edges whole t c.args.from c.places.level) left c.places.invariant.level)
          (ListsInOrder-same (FromSome goes c.places.level) (FromSome (Reaches labels edges label) c.places.level) c.in_ok-level.level
          (from_alike goes (Reaches labels edges label) c.places.level (goes_reaches labels edges pattern))
          (subst (λ (l : List Oid). ListsInOrder (FromSome goes l) c.in_ok-level.level) c.as_slice.ensures c.in_ok-level.ensures.objects));
      taken =
          times_more place (reads_out edges) (IsWalked edges c.args.from) c.args.steps.now c.places.steps c.ends_of.new.steps c.places.level c.places.invariant.taken
          (c.in_ok-level.ensures.steps ∙ ap (λ (l : List Oid). c.places.steps + sum_by (reads_out edges) l) c.as_slice.ensures) c.places.invariant.level.ascending c.places.invariant.level.walked;
    }

pub returns-clause-level : goal.returns-clause-level
returns-clause-level g c =
    let labels = g.T.LabelTest.texts c.args.labels.now in
    let edges = g.A.Adjacent.edges c.args.graph.now in
    let paths = c.args.paths.now in
    let whole = seq (trees_of (map path_tree paths)) in
    let done : c.places.place ≡ length paths - 1 = omega (arith, c.requires.two, c.places-test.false, c.places.auto.place-end) in
    subst (λ (n : ℕ). IsLevel labels edges whole (seq (trees_of (map path_tree (drop n paths)))) c.args.from c.places.level) done c.places.invariant.level

pub returns-clause-steps : goal.returns-clause-steps
returns-clause-steps g c =
    let edges = g.A.Adjacent.edges c.args.graph.now in
    let done : c.places.place ≡ length c.args.paths.now - 1 = omega (arith, c.requires.two, c.places-test.false, c.places.auto.place-end) in
    subst (λ (n : ℕ). TakesTimes n (reads_out edges) (IsWalked edges c.args.from) c.args.steps.now c.places.steps) done c.places.invariant.taken
