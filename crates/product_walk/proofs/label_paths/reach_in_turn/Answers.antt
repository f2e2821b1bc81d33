use Rattle.std.proofs.Common.{◌≡◌, ◌+◌, ◌-◌, ◌∷◌, [], ℕ, suc, List, map, drop, length, sym, ap, ◌∙◌, subst, arith}
use Rattle.std.specs.List.{sum_by}
use Rattle.std.specs.Result.{OnOk}
use Rattle.std.proofs.Math.Seq.{drop-cons, drop-length}
use Rattle.std.proofs.lemmas.Result.{on_ok_weaker}
use Rattle.lore_base.specs.Lists.{ExtendsBy}
use Rattle.lore_base.specs.Paths.{PathTree, path_tree, trees_of, seq, none, more, Reaches}
use Rattle.lore_base.specs.declared.paths.Path.{Path}
use Rattle.lore_base.specs.TargetSets.{ListsInOrder}
use Rattle.product_walk.specs.Types.{Oid}
use Rattle.product_walk.specs.ProductWalks.{IsWalked, reads_out}
use Rattle.product_walk.specs.inside.Arcs.{along}
use Rattle.product_walk.specs.inside.Ways.{IsLabel, GoesBy, FromSome, IsLevel, TakesTimes}
use Rattle.product_walk.proofs.LevelLaws.{level_last, times_more}
use Rattle.product_walk.proofs.ProductLaws.{lists_same}
use Rattle.product_walk.proofs.label_paths.reach_in_turn.Goals as goal

pub label_of-requires : goal.label_of-requires
label_of-requires g c =
    subst IsLabel (sym c.index-paths-paths.is) (c.requires.labels (length c.args.paths.now - 1) c.index-paths-paths.result (omega (arith, c.requires.two)))

pub returns-clause-objects : goal.returns-clause-objects
returns-clause-objects g c =
    let labels = g.T.LabelTest.texts c.args.labels.now in
    let edges = g.A.Adjacent.edges c.args.graph.now in
    let paths = c.args.paths.now in
    let place = length paths - 1 in
    let part = c.index-paths-paths.result in
    let pattern = c.label_of.result.now in
    let whole = seq (trees_of (map path_tree paths)) in
    let level = c.in_ok-level.level in
    let new = c.append_ends_of_level.new.buf in
    let goes = GoesBy labels (along edges) pattern in
    let behind : suc place ≡ length paths = omega (arith, c.requires.two) in
    let front : drop place paths ≡ part ∷ [] =
    drop-cons paths place part (omega (arith, c.requires.two)) ∙ ap (λ (p : Path). p ∷ drop (suc place) paths) (sym c.index-paths-paths.is)
    ∙ ap (λ (n : ℕ). part ∷ drop n paths) behind ∙ ap (λ (l : List Path). part ∷ l) (drop-length paths) in
    let left = ap (λ (l : List Path). seq (trees_of (map path_tree l))) front ∙ ap (λ (t : PathTree). seq (more t none)) c.label_of.ensures in
    let here = subst (λ (t : PathTree). IsLevel labels edges whole t c.args.from level) left c.in_ok-level.ensures.level in
    lists_same c.append_ends_of_level.result (FromSome goes level) (Reaches labels edges whole c.args.from) c.args.buf.now new
    (level_last labels edges whole pattern c.args.from level here)
    (subst (λ (l : List Oid). OnOk c.append_ends_of_level.result (ExtendsBy (ListsInOrder (FromSome goes l)) c.args.buf.now new)) c.as_slice.ensures
    c.append_ends_of_level.ensures.objects)

pub returns-clause-steps : goal.returns-clause-steps
returns-clause-steps g c =
    let edges = g.A.Adjacent.edges c.args.graph.now in
    let count = length c.args.paths.now in
    let level = c.in_ok-level.level in
    let new = c.append_ends_of_level.new.steps in
    let all : count - 1 + 1 ≡ count = omega (arith, c.requires.two) in
    on_ok_weaker c.append_ends_of_level.result
    (λ spent. subst (λ (n : ℕ). TakesTimes n (reads_out edges) (IsWalked edges c.args.from) c.args.steps.now new) all
    (times_more (count - 1) (reads_out edges) (IsWalked edges c.args.from) c.args.steps.now c.level_before_last.new.steps new level c.in_ok-level.ensures.steps
    (spent ∙ ap (λ (l : List Oid). c.level_before_last.new.steps + sum_by (reads_out edges) l) c.as_slice.ensures)
    c.in_ok-level.ensures.level.ascending c.in_ok-level.ensures.level.walked))
    c.append_ends_of_level.ensures.steps
