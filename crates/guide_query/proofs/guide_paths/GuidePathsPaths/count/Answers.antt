use Rattle.std.proofs.Common.{◌↔◌, sym, subst}
use Rattle.std.proofs.lemmas.Result.{IfOk-weaker}
use Rattle.lore_base.specs.Paths.{path_tree}
use Rattle.index_traits.specs.Counts.{IsCount}
use Rattle.set_walk.proofs.SetWalkLaws.{count-same}
use Rattle.guide_query.specs.Types.{Oid}
use Rattle.guide_query.specs.GuideReaches.{GuideOver, TellsReached}
use Rattle.guide_query.specs.inside.GuideSets.{IsWalked}
use Rattle.guide_query.proofs.guide_paths.GuidePathsPaths.count.Goals as goal

pub returns : goal.returns
returns c =
    let told : GuideOver = record { guide = c.self.inside.guide.now; labels = c.self.inside.labels.now } in
    let path = path_tree c.args.path.now in
    let reached = TellsReached c.args.self.now path c.args.named in
    let walked = IsWalked told path c.in_ok-start.start in
    let same =
    subst (λ (p : GuideOver). (oid : Oid) → IsWalked p path c.in_ok-start.start oid ↔ reached oid)
    (sym c.self.view_is) (c.in_ok-start.ensures path) in
    IfOk-weaker c.count_by_sets.result (IsCount walked) (IsCount reached)
    (count-same walked reached same) c.count_by_sets.ensures
