use Rattle.std.proofs.Common.{◌↔◌, ◌∙◌, [], sym, subst}
use Rattle.std.proofs.lemmas.List.{append-nil}
use Rattle.std.proofs.lemmas.Result.{on_ok_weaker, on_err_weaker}
use Rattle.lore_base.specs.Paths.{path_tree}
use Rattle.lore_base.proofs.TargetLaws.{ListsInOrder-same}
use Rattle.guide_query.specs.Types.{Oid}
use Rattle.guide_query.specs.GuideReaches.{GuideOver, TellsReached}
use Rattle.guide_query.specs.inside.GuideSets.{IsWalked}
use Rattle.guide_query.proofs.guide_paths.GuidePathsPaths.select.Goals as goal

pub returns-clause-objects : goal.returns-clause-objects
returns-clause-objects c =
    let told : GuideOver = record { guide = c.self.inside.guide.now; labels = c.self.inside.labels.now } in
    let path = path_tree c.args.path.now in
    let named = c.args.named in
    let start = c.in_ok-start.start in
    let same =
    subst (λ (p : GuideOver). (oid : Oid) → IsWalked p path start oid ↔ TellsReached c.args.self.now path named oid)
    (sym c.self.view_is) (c.in_ok-start.ensures path) in
    on_ok_weaker c.select_by_sets.result
    (λ more. (
      more.0,
      more.1,
      ListsInOrder-same (IsWalked told path start) (TellsReached c.args.self.now path named) more.0 same more.2,
    ))
    c.select_by_sets.ensures.objects

pub returns-clause-err : goal.returns-clause-err
returns-clause-err c =
    on_err_weaker c.select_by_sets.result (λ same. ([], same ∙ sym (append-nil c.args.buf.now))) c.select_by_sets.ensures.err
