use Rattle.std.proofs.Common.{subst}
use Rattle.guide_query.specs.GuideReaches.{GuideOver}
use Rattle.guide_query.specs.inside.GuideSets.{IsStart}
use Rattle.guide_query.proofs.GuideWalkLaws.{told-by-sets}
use Rattle.guide_query.proofs.guide_paths.GuidePaths.start_at.Goals as goal

pub returns : goal.returns
returns c =
    let told : GuideOver = record { guide = c.self.inside.guide.now; labels = c.self.inside.labels.now } in
    let start = c.find_set.result in
    subst (λ (p : GuideOver). IsStart p c.args.named start) c.self.view_is
    (λ path. told-by-sets told path c.args.named c.in_ok-alone.alone start c.in_ok-alone.ensures c.find_set.ensures.found
    c.find_set.ensures.only c.find_set.ensures.none)
