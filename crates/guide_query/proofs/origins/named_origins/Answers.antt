use Rattle.std.proofs.Common.{◌≡◌, ℕ, List, Some, sym, ap, ◌∙◌, subst}
use Rattle.std.specs.List.{slice_get}
use Rattle.std.proofs.lemmas.Option.{slice_get-get_or}
use Rattle.guide_query.specs.Types.{Node}
use Rattle.guide_query.proofs.OriginLaws.{name-noted}
use Rattle.guide_query.proofs.origins.named_origins.Goals as goal

pub entries-preserved : goal.entries-preserved
entries-preserved c =
    let guide = c.args.guide.now in
    let entry = c.entry-item.result in
    let at : slice_get guide.entries c.entries.place ≡ Some entry =
    subst (λ (l : List (List ℕ × Node)). slice_get l c.entries.place ≡ Some entry) c.entries-entry-items.ensures
    (slice_get-get_or c.entries-entry-items.result.now c.entries.place entry c.entries-test.true
    ∙ ap Some (sym c.entry-item.is)) in
    record {
      met = name-noted guide c.entries.place entry.0 entry.1 c.entries.origins.items c.mention.new.origins.items at
          c.mention.ensures.count c.mention.ensures.each c.entries.invariant.met;
    }
