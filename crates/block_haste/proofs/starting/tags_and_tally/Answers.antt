use Rattle.std.proofs.Common.{◌≡◌, ◌<◌, ℕ, List, length, replicate, All, sym, ap, ◌∙◌, subst}
use Rattle.std.proofs.lemmas.List.{length-replicate}
use Rattle.block_haste.specs.inside.Marking.{keys_of}
use Rattle.block_haste.proofs.starting.tags_and_tally.Goals as goal

pub tallied-requires : goal.tallied-requires
tallied-requires c =
    let tags : c.in_ok-tags.tags.items ≡ replicate c.args.count 0 = c.in_ok-tags.ensures.items_if_clones_equal (λ y same. same) in
    let many : length c.as_slice-2.result.now ≡ c.args.count = ap length (c.as_slice-2.ensures.value ∙ tags) ∙ length-replicate c.args.count 0 in
    subst (λ (l : List (ℕ × ℕ × ℕ)). All (λ edge. edge.0 < length c.as_slice-2.result.now) l) (sym c.as_slice.ensures.value)
    (subst (λ (n : ℕ). All (λ edge. edge.0 < n) c.args.graph.now.edges.items) (sym many) c.requires)

pub returns-in-Ok-clause-tags : goal.returns-in-Ok-clause-tags
returns-in-Ok-clause-tags c = c.in_ok-tags.ensures.items_if_clones_equal (λ y same. same)

pub returns-in-Ok-clause-tally : goal.returns-in-Ok-clause-tally
returns-in-Ok-clause-tally c = c.in-Ok.ensures ∙ (λ i. keys_of (c.as_slice.ensures.value i) (c.as_slice-2.ensures.value i))
