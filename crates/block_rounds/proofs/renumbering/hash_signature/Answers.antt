use Rattle.std.proofs.Common.{ℕ, get_or, take, ◌+◌, ◌*◌, ◌%◌, ◌^◌, refl, sym, ap, ◌∙◌}
use Rattle.std.proofs.lemmas.List.Sums.{fold_more}
use Rattle.block_rounds.specs.inside.Renumbering.{hash_of}
use Rattle.block_rounds.proofs.renumbering.hash_signature.Goals as goal

abbrev mix : ℕ → ℕ × ℕ → ℕ
mix hash entry = ((hash * 6_364_136_223_846_793_005 % 2 ^ 64 + entry.0) % 2 ^ 64 * 6_364_136_223_846_793_005 % 2 ^ 64 + entry.1) % 2 ^ 64

pub entries-init : goal.entries-init
unfolding hash_of
entries-init c = refl

pub entries-preserved : goal.entries-preserved
unfolding hash_of
entries-preserved c =
    let entry = get_or c.args.signature.now c.entries.entry-index (0, 0) in
    ap (λ hash. ((hash * 6_364_136_223_846_793_005 % 2 ^ 64 + c.from.result) % 2 ^ 64 * 6_364_136_223_846_793_005 % 2 ^ 64 + entry.1) % 2 ^ 64) c.entries.invariant
    ∙ ap (λ number. ((hash_of c.args.kind (take c.entries.entry-index c.args.signature.now) * 6_364_136_223_846_793_005 % 2 ^ 64 + number) % 2 ^ 64 * 6_364_136_223_846_793_005 % 2 ^ 64 + entry.1) % 2 ^ 64) c.from.ensures
    ∙ sym (fold_more mix ((c.args.kind + 1) % 2 ^ 64) c.args.signature.now c.entries.entry-index (0, 0) c.entries-test.true)
