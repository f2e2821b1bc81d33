use Rattle.std.proofs.Common.{◌≡◌, ℕ, ◌∷◌, ◌++◌, [], inl, inr, ap, ◌∙◌, sym, refl}
use Rattle.std.proofs.lemmas.Option.{get_or_from_slice_get}
use Rattle.block_haste.specs.inside.Tallies.{Key}
use Rattle.block_haste.specs.inside.Recounting.{key_at}
use Rattle.block_haste.proofs.recounting.recount_one.Goals as goal

pub returns : goal.returns
returns c =
    let edge = c.args.edge in
    let read : key_at c.args.recounted.tally c.args.place ≡ c.key-key.result =
    get_or_from_slice_get c.args.recounted.tally c.args.place c.key-key.result (0, 0, 0) c.key-key.ensures in
    let tag : (key_at c.args.recounted.tally c.args.place).2 ≡ c.key-key.result.2 = ap (λ (k : Key). k.2) read in
    inr (
      λ same. c.if-key-number.false (sym tag ∙ same),
      c.in_ok-tally.ensures,
      c.in_ok-push.ensures.ok ∙ ap (λ (t : ℕ). c.args.recounted.events ++ (edge.2, (edge.1, t, c.args.number)) ∷ []) (sym tag),
    )
