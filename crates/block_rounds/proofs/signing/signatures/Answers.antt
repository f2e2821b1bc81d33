use Rattle.std.proofs.Common.{◌+◌, sym, take, subst, List, ℕ}
use Rattle.std.proofs.lemmas.List.Elements.{all_zip_more}
use Rattle.block_rounds.specs.inside.Signatures.{IsSignature, AreSignatures}
use Rattle.block_rounds.proofs.signing.signatures.Goals as goal

pub rows-preserved : goal.rows-preserved
rows-preserved c =
    let rows = c.args.rows.now in
    let numbers = c.args.numbers.now in
    let one : IsSignature c.row-item.result numbers c.in_ok-signature_of.field-0 =
    subst (λ (row : List (ℕ × ℕ)). IsSignature row numbers c.in_ok-signature_of.field-0) c.as_slice.ensures c.in_ok-signature_of.ensures in
    subst (λ (l : List (List (ℕ × ℕ))). AreSignatures (take (c.rows.row-index + 1) rows) numbers l) (sym c.in_ok-push.ensures.items)
    (all_zip_more (λ row signature. IsSignature row numbers signature) rows c.rows.signed.items c.rows.row-index c.row-item.result c.in_ok-signature_of.field-0
    c.rows-test.true c.row-item.is c.rows.invariant one)
