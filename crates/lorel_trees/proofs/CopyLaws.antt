-- Copies of lists of plain items.
use Rattle.std.proofs.Common.{◌≡◌, List, map, sym, ◌∙◌}
use Rattle.std.proofs.lemmas.List.{map-id}

-- a copied list of items that stand for themselves is the list
pub copied_same : {X : Type 0} {xs ys : List X} → map (λ x. x) ys ≡ map (λ x. x) xs → ys ≡ xs
copied_same {xs = xs} {ys = ys} same = sym (map-id ys) ∙ same ∙ map-id xs
