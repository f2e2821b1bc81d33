use Rattle.std.proofs.Common.{◌≡◌, ℕ, true, List, Some, sym, ap, ◌∙◌, arith}
use Rattle.std.proofs.lemmas.Grind.{common_steps}
use Rattle.oem_text.specs.inside.Places.{place_in}
use Rattle.oem_text.proofs.PlaceLaws.{placed_local}
use Rattle.oem_text.proofs.places.placed_link.Goals as goal

pub returns-in-Some-clause-placed : goal.returns-in-Some-clause-placed
returns-in-Some-clause-placed c =
    λ bodies are.
    let link = c.args.link in
    let local : link.is_local ≡ true = grind (arith, common_steps) in
    let known : place_in c.args.places.now link.child ≡ Some c.in-Some.place =
    ap (λ (l : List (ℕ × ℕ)). place_in l link.child) (sym c.as_slice.ensures) ∙ sym c.place_of.ensures ∙ c.in-Some.is in
    placed_local bodies (place_in c.args.places.now) link.parent link.child c.in-Some.place link.label.now link.is_local local known are
