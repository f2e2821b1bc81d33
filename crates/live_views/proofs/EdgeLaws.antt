-- Whether an edge is there.
use Rattle.std.proofs.Common.{◌≡◌, ◌↔◌, Bool, true, false, not, true≢false, IsTrue, List, [], ◌∷◌, refl, sym}
use Rattle.std.specs.List.{Contains}
use Rattle.lore_base.proofs.MemberLaws.{Contains-none, Contains-head}
use Rattle.live_views.specs.Types.{Edge}

pub some_edge : (edges : List Edge) (empty : Bool) → IsTrue empty ↔ (edges ≡ []) → IsTrue (not empty) ↔ ((edge : Edge) × Contains edges edge)
some_edge [] true told = (λ h. absurd (true≢false (sym h)), λ h. absurd (Contains-none h.0 h.1))
some_edge [] false told = absurd (true≢false (sym (told.1 refl)))
some_edge (edge ∷ edges) true told = absurd (let none : edge ∷ edges ≡ [] = told.0 refl in cc)
some_edge (edge ∷ edges) false told = (λ _. (edge, Contains-head edge edges), λ _. refl)
