-- Things entered one after another.
use Rattle.std.proofs.Common.{List, [], ◌∷◌, ◌++◌, subst, refl}
use Rattle.set_explorer.specs.inside.Entering.{IsEntered, AreEntered}

pub AreEntered-push : {X : Type 0} (old xs between : List X) (x : X) (new : List X) → AreEntered old xs between
    → IsEntered between x new → AreEntered old (xs ++ x ∷ []) new
AreEntered-push {X} old [] between x new are is = (new, subst (λ (l : List X). IsEntered l x new) are is, refl)
AreEntered-push old (first ∷ xs) between x new are is = (are.0, are.1, AreEntered-push are.0 xs between x new are.2 is)
