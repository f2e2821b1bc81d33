-- An automaton that recognises a path: the words that it accepts are those that the path spells.
use Rattle.std.proofs.Common.{◌↔◌, ℕ, List}
use Rattle.lore_base.specs.Paths.{PathTree, Spells, Reaches}
use Rattle.lore_base.specs.TargetSets.{ListsInOrder}
use Rattle.lore_base.proofs.TargetLaws.{ListsInOrder-same}
use Rattle.path_expr.specs.Machines.{Machine, Recognises, ReadsBackwards}
use Rattle.product_walk.specs.Types.{Oid, Label, Edge}
use Rattle.product_walk.specs.ProductWalks.{IsAcceptedFrom}
use Rattle.product_walk.specs.inside.Products.{ReadsTurned}
use Rattle.product_walk.proofs.ProductLaws.{turned_accepts}

-- what it is accepted to is what the path reaches
pub accepted_reaches : (labels : List (List ℕ)) (edges : List Edge) (machine : Machine) (path : PathTree) → Recognises machine path
    → (x y : Oid) → IsAcceptedFrom labels edges machine x y ↔ Reaches labels edges path x y
accepted_reaches labels edges machine path stands x y = (
  λ h. (h.0, (stands labels h.0).0 (h.1).0, (h.1).1),
  λ h. (h.0, ((stands labels h.0).1 h.1, h.2)),
)

-- and what it reads backwards, turned, is what the path spells
pub turned_spells : (machine turned : Machine) (path : PathTree) → Recognises machine path → ReadsBackwards machine turned
    → (labels : List (List ℕ)) (word : List Label) → ReadsTurned labels turned word ↔ Spells labels path word
turned_spells machine turned path stands turns labels word = (
  λ h. (stands labels word).0 ((turned_accepts labels machine turned turns word).0 h),
  λ h. (turned_accepts labels machine turned turns word).1 ((stands labels word).1 h),
)

-- so `forward` lists what the path reaches
pub lists_reached : (labels : List (List ℕ)) (edges : List Edge) (machine : Machine) (path : PathTree) → Recognises machine path
    → (x : Oid) (oids : List Oid) → ListsInOrder (IsAcceptedFrom labels edges machine x) oids → ListsInOrder (Reaches labels edges path x) oids
lists_reached labels edges machine path stands x oids lists =
    ListsInOrder-same (IsAcceptedFrom labels edges machine x) (Reaches labels edges path x) oids (accepted_reaches labels edges machine path stands x) lists
