-- What differs between two moments, and the lines that tell it.
use Rattle.std.specs.Prelude.{◌≡◌, ◌↔◌, ◌⊎◌, ℕ, ◌+◌, List, [], ◌∷◌, ◌++◌, length, map, codes, decimal, AllPairs, Contains}
use Rattle.std.specs.declared.cmp.Ordering.{Ordering}
use Rattle.std.specs.declared.cmp.Ordering.TheVariants.{Less, Equal}
use Rattle.lore_base.specs.Walks.{edge_cmp}
use Rattle.lore_base.specs.Deltas.{IsOnlyIn}
use Rattle.dump_text.specs.Dumps.{line_of, name_line, object_line, edge_line, spelled_edge}
use Rattle.doem_history.specs.Facts.{name_order, object_order}
use Rattle.doem_history.specs.Moments.{Moment}
use Rattle.doem_history.specs.Types.{Oid, Edge, Value}

-- a fact that goes, or one that comes
pub data Change (F : Type 0) : Type 0 where
  gone : F → Change F
  come : F → Change F

abbrev pub fact_of : {F : Type 0} → Change F → F
fact_of (gone fact) = fact
fact_of (come fact) = fact

-- one stands before the other: its fact is below, or of one place in the order the first goes and the second comes
abbrev pub Precedes : {F : Type 0} → (F → F → Ordering) → Change F → Change F → Type 0
Precedes order (gone a) (come b) = (order a b ≡ Less) ⊎ (order a b ≡ Equal)
Precedes order a b = order (fact_of a) (fact_of b) ≡ Less

-- exactly the facts that stand at one of two moments alone, in order: those of the first go, those of the second come
pub record AreChanges {F : Type 0} (order : F → F → Ordering) (before after : List F) (changes : List (Change F)) : Type 0 where
  pub gone : (fact : F) → Contains changes (gone fact) ↔ IsOnlyIn before after fact
  pub come : (fact : F) → Contains changes (come fact) ↔ IsOnlyIn after before fact
  pub ascend : AllPairs (Precedes order) changes

-- the line of a change: `-` or `+`, and the fact as a dump tells it
abbrev pub change_line : {F : Type 0} → (F → List ℕ) → Change F → List ℕ
change_line line (gone fact) = line_of (codes "-") (line fact)
change_line line (come fact) = line_of (codes "+") (line fact)

-- the lines of what differs: names, objects and edges, and their number
pub record AreChangeLines (labels : List (List ℕ)) (before after : Moment) (lines : List (List ℕ)) : Type 0 where
  pub names : List (Change (List ℕ × Oid))
  pub objects : List (Change (Oid × Value))
  pub edges : List (Change Edge)
  pub names_are : AreChanges name_order before.names after.names names
  pub objects_are : AreChanges object_order before.objects after.objects objects
  pub edges_are : AreChanges edge_cmp before.edges after.edges edges
  pub are : lines ≡ map (change_line name_line) names ++ (map (change_line object_line) objects
      ++ (map (change_line (λ edge. edge_line (spelled_edge labels edge))) edges
      ++ line_of (codes "changes") (decimal (length names + length objects + length edges)) ∷ []))
