-- Changes that only make objects and add edges, whose objects are all reached then: what there is grows by just these.
use Rattle.std.specs.Prelude.{◌≡◌, ◌≢◌, ◌↔◌, List, [], All, AllPairs, Contains}
use Rattle.lore_base.specs.Databases.{OemGraph}
use Rattle.lore_base.specs.ChangeSets.{AreEdgesThen, IsReachedThen, AreNumberedFrom, IsAtHand}
use Rattle.oem_changes.specs.Types.{Edge, Changes}

-- the changes make objects, numbered from the next number on, and add edges from objects at hand, and nothing else;
-- some name walks to each object made; and the edges added that aren't there before are these, each listed once
pub record Grows (before : OemGraph) (changes : Changes) (fresh : List Edge) : Type 0 where
  pub values : changes.values ≡ []
  pub removed : changes.removed ≡ []
  pub named : changes.named ≡ []
  pub unnamed : changes.unnamed ≡ []
  pub numbered : AreNumberedFrom before.next changes.made
  pub parents : All (λ edge. IsAtHand before changes edge.parent) changes.added
  pub reached : (between : List Edge) → AreEdgesThen before.edges changes between
      → All (λ object. IsReachedThen before.names changes between object.0) changes.made
  pub distinct : AllPairs (λ a b. a ≢ b) fresh
  pub exact : (edge : Edge) → Contains fresh edge ↔ (Contains changes.added edge × (¬ Contains before.edges edge))
