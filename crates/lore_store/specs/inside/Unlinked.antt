-- Changes after which each object is walked to as before.
use Rattle.std.specs.Prelude.{◌≡◌, []}
use Rattle.lore_store.specs.Types.{Changes}

-- no object is made, and no edge and no name comes or goes
pub record LinkNothing (changes : Changes) : Type 0 where
  pub made : changes.made ≡ []
  pub added : changes.added ≡ []
  pub removed : changes.removed ≡ []
  pub named : changes.named ≡ []
  pub unnamed : changes.unnamed ≡ []
