-- Laws of lists of one edge, and of the links of edges.
use Rattle.std.proofs.Common.{List, [], ◌∷◌, get_or, All, arith}
use Rattle.std.proofs.lemmas.List.Elements.{All-cons, All-nil, All-contains, Contains-get_or}
use Rattle.index_traits.specs.Entries.{AreLinks}
use Rattle.lore_base.specs.Databases.{AreAscendingEdges}
use Rattle.link_index.specs.Types.{Edge}

pub none_ascends : AreAscendingEdges []
none_ascends i j d lt len = absurd (omega (arith, len))

pub one_ascends : (edge : Edge) → AreAscendingEdges (edge ∷ [])
one_ascends edge i j d lt len = absurd (omega (arith, lt, len))

pub of_one : (P : Edge → Type 0) (edge : Edge) → P edge → All P (edge ∷ [])
of_one P edge holds = All-cons P edge [] holds (All-nil P)

-- what holds of edges holds of their links
pub of_links : (P : Edge → Type 0) (edges links : List Edge) → AreLinks edges links → All P edges → All P links
of_links P edges links same all k d lt =
    All-contains P edges (get_or links k d) all ((same.exact (get_or links k d)).0 (Contains-get_or links k d lt))
