-- Edges that are records, and those that aren't.
use Rattle.std.proofs.Common.{◌≡◌, ◌⊎◌, true, false, List, [], Contains, refl, sym, ◌∙◌, inl, inr, subst, arith}
use Rattle.std.proofs.lemmas.Bool.{true≢false}
use Rattle.slab.specs.Slab.{Slab, slab_len}
use Rattle.lore_base.specs.Databases.{AreAscendingEdges}
use Rattle.lore_base.proofs.MemberLaws.{Contains-none}
use Rattle.edge_lists.proofs.ProbeLaws.{none_in_empty}
use Rattle.lore_base.specs.Walks.{edge_cmp}
use Rattle.edge_layers.specs.Types.{EdgeRecord}
use Rattle.edge_lists.specs.Sifts.{AreSifted}
use Rattle.edge_lists.specs.Views.{edges_of}
use Rattle.edge_lists.proofs.ViewLaws.{edges_lie}
use Rattle.strand_sort.specs.StrandSorts.{AreSorted}
use Rattle.edge_layers.specs.Types.{Edge}
use Rattle.edge_layers.specs.EdgeTests.{edge_eq, is_listed, AreFound, AreLost, AreFresh}
use Rattle.edge_layers.proofs.EdgeLaws.{edge_same}
use Rattle.edge_layers.proofs.SearchLaws.{unlisted, listed}

-- edges that were sorted and looked for
pub sifted-found : (records : Slab EdgeRecord) (edges sorted there absent : List Edge) → AreSorted edge_cmp edge_eq edges sorted → AreSifted records sorted there absent
    → AreFound records edges there absent
sifted-found records edges sorted there absent all so = record {
  there_ascend = so.there_ascends;
  there_exact = λ edge. (
    λ at. (let both = (so.found edge).0 at in ((all.members edge_same edge).0 both.0, both.1)),
    λ both. (so.found edge).1 ((all.members edge_same edge).1 both.0, both.1),
  );
  absent_ascend = so.absent_ascends;
  absent_exact = λ edge. (
    λ at. (let both = (so.missed edge).0 at in ((all.members edge_same edge).0 both.0, both.1)),
    λ both. (so.missed edge).1 ((all.members edge_same edge).1 both.0, both.1),
  );
}

-- of a slab without records none is there
pub found-none : (records : Slab EdgeRecord) (edges sorted there : List Edge) → slab_len records ≡ 0 → there ≡ [] → AreSorted edge_cmp edge_eq edges sorted
    → AreFound records edges there sorted
found-none records edges sorted there empty none all = record {
  there_ascend = subst AreAscendingEdges (sym none) (λ i j d lt len. absurd (omega (arith, len)));
  there_exact = λ edge. (
    λ at. absurd (Contains-none edge (subst (λ (l : List Edge). Contains l edge) none at)),
    λ both. absurd (none_in_empty records edge empty both.1),
  );
  absent_ascend = all.ascend;
  absent_exact = λ edge. (
    λ at. ((all.members edge_same edge).0 at, none_in_empty records edge empty),
    λ both. (all.members edge_same edge).1 both.0,
  );
}

-- removed ones that are there are lost
pub found-lost : (records : Slab EdgeRecord) (removed there absent : List Edge) → AreFound records removed there absent → AreLost (edges_of records) removed there
found-lost records removed there absent found = record {
  ascend = found.there_ascend;
  members = λ edge. (
    λ at. (let both = (found.there_exact edge).0 at in (both.0, (edges_lie records edge).1 both.1)),
    λ both. (found.there_exact edge).1 (both.0, (edges_lie records edge).0 both.1),
  );
}

-- added ones that aren't there are fresh
pub found-fresh : (records : Slab EdgeRecord) (added there absent : List Edge) → AreFound records added there absent → AreFresh (edges_of records) added absent
found-fresh records added there absent found = record {
  ascend = found.absent_ascend;
  come = λ edge at. (let both = (found.absent_exact edge).0 at in (both.0, λ kept. both.1 ((edges_lie records edge).0 kept)));
  rest = λ edge at. elim (is_listed (edges_of records) edge) as (λ b. is_listed (edges_of records) edge ≡ b → Contains (edges_of records) edge ⊎ Contains absent edge) [
    | true ↦ λ yes. inl (unlisted (edges_of records) edge yes)
    | false ↦ λ no. inr ((found.absent_exact edge).1 (at, λ has. true≢false (sym (listed (edges_of records) edge ((edges_lie records edge).1 has)) ∙ no)))
  ] refl;
}
