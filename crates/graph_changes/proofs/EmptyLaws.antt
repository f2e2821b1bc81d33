-- What comes and what goes where there is nothing yet, or where nothing is lost.
use Rattle.std.proofs.Common.{◌≡◌, ◌<◌, List, [], length, Contains, sym, ap, inl, inr, subst, arith}
use Rattle.slab.specs.Slab.{Slab}
use Rattle.lore_base.specs.Databases.{AreAscendingObjects, AreAscendingEdges}
use Rattle.lore_base.proofs.ListLaws.{AllPairs-unique}
use Rattle.lore_base.proofs.MemberLaws.{Contains-none}
use Rattle.graph_changes.specs.Types.{Oid, Edge, Value, EdgeRecord}
use Rattle.graph_changes.specs.Puts.{with_objects, put_edges}
use Rattle.graph_changes.specs.Left.{not_dead, AreGone}
use Rattle.graph_changes.specs.inside.Leaving.{AreLeaving}
use Rattle.graph_changes.specs.Differing.{AreDiffering, AreGoneObjects}
use Rattle.graph_changes.proofs.GivenLaws.{members-with_objects, ascend-with_objects}
use Rattle.graph_changes.proofs.PutLaws.{members-put_edges, ascend-put_edges}
use Rattle.edge_layers.proofs.LayerLaws.{same-edges}

no-objects : AreAscendingObjects []
no-objects i j d lt len = absurd (omega (arith, len))

pub no-edges : AreAscendingEdges []
no-edges i j d lt len = absurd (omega (arith, len))

-- objects put into none are what there is, and so are edges
pub all-given : (made : List (Oid × Value)) → AreAscendingObjects made → with_objects [] made ≡ made
all-given made ascend =
    AllPairs-unique (λ (a b : Oid × Value). a.0.0 < b.0.0) (λ a b less more. omega (arith, less, more))
    (with_objects [] made) made (ascend-with_objects [] made no-objects) ascend
    (λ o. (
      λ at. elim ((members-with_objects [] made no-objects ascend o).0 at) [ inl new ↦ new | inr old ↦ absurd (Contains-none o old.0) ],
      λ at. (members-with_objects [] made no-objects ascend o).1 (inl at),
    ))

pub all-come : (added : List Edge) → AreAscendingEdges added → put_edges [] added ≡ added
all-come added ascend =
    same-edges (put_edges [] added) added (ascend-put_edges [] added no-edges ascend (λ edge at there. Contains-none edge there)) ascend
    (λ edge. (
      λ at. elim ((members-put_edges [] added edge).0 at) [ inl old ↦ absurd (Contains-none edge old) | inr new ↦ new ],
      λ at. (members-put_edges [] added edge).1 (inr at),
    ))

-- where there was none, all of the given come
pub differing-all : (old given : List (Oid × Value)) → old ≡ [] → AreDiffering old given given
differing-all old given none = record {
  ascend = λ up. up;
  exact = λ o at. (at, λ there. Contains-none o (subst (λ (l : List (Oid × Value)). Contains l o) none there));
  either = λ o at. inl at;
}

-- where there was none, there are as many as are given
pub count-given : (dead : List Oid) (old given : List (Oid × Value)) → old ≡ [] → AreAscendingObjects given
    → length given ≡ length (with_objects (not_dead dead old) given)
count-given dead old given none ascend =
    subst (λ (l : List (Oid × Value)). length given ≡ length (with_objects (not_dead dead l) given)) (sym none)
    (sym (ap (λ (l : List (Oid × Value)). length l) (all-given given ascend)))

-- where there was none, none goes
pub gone-nothing : (old : List (Oid × Value)) (dead : List Oid) (come gone : List (Oid × Value)) → old ≡ [] → gone ≡ [] → AreGoneObjects old dead come gone
gone-nothing old dead come gone empty none = record {
  ascend = subst AreAscendingObjects (sym none) (λ i j d lt len. absurd (omega (arith, len)));
  exact = λ o. (
    λ at. absurd (Contains-none o (subst (λ (l : List (Oid × Value)). Contains l o) none at)),
    λ both. absurd (Contains-none o (subst (λ (l : List (Oid × Value)). Contains l o) empty both.0)),
  );
}

-- where none is lost those that leave dead objects go
pub gone-leaving : (records : Slab EdgeRecord) (lost leaving : List Edge) (dead : List Oid) → lost ≡ [] → AreLeaving records dead leaving → AreGone records lost dead leaving
gone-leaving records lost leaving dead none are = record {
  ascend = are.ascend;
  exact = λ edge. (
    λ at. inr ((are.exact edge).0 at),
    λ either. elim either [
      | inl loses ↦ absurd (Contains-none edge (subst (λ (l : List Edge). Contains l edge) none loses))
      | inr leaves ↦ (are.exact edge).1 leaves
    ],
  );
}
