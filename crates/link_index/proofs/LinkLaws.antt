-- Links and the edges that they stand for.
use Rattle.std.proofs.Common.{◌≡◌, ◌<◌, ◌↔◌, ◌==◌, ◌&&◌, true, Equal, List, map, length, get_or, Contains, All, sym, ap, subst, ◌∙◌, inl, inr, arith}
use Rattle.std.proofs.lemmas.Bool.Decides.{nat_tests}
use Rattle.std.proofs.lemmas.List.{get_or-map, length-map}
use Rattle.std.proofs.lemmas.List.Elements.{All-contains, Contains-get_or}
use Rattle.list_laws.proofs.MemberLaws.{Contains-map}
use Rattle.index_traits.proofs.ObjectLaws.{same_oid, same_label}
use Rattle.index_traits.specs.Entries.{AreLinks, AreAscendingLinks}
use Rattle.sorted_list.specs.SortedLists.{Ascends, IsChange, IsLessWith}
use Rattle.link_index.specs.Types.{Edge}
use Rattle.link_index.specs.declared.link.Link.{Link}
use Rattle.link_index.specs.inside.LinkEdges.{edge_at, link_at, edges_of, order, AreSortedLinks}

-- an edge stands among edges where its link stands among their links
pub at_edge : (links : List Link) (link : Link) → Contains links link → Contains (edges_of links) (edge_at link)
at_edge links link at = Contains-map edge_at links link at

pub at_link : (links : List Link) (edge : Edge) → Contains (edges_of links) edge → Contains links (link_at edge)
at_link links edge at =
    let lt : at.0 < length links = omega (arith, at.1, length-map links edge_at) in
    (at.0, lt, ap link_at (sym (get_or-map edge_at links at.0 (link_at edge) edge lt) ∙ at.2))

-- links that compare equal are the same
pub same_link : (a b : Link) → ((a.child.0 == b.child.0) && ((a.label.0 == b.label.0) && (a.parent.0 == b.parent.0))) ≡ true → a ≡ b
same_link a b h =
    let child : (a.child.0 == b.child.0) ≡ true = grind (arith, nat_tests) in
    let label : (a.label.0 == b.label.0) ≡ true = grind (arith, nat_tests) in
    let parent : (a.parent.0 == b.parent.0) ≡ true = grind (arith, nat_tests) in
    λ i. record { child = same_oid a.child b.child child i; label = same_label a.label b.label label i; parent = same_oid a.parent b.parent parent i }

pub tied_link : (a b : Link) → order a b ≡ Equal → a ≡ b
tied_link a b h = same_link a b (grind (arith, nat_tests))

-- the links of edges are known by what was sorted
pub sorted-links : (edges : List Edge) (found sorted : List Link) → found ≡ map link_at edges → Ascends order sorted
    → ((link : Link) → Contains sorted link ↔ Contains found link) → AreSortedLinks edges sorted
sorted-links edges found sorted is ascend members = record {
  ascend = ascend;
  exact = λ link. (
    λ at. (
        let there = rw is at ((members link).0 at) in
        let lt : there.0 < length edges = omega (arith, there.1, length-map edges link_at) in
        (there.0, lt, ap edge_at (sym (get_or-map link_at edges there.0 (edge_at link) link lt) ∙ there.2))),
    λ at. (members link).1 (rw is (Contains-map link_at edges (edge_at link) at)),
  );
}

-- the edges of ascending links ascend
pub ascending_links : (links : List Link) → Ascends order links → AreAscendingLinks (edges_of links)
ascending_links links ascend i j d lt len =
    let len_j : j < length links = omega (arith, len, length-map links edge_at) in
    let len_i : i < length links = omega (arith, lt, len_j) in
    rw (get_or-map edge_at links i (link_at d) d len_i, get_or-map edge_at links j (link_at d) d len_j) (ascend i j (link_at d) lt len_j)

-- their edges are the link entries
pub are_links : (edges : List Edge) (links : List Link) → AreSortedLinks edges links → AreLinks edges (edges_of links)
are_links edges links sorted = record {
  ascend = ascending_links links sorted.ascend;
  exact = λ edge. (
    λ at. (sorted.exact (link_at edge)).0 (at_link links edge at),
    λ at. at_edge links (link_at edge) ((sorted.exact (link_at edge)).1 at),
  );
}

-- edges that go and are kept, and edges that come and are not, are a change
pub kept-change : (kept gone come : List Edge) → All (Contains kept) gone → All (λ edge. Contains kept edge → ⊥) come → IsChange kept gone come
kept-change kept gone come are_kept are_new = record {
  kept_ones = are_kept;
  new_ones = λ k d lt both. are_new k d lt both.0;
}

-- a change of edges is one of their links
pub linked-change : (kept gone come : List Link) (edges gone_edges come_edges : List Edge) → edges_of kept ≡ edges → edges_of gone ≡ gone_edges → edges_of come ≡ come_edges
    → IsChange edges gone_edges come_edges → IsChange kept gone come
linked-change kept gone come edges gone_edges come_edges kept_are gone_are come_are given =
    let change = rw (← kept_are, ← gone_are, ← come_are) at given in
    record {
      kept_ones = λ k d lt.
          at_link kept (edge_at (get_or gone k d)) (All-contains (Contains (edges_of kept)) (edges_of gone) (edge_at (get_or gone k d)) change.kept_ones
          (at_edge gone (get_or gone k d) (Contains-get_or gone k d lt)));
      new_ones = λ k d lt both.
          let link = get_or come k d in
          All-contains (λ edge. Contains (edges_of kept) edge × (Contains (edges_of gone) edge → ⊥) → ⊥) (edges_of come) (edge_at link) change.new_ones
          (at_edge come link (Contains-get_or come k d lt)) (at_edge kept link both.0, λ goes. both.1 (at_link gone (edge_at link) goes));
    }

-- and what links are then, their edges are
pub linked-less : (kept gone come after : List Link) (edges gone_edges come_edges : List Edge) → edges_of kept ≡ edges → edges_of gone ≡ gone_edges → edges_of come ≡ come_edges
    → IsLessWith kept gone come after → IsLessWith edges gone_edges come_edges (edges_of after)
linked-less kept gone come after edges gone_edges come_edges kept_are gone_are come_are less edge = rw (← kept_are, ← gone_are, ← come_are) (
  λ at. elim ((less (link_at edge)).0 (at_link after edge at)) [
    | inl comes ↦ inl (at_edge come (link_at edge) comes)
    | inr both ↦ inr (at_edge kept (link_at edge) both.0, λ goes. both.1 (at_link gone edge goes))
  ],
  λ then. at_edge after (link_at edge) ((less (link_at edge)).1 (elim then [
    | inl comes ↦ inl (at_link come edge comes)
    | inr both ↦ inr (at_link kept edge both.0, λ goes. both.1 (at_edge gone (link_at edge) goes))
  ])),
)

-- links of edges that aren't kept aren't kept, and those of edges that are, are
pub all_new : (kept come : List Link) (edges come_edges : List Edge) → edges_of kept ≡ edges → edges_of come ≡ come_edges → All (λ edge. Contains edges edge → ⊥) come_edges
    → All (λ link. Contains kept link → ⊥) come
all_new kept come edges come_edges kept_are come_are given k d lt at =
    All-contains (λ edge. Contains edges edge → ⊥) come_edges (edge_at (get_or come k d)) given
    (subst (λ (l : List Edge). Contains l (edge_at (get_or come k d))) come_are (at_edge come (get_or come k d) (Contains-get_or come k d lt)))
    (subst (λ (l : List Edge). Contains l (edge_at (get_or come k d))) kept_are (at_edge kept (get_or come k d) at))

pub all_kept : (kept gone : List Link) (edges gone_edges : List Edge) → edges_of kept ≡ edges → edges_of gone ≡ gone_edges → All (Contains edges) gone_edges → All (Contains kept) gone
all_kept kept gone edges gone_edges kept_are gone_are given k d lt =
    at_link kept (edge_at (get_or gone k d))
    (subst (λ (l : List Edge). Contains l (edge_at (get_or gone k d))) (sym kept_are)
    (All-contains (Contains edges) gone_edges (edge_at (get_or gone k d)) given
    (subst (λ (l : List Edge). Contains l (edge_at (get_or gone k d))) gone_are (at_edge gone (get_or gone k d) (Contains-get_or gone k d lt)))))
