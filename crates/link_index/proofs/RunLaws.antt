-- The run of links to one child.
use Rattle.std.proofs.Common.{◌≡◌, ◌↔◌, ℕ, ◌<◌, true, Less, Option, Some, None, IfSome, List, [], ◌∷◌, ◌++◌, length, get_or, Contains, refl, sym, ap, subst, ◌∙◌, arith}
use Rattle.std.proofs.lemmas.Bool.Decides.{nat_tests}
use Rattle.std.proofs.lemmas.List.{get_or-map, length-map, map-append, append_assoc, append-nil}
use Rattle.std.proofs.lemmas.List.Elements.{filter-append}
use Rattle.std.proofs.lemmas.List.Kept.{AllPairs-filter}
use Rattle.lore_base.proofs.MemberLaws.{Contains-filter, unfiltered}
use Rattle.lore_base.specs.Walks.{entering_cmp, ListsEntering}
use Rattle.near_links.specs.Links.{IsRunTo}
use Rattle.near_links.proofs.AheadLaws.{run_none, run_more, run_all}
use Rattle.near_links.proofs.SlotLaws.{members}
use Rattle.link_index.specs.Types.{Oid, Label, Edge}
use Rattle.link_index.specs.declared.link.Link.{Link}
use Rattle.link_index.specs.declared.records.LinkRecord.{LinkRecord}
use Rattle.link_index.specs.declared.heads.Head.{Head}
use Rattle.link_index.specs.inside.LinkEdges.{edge_at, link_at, edges_of, order}
use Rattle.link_index.specs.inside.LinkRuns.{has_label, with_label, ListsRun}
use Rattle.link_index.specs.inside.Records.{link_in, nothing, links_of, LiesAt, HasLink, child_of, Precedes, head_of, after_at, AreChained, next_of}
use Rattle.link_index.proofs.LinkLaws.{at_edge, at_link, tied_link}
use Rattle.link_index.proofs.RecordLaws.{list_order, lies_once}

-- what is listed of the records lies at some place
pub links_lie : (records : List LinkRecord) (link : Link) → Contains (links_of records) link ↔ HasLink records link
links_lie records link = members link_in order tied_link nothing refl records link

-- so far the links up to a place were told
pub record AreTold (records : List LinkRecord) (child : Oid) (given : Option Label) (place : Option ℕ) (old new : List Edge) : Type 0 where
  pub run : List Link
  pub to : IsRunTo child_of Precedes (LiesAt records) child place run
  pub told : new ≡ old ++ edges_of (with_label given run)

pub told_none : (records : List LinkRecord) (child : Oid) (given : Option Label) (old : List Edge) → AreTold records child given None old old
told_none records child given old = record {
  run = [];
  to = run_none child_of Precedes (LiesAt records) child;
  told = sym (append-nil old);
}

pub told_more : (heads : List Head) (records : List LinkRecord) (child : Oid) (given : Option Label) → AreChained heads records → (place : Option ℕ) (old now new : List Edge)
    → AreTold records child given place old now → (next : ℕ) → next_of heads records child place ≡ Some next → (link : Link) → LiesAt records next link
    → new ≡ now ++ edges_of (with_label given (link ∷ [])) → AreTold records child given (Some next) old new
told_more heads records child given chained place old now new so next is link lies pushed = record {
  run = so.run ++ link ∷ [];
  to = run_more child_of Precedes list_order (LiesAt records) (lies_once records) (after_at records) (head_of heads) chained child place so.run so.to next is link lies;
  told = pushed ∙ ap (λ (l : List Edge). l ++ edges_of (with_label given (link ∷ []))) so.told
      ∙ append_assoc old (edges_of (with_label given so.run)) (edges_of (with_label given (link ∷ [])))
      ∙ ap (λ (l : List Edge). old ++ l) (sym (map-append edge_at (with_label given so.run) (with_label given (link ∷ []))) ∙ ap edges_of (sym (filter-append (has_label given) so.run (link ∷ []))));
}

pub told_all : (heads : List Head) (records : List LinkRecord) (child : Oid) (given : Option Label) → AreChained heads records → (place : Option ℕ) (old now : List Edge)
    → AreTold records child given place old now → next_of heads records child place ≡ None → (more : List Edge) × (now ≡ old ++ more) × ListsRun records child given more
told_all heads records child given chained place old now so is = (
  edges_of (with_label given so.run),
  so.told,
  (so.run, run_all child_of Precedes list_order (LiesAt records) (lies_once records) (after_at records) (head_of heads) chained child place so.run so.to is, refl),
)

-- a link that passes has the label that is given
has_it : (given : Option Label) (link : Link) → has_label given link ≡ true → IfSome given (λ label. link.label ≡ label)
has_it None link h = tt
has_it (Some given) link h =
    let number : link.label.0 ≡ given.0 = grind (arith, nat_tests) in
    ap (λ n. record { 0 = n }) number

passes : (given : Option Label) (link : Link) → IfSome given (λ label. link.label ≡ label) → has_label given link ≡ true
passes None link h = refl
passes (Some given) link h =
    let number : link.label.0 ≡ given.0 = ap (λ (l : Label). l.0) h in
    grind (arith, nat_tests)

-- of two links to one child the order is that of label and parent
within : (a b : Link) → order a b ≡ Less → a.child.0 ≡ b.child.0 → entering_cmp (edge_at a) (edge_at b) ≡ Less
within a b less same = grind (arith, nat_tests)

-- the edges of the run are those that enter the child
pub lists_entering : (records : List LinkRecord) (child : Oid) (given : Option Label) (edges : List Edge) → ListsRun records child given edges
    → ListsEntering (edges_of (links_of records)) child given edges
lists_entering records child given edges lists =
    subst (λ (l : List Edge). ListsEntering (edges_of (links_of records)) child given l) (sym lists.2) of_run
  where
    run : List Link
    run = lists.0

    kept : List Link
    kept = with_label given run

    of_run : ListsEntering (edges_of (links_of records)) child given (edges_of kept)
    of_run = record {
      ascending = λ i j d lt len. (
          let len_j : j < length kept = omega (arith, len, length-map kept edge_at) in
          let len_i : i < length kept = omega (arith, lt, len_j) in
          let less = AllPairs-filter Precedes (has_label given) run lists.1.ascends i j (link_at d) lt len_j in
          rw (get_or-map edge_at kept i (link_at d) d len_i, get_or-map edge_at kept j (link_at d) d len_j)
          (within (get_or kept i (link_at d)) (get_or kept j (link_at d)) less.1 (ap (λ (o : Oid). o.0) less.0)));
      exact = λ edge. (
        λ at. (
            let parts = unfiltered (has_label given) run (link_at edge) (at_link kept edge at) in
            let both = (lists.1.exact (link_at edge)).0 parts.0 in
            (at_edge (links_of records) (link_at edge) ((links_lie records (link_at edge)).1 both.0), both.1, has_it given (link_at edge) parts.1)),
        λ h.
            let has = (links_lie records (link_at edge)).0 (at_link (links_of records) edge h.0) in
            at_edge kept (link_at edge) (Contains-filter (has_label given) run (link_at edge) ((lists.1.exact (link_at edge)).1 (has, h.1)) (passes given (link_at edge) h.2)),
      );
    }
