-- The database that a prepared change leads to: what vanishes where nothing is linked anew, its labels, and that it is valid.
use Rattle.std.proofs.Common.{◌≡◌, ◌≢◌, ℕ, ◌+◌, ◌<◌, ◌≤◌, ◌^◌, ◌↔◌, List, [], ◌++◌, length, get_or, refl, ap, subst, inl, inr, arith, ◌∙◌}
use Rattle.std.specs.List.{Contains}
use Rattle.std.proofs.lemmas.List.Elements.{All-contains, Contains-get_or}
use Rattle.lore_store.specs.Types.{Changes, NAMES, OBJECTS, EDGES}
use Rattle.lore_base.specs.declared.edges.Oid.{Oid}
use Rattle.lore_base.specs.declared.edges.Edge.{Edge}
use Rattle.lore_base.specs.declared.values.Value.{Value}
use Rattle.lore_base.specs.Databases.{OemGraph, Database, IsLive, IsLinked, IsReached, IsValid, IsRooted}
use Rattle.lore_base.specs.ChangeSets.{FitsGraph, Fits, EdgesThen, ObjectsThen, NamesThen, IsRenamed, IsLiveThen, IsReachedThen, IsGraphAfter, IsAfter, AreDead}
use Rattle.lore_base.specs.GuideLimits.{FitsGuide}
use Rattle.lore_base.specs.Verdicts.{IsClear}
use Rattle.lore_base.proofs.MemberLaws.{Contains-none}
use Rattle.lore_base.proofs.ListLaws.{AllPairs-append}
use Rattle.list_laws.proofs.MemberLaws.{none_in}
use Rattle.oem_labels.specs.Labels.{first_uses}
use Rattle.oem_labels.proofs.TextSetLaws.{first_uses-apart}
use Rattle.oem_changes.proofs.ValidLaws.{valid_after, rooted_graph}
use Rattle.oem_changes.proofs.DeterminedLaws.{one_between, one_after}
use Rattle.dataguide.specs.Types.{GuideFault}
use Rattle.lore_base.specs.Databases.{AreAscendingEdges}
use Rattle.lore_base.specs.PathOrder.{AreInPathOrder}
use Rattle.lore_base.specs.declared.deltas.Delta.{Delta}
use Rattle.lore_base.specs.Deltas.{IsDelta}
use Rattle.dataguide.specs.Guides.{GuideGraph, StandsFor, sets_of}
use Rattle.dataguide.specs.Deltas.{StoodFor}
use Rattle.dataguide.specs.GuideCauses.{GuideCause}
use Rattle.lore_store.specs.Stores.{PlannedDatabase, database_then, store_order, IsGuided}
use Rattle.lore_store.specs.inside.Sizes.{SizeCause}
use Rattle.lore_store.specs.inside.Unlinked.{LinkNothing}

module _ (graph : OemGraph) (changes : Changes) (rooted : IsRooted graph) (fits : FitsGraph graph changes) (nothing : LinkNothing changes) where
  same_edges : (edge : Edge) → Contains graph.edges edge ↔ EdgesThen graph.edges changes edge
  same_edges edge = (
    λ there. inr (there, none_in changes.removed edge nothing.removed),
    λ then_there. elim then_there [
      | inl added ↦ absurd (none_in changes.added edge nothing.added added)
      | inr (there, stays) ↦ there
    ],
  )

  -- no name is renamed
  not_renamed : (name : List ℕ) → IsRenamed changes name → ⊥
  not_renamed name (inl bound) = none_in changes.named (name, bound.0) nothing.named bound.1
  not_renamed name (inr unnamed) = none_in changes.unnamed name nothing.unnamed unnamed

  reached_then : (oid : Oid) → IsReached graph.names graph.edges oid → IsReachedThen graph.names changes graph.edges oid
  reached_then oid reached = record {
    name = reached.name;
    start = reached.start;
    word = reached.word;
    named = inr (reached.named, not_renamed reached.name);
    walked = reached.walked;
  }

  live_reached : (oid : Oid) → IsLive graph.objects oid → IsReachedThen graph.names changes graph.edges oid
  live_reached oid live =
      reached_then oid (All-contains (λ (object : Oid × Value). IsReached graph.names graph.edges object.0) graph.objects (oid, live.0) rooted.reached live.1)

  then_reached : (oid : Oid) → IsLiveThen graph.objects changes oid → IsReachedThen graph.names changes graph.edges oid
  then_reached oid (value, inl made) = absurd (none_in changes.made (oid, value) nothing.made made)
  then_reached oid (value, inr (inl given)) =
      live_reached oid (All-contains (λ (object : Oid × Value). IsLive graph.objects object.0) changes.values (oid, value) fits.values_live given)
  then_reached oid (value, inr (inr (kept, same))) = live_reached oid (value, kept)

  -- where nothing is linked anew, nothing vanishes
  pub none_dead : AreDead graph changes []
  none_dead = record {
    between = graph.edges;
    linked = record { ascend = rooted.well_formed.ordered.edges_ascend; exact = same_edges };
    ascend = λ i j d low within. absurd (omega (arith, within));
    vanish = λ oid dead. absurd (Contains-none oid dead);
    stay = λ oid live. inr (then_reached oid live);
  }

  -- and names and edges stay
  same_names : (entry : List ℕ × Oid) → Contains graph.names entry ↔ NamesThen graph.names changes entry
  same_names entry = (
    λ there. inr (there, not_renamed entry.0),
    λ then_there. elim then_there [
      | inl named ↦ absurd (none_in changes.named entry nothing.named named)
      | inr (there, stays) ↦ there
    ],
  )

  parent_reached : (edge : Edge) → Contains graph.edges edge → IsReachedThen graph.names changes graph.edges edge.parent
  parent_reached edge at =
      live_reached edge.parent (_, (All-contains (IsLinked graph.objects) graph.edges edge rooted.well_formed.edges_linked at).parent)

  nothing_linked : (after : OemGraph) → IsGraphAfter graph changes after → (after.names ≡ graph.names) × (after.edges ≡ graph.edges)
  nothing_linked after leaves =
      let between : leaves.between ≡ graph.edges =
      one_between graph.edges changes leaves.between graph.edges leaves.linked (record { ascend = rooted.well_formed.ordered.edges_ascend; exact = same_edges }) in
      let kept : OemGraph = record { names = graph.names; objects = after.objects; edges = graph.edges; next = after.next } in
      let same = one_after graph changes after kept leaves (record {
        between = graph.edges;
        linked = record { ascend = rooted.well_formed.ordered.edges_ascend; exact = same_edges };
        names_ascend = rooted.well_formed.ordered.names_ascend;
        names = same_names;
        objects_ascend = leaves.objects_ascend;
        objects = λ object. subst (λ (l : List Edge). Contains after.objects object ↔ (ObjectsThen graph.objects changes object × IsReachedThen graph.names changes l object.0)) between (leaves.objects object);
        edges_ascend = rooted.well_formed.ordered.edges_ascend;
        edges = λ edge. (λ at. (at, parent_reached edge at), λ both. both.0);
        next = leaves.next;
      }) in (
        ap (λ (g : OemGraph). g.names) same,
        ap (λ (g : OemGraph). g.edges) same,
      )

module _ (db : Database) (changes : Changes) (valid : IsValid db) (fits : Fits db changes) where
  -- the listed labels are the new ones
  pub labels_come : first_uses db.labels changes.labels ≡ changes.labels
  labels_come = first_uses-apart db.labels changes.labels
      (AllPairs-append (λ a b. a ≢ b) db.labels changes.labels valid.restorable.labels_distinct fits.labels_distinct
      (λ i j d low_i low_j same. All-contains (λ text. Contains db.labels text → ⊥) changes.labels (get_or changes.labels j d) fits.labels_new
      (Contains-get_or changes.labels j d low_j) (subst (Contains db.labels) same (Contains-get_or db.labels i d low_i))))

  pub labels_fit : length db.labels + length (first_uses db.labels changes.labels) < 2 ^ 32
  labels_fit = let same = ap length labels_come in omega (arith, same, fits.few_labels)

  module _ (plan : PlannedDatabase) (labels : plan.labels.come ≡ first_uses db.labels changes.labels)
      (graph : IsGraphAfter db.graph changes (database_then db plan).graph) where
    pub leads_after : IsAfter db changes (database_then db plan)
    leads_after = record { labels = ap (λ l. db.labels ++ l) (labels ∙ labels_come); graph = graph; nodes = refl; mode = refl }

    pub leads_valid : IsClear (SizeCause (database_then db plan).graph) store_order
        → FitsGuide db.nodes (database_then db plan).graph.names (database_then db plan).graph.edges → IsValid (database_then db plan)
    leads_valid sized fits_guide = valid_after db changes (database_then db plan) valid fits leads_after
        (few NAMES (length (database_then db plan).graph.names) sized.0)
        (few OBJECTS (length (database_then db plan).graph.objects) sized.1.0)
        (few EDGES (length (database_then db plan).graph.edges) sized.1.1.0) fits_guide
      where
        few : (limit count : ℕ) → (limit < count → ⊥) → count ≤ limit
        few limit count not_more = omega (arith, not_more)

-- what is found of names and edges is so of the graph that has them
module _ (names : List (List ℕ × Oid)) (edges : List Edge) (graph : OemGraph) (named : names ≡ graph.names) (linked : edges ≡ graph.edges) where
  pub fits_graph : (limit : ℕ) → FitsGuide limit names edges → FitsGuide limit graph.names graph.edges
  fits_graph limit fits = rw (named, linked) at fits

  pub graph_cause : (limit : ℕ) (error : GuideFault) → GuideCause limit names edges error → GuideCause limit graph.names graph.edges error
  graph_cause limit error cause = rw (named, linked) at cause

  pub graph_guided : (guide : GuideGraph) → StandsFor guide names edges → AreInPathOrder names edges (sets_of guide.nodes) → IsGuided graph guide
  graph_guided guide stands order = record { stands = rw (named, linked) at stands; order = rw (named, linked) at order }

-- the guide that is kept stood before the edges changed
pub stood_before : (graph after : OemGraph) (guide : GuideGraph) → IsGuided graph guide → (delta : Delta) → IsDelta graph after delta
    → (edges gone come : List Edge) → edges ≡ after.edges → gone ≡ delta.edges_gone → come ≡ delta.edges_come
    → StoodFor guide gone come edges × AreAscendingEdges come
stood_before graph after guide guided delta differ edges gone come same same_gone same_come =
    let stood : StoodFor guide delta.edges_gone delta.edges_come after.edges = record {
      names = graph.names;
      before = graph.edges;
      stands = guided.stands;
      differ = record { lost_are = differ.edges_gone; fresh_are = differ.edges_come };
    } in
    (rw (same, same_gone, same_come) stood, rw same_come differ.edges_ascend.1)

-- where nothing is linked anew, the guide stays, and it fits
pub stays_guided : (db : Database) (guide : GuideGraph) → IsValid db → IsGuided db.graph guide → (changes : Changes) → LinkNothing changes
    → FitsGraph db.graph changes → (after : OemGraph) → IsGraphAfter db.graph changes after
    → IsGuided after guide × FitsGuide db.nodes after.names after.edges
stays_guided db guide valid guided changes nothing fits after leaves =
    let same = nothing_linked db.graph changes (rooted_graph db valid) fits nothing after leaves in
    (rw (same.0, same.1) guided, rw (same.0, same.1) valid.fits)
