-- A guide before a change: the guide without nodes, what a change makes dirty, and that all is read from there.
use Rattle.std.proofs.Common.{◌≡◌, ◌↔◌, ℕ, ◌+◌, inl, inr, List, [], ◌∷◌, AllPairs, Contains, refl, ap, ◌∙◌, subst, arith}
use Rattle.std.specs.List.{sum_by, AllZip}
use Rattle.std.proofs.lemmas.List.Elements.{All-weaker}
use Rattle.lore_base.specs.Databases.{AreAscendingEdges}
use Rattle.lore_base.specs.Deltas.{IsOnlyIn}
use Rattle.lore_base.specs.TargetSets.{ListsInOrder}
use Rattle.lore_base.proofs.MemberLaws.{Contains-none}
use Rattle.list_laws.proofs.SumLaws.{sum_by-within}
use Rattle.list_laws.proofs.MemberLaws.{All-from_members}
use Rattle.dataguide.specs.Types.{Oid, Edge, Node, GuideNode}
use Rattle.dataguide.specs.ReadCosts.{ReadsAtMost}
use Rattle.set_steps.specs.SetSteps.{reads_of}
use Rattle.set_steps.proofs.PlaceLaws.{AllZip-weaker}
use Rattle.dataguide.specs.Guides.{GuideGraph, StandsFor}
use Rattle.set_explorer.specs.Touched.{IsTouched, IsExtended, IsRead, ReadsTouched, ReadsSome, parents_of}
use Rattle.dataguide.specs.Deltas.{StoodFor}
use Rattle.set_explorer.specs.Changes.{IsToldChange, TellsEntering}

-- the guide of no name
pub nothing-stands : (nodes : List GuideNode) (entries : List (List ℕ × Node)) (edges : List Edge) → nodes ≡ []
    → entries ≡ []
    → StandsFor (record { nodes = nodes; entries = entries }) [] edges
nothing-stands nodes entries edges bare none = rw (bare, none) (record {
  nodes = record {
    apart = λ i j d less within. absurd (omega (arith, within));
    exact = λ set. (
      λ there. absurd (Contains-none set there),
      λ led. absurd
          (Contains-none (led.0.name, led.1.start) led.1.named),
    );
  };
  steps = λ k d within. absurd (omega (arith, within));
  entries = tt;
})

-- the guide without nodes stood for every graph before
pub stood-new : (guide : GuideGraph) (edges : List Edge) → guide.nodes ≡ [] → guide.entries ≡ []
    → StoodFor guide [] [] edges
stood-new guide edges nodes entries = record {
  names = [];
  before = edges;
  stands = nothing-stands guide.nodes guide.entries edges nodes entries;
  differ = record { lost_are = none-only; fresh_are = none-only };
}
  where
    none-only : (edge : Edge) → Contains [] edge ↔ IsOnlyIn edges edges edge
    none-only edge = (λ there. absurd (Contains-none edge there), λ only. absurd (only.1 only.0))

-- a change, told by the lost and the fresh edges and by what enters some objects, with the objects that they leave
pub told-change : (guide : GuideGraph) (lost fresh after : List Edge) (told : List Oid) (entering : List Edge)
    (dirty grown back : List Oid) → StoodFor guide lost fresh after → AreAscendingEdges lost → AreAscendingEdges fresh
    → TellsEntering after told entering → ListsInOrder (Contains (parents_of lost)) dirty
    → ListsInOrder (Contains (parents_of fresh)) grown → ListsInOrder (Contains (parents_of entering)) back
    → IsToldChange guide.nodes lost fresh after told entering dirty grown back
told-change guide lost fresh after told entering dirty grown back stood lost_ascend ascend tells dirty_are grown_are back_are =
    record {
      names = stood.names;
      before = stood.before;
      stands = record { nodes = stood.stands.nodes; steps = stood.stands.steps };
      differ = stood.differ;
      lost_ascend = lost_ascend;
      fresh_ascend = ascend;
      tells = tells;
      dirty_are = dirty_are.exact;
      grown_are = grown_are.exact;
      back_are = back_are.exact;
    }

-- of no object nothing is told
pub tells-nothing : (edges : List Edge) (told : List Oid) → told ≡ [] → TellsEntering edges told []
tells-nothing edges told bare = record {
  ascend = λ i j d less within. absurd (omega (arith, within));
  exact = λ edge. (
    λ at. absurd (Contains-none edge at),
    λ both. absurd (Contains-none edge.child (subst (λ (l : List Oid). Contains l edge.child) bare both.1)),
  );
}

-- lists with the same objects touch the same sets, of which the same is read
module _ (kept : List (List Oid)) (dirty other : List Oid) (same : (oid : Oid) → Contains dirty oid ↔ Contains other oid)
    (grown new : List Oid) (grew : (oid : Oid) → Contains grown oid ↔ Contains new oid) where
  touched-same : (set : List Oid) → IsTouched kept dirty set ↔ IsTouched kept other set
  touched-same set = (
    λ touched. elim touched [
      | inl fresh ↦ inl fresh
      | inr meets ↦ inr (meets.0, meets.1, (same meets.0).0 meets.2)
    ],
    λ touched. elim touched [
      | inl fresh ↦ inl fresh
      | inr meets ↦ inr (meets.0, meets.1, (same meets.0).1 meets.2)
    ],
  )

  read-same : (set read : List Oid) → IsRead kept dirty grown set read → IsRead kept other new set read
  read-same set read (inl whole) = inl whole
  read-same set read (inr (inr told)) = inr (inr told)
  read-same set read (inr (inl from)) =
      let is = from.1.2 in
      let more : IsExtended other new from.1.0 read set = record {
        clean = λ meets. is.clean (meets.0, meets.1, (same meets.0).1 meets.2);
        still = λ meets. is.still (meets.0, meets.1, (grew meets.0).1 meets.2);
        part = is.part;
        others = is.others;
      } in
      inr (inl (from.0, (from.1.0, from.1.1, more)))

  pub reads-same : (edges : List Edge) (sets : List (List Oid)) (before now : ℕ)
      → ReadsTouched kept dirty grown edges sets before now → ReadsTouched kept other new edges sets before now
  reads-same edges sets before now reads = record {
    touched = reads.touched;
    are = record {
      apart = reads.are.apart;
      exact = λ set. (
        λ there. (let both = (reads.are.exact set).0 there in (both.0, (touched-same set).0 both.1)),
        λ both. (reads.are.exact set).1 (both.0, (touched-same set).1 both.1),
      );
    };
    read = reads.read;
    each = AllZip-weaker (IsRead kept dirty grown) (IsRead kept other new) read-same reads.touched reads.read reads.each;
    counted = reads.counted;
  }

  pub some-same : (limit : ℕ) (names : List (List ℕ × Oid)) (edges : List Edge) (before now : ℕ)
      → ReadsSome kept dirty grown limit names edges before now → ReadsSome kept other new limit names edges before now
  some-same limit names edges before now reads = record {
    sets = reads.sets;
    apart = reads.apart;
    led = reads.led;
    few = reads.few;
    touched = All-weaker (IsTouched kept dirty) (IsTouched kept other) (λ set touched. (touched-same set).0 touched)
        reads.sets reads.touched;
    read = reads.read;
    each = AllZip-weaker (IsRead kept dirty grown) (IsRead kept other new) read-same reads.sets reads.read reads.each;
    counted = reads.counted;
  }

-- where no set was before, each is read whole
whole-reads : (dirty grown : List Oid) (sets read : List (List Oid)) → AllZip (IsRead [] dirty grown) sets read
    → read ≡ sets
whole-reads dirty grown [] [] each = refl
whole-reads dirty grown [] (first ∷ read) each = absurd each
whole-reads dirty grown (set ∷ sets) [] each = absurd each
whole-reads dirty grown (set ∷ sets) (first ∷ read) each =
    let same : first ≡ set = elim each.0 [
      | inl whole ↦ whole
      | inr other ↦ elim other [
        | inl from ↦ absurd (Contains-none from.1.0 from.1.1)
        | inr told ↦ absurd (Contains-none set told.0)
      ]
    ] in
    ap (λ (one : List Oid). one ∷ read) same ∙ ap (λ (l : List (List Oid)). set ∷ l)
    (whole-reads dirty grown sets read each.1)

-- from there every set is read
pub reads-all : (edges : List Edge) (sets : List (List Oid)) (before now : ℕ) → AllPairs (λ a b. (a ≡ b) → ⊥) sets
    → ReadsTouched [] [] [] edges sets before now → now ≡ before + sum_by (reads_of edges) sets
reads-all edges sets before now apart reads =
    let most = sum_by-within (reads_of edges) reads.touched sets reads.are.apart
    (All-from_members (Contains sets) reads.touched (λ set there. ((reads.are.exact set).0 there).0)) in
    let least = sum_by-within (reads_of edges) sets reads.touched apart
    (All-from_members (Contains reads.touched) sets (λ set there. (reads.are.exact set).1
    (there, inl (λ none. Contains-none set none)))) in
    let whole = ap (sum_by (reads_of edges)) (whole-reads [] [] reads.touched reads.read reads.each) in
    omega (arith, reads.counted, whole, most, least)

pub reads-at_most : (limit : ℕ) (names : List (List ℕ × Oid)) (edges : List Edge) (before now : ℕ)
    → ReadsSome [] [] [] limit names edges before now → ReadsAtMost limit names edges before now
reads-at_most limit names edges before now reads = record {
  sets = reads.sets;
  apart = reads.apart;
  led = reads.led;
  few = reads.few;
  counted = reads.counted ∙ ap (λ (l : List (List Oid)). before + sum_by (reads_of edges) l)
      (whole-reads [] [] reads.sets reads.read reads.each);
}
