-- The exploring of sets: how it begins, goes on and ends, and what it reads.
use Rattle.std.proofs.Common.{◌≡◌, ℕ, ◌+◌, ◌≤◌, inl, inr, List, [], ◌∷◌, ◌++◌, length, map, take, drop, Some, All}
use Rattle.std.proofs.Common.{AllPairs, Contains}
use Rattle.std.proofs.Common.{refl, sym, ap, ◌∙◌, subst, arith, add-zero}
use Rattle.std.specs.List.{slice_get, AllZip}
use Rattle.std.specs.Map.{keys_of}
use Rattle.std.proofs.lemmas.Map.Entries.{length-keys_of}
use Rattle.set_explorer.proofs.FoundSteps.{none-left}
use Rattle.std.proofs.lemmas.List.{append-nil, length-map, take_more, take-append-le, take_all, take-append-drop}
use Rattle.std.proofs.lemmas.List.{length-take}
use Rattle.std.proofs.lemmas.List.Sums.{sum_by_push}
use Rattle.std.proofs.lemmas.List.Elements.{All-contains, All-map, Contains-push, Contains-push_cases}
use Rattle.std.proofs.lemmas.List.Elements.{Contains-append_left}
use Rattle.std.proofs.lemmas.Option.{slice_get_within, get_or_from_slice_get}
use Rattle.lore_base.specs.Lists.{Extends}
use Rattle.set_explorer.specs.Types.{Oid, Edge, Node, GuideNode, Origin, Fresh, DeltaNode, GuideFault, Nodes, Cells}
use Rattle.set_explorer.specs.Types.{NoMemory}
use Rattle.set_explorer.specs.declared.found.Found.{Found}
use Rattle.set_steps.specs.SetSteps.{reads_of}
use Rattle.lore_base.specs.TargetSets.{IsLedTo, LeadsTo}
use Rattle.set_explorer.specs.Nodes.{sets_of, HasSet, IsEntry, node_number}
use Rattle.set_explorer.specs.Touched.{IsTouched, IsRead, ReadsTouched, ReadsSome}
use Rattle.set_explorer.specs.PlannedNodes.{origin_set, node_then, IsOrigin}
use Rattle.set_explorer.specs.inside.Trails.{TrailStop, IsSearched, IsExpanded}
use Rattle.set_explorer.specs.inside.Founds.{found_nodes, found_sets, target_sets, Costs, IsHalted, IsFound}
use Rattle.set_explorer.specs.PlannedNodes.{KeepsOnce}
use Rattle.lore_base.proofs.MemberLaws.{Contains-none}
use Rattle.list_laws.proofs.SumLaws.{distinct_no_longer}
use Rattle.list_laws.proofs.MemberLaws.{All-from_members, Contains-from_map}
use Rattle.list_laws.proofs.PlaceLaws.{place_of_member, slice_get-append_left}
use Rattle.list_laws.proofs.PartLaws.{map-map}
use Rattle.set_steps.proofs.PlaceLaws.{one-place, AllZip-then, AllZip-weaker}
use Rattle.set_explorer.proofs.TrailLaws.{set_of}
use Rattle.set_steps.proofs.PairLaws.{AllPairs-push}
use Rattle.lore_base.specs.GuideLimits.{KeepLimits}
use Rattle.set_explorer.proofs.SearchedLaws.{expanded-stays}

abbrev AreApart : List (List Oid) → Type 0
AreApart sets = AllPairs (λ a b. (a ≡ b) → ⊥) sets

-- ---- what was read
pub reads-none : (kept : List (List Oid)) (dirty grown : List Oid) (edges : List Edge) (sets : List (List Oid))
    (before : ℕ) → ReadsTouched kept dirty grown edges (take 0 sets) before before
reads-none kept dirty grown edges sets before = record {
  touched = [];
  are = record {
    apart = λ i j d less within. absurd (omega (arith, within));
    exact = λ set. (λ there. absurd (Contains-none set there), λ both. absurd (Contains-none set both.0));
  };
  read = [];
  each = tt;
  counted = sym (add-zero before);
}

-- what stands before a place stands at no later one
not-before : (sets : List (List Oid)) (n : ℕ) (set : List Oid) → AreApart sets → slice_get sets n ≡ Some set
    → Contains (take n sets) set → ⊥
not-before sets n set apart at there =
    let from = place_of_member (take n sets) set there in
    let within = slice_get_within (take n sets) from.0 set from.1 in
    let in_all : slice_get sets from.0 ≡ Some set =
    subst (λ (l : List (List Oid)). slice_get l from.0 ≡ Some set) (take-append-drop n sets)
    (slice_get-append_left (take n sets) (drop n sets) from.0 set from.1) in
    let place : from.0 ≡ n = one-place sets apart from.0 n set in_all at in
    omega (arith, within, place, length-take n sets)

taken-more : (old new : List (List Oid)) (n : ℕ) (set : List Oid) → Extends old new → slice_get old n ≡ Some set
    → take (n + 1) new ≡ take n old ++ set ∷ []
taken-more old new n set extends at =
    let within = slice_get_within old n set at in
    ap (take (n + 1)) extends.1 ∙ take-append-le (n + 1) old extends.0 (omega (arith, within))
    ∙ take_more old n set within
    ∙ ap (λ (s : List Oid). take n old ++ s ∷ []) (get_or_from_slice_get old n set set at)

module _ (kept : List (List Oid)) (dirty grown : List Oid) (edges : List Edge) where
  pub reads-more : (old new : List (List Oid)) (n : ℕ) (set : List Oid) (before between now : ℕ) → AreApart old
      → Extends old new
      → slice_get old n ≡ Some set → ReadsTouched kept dirty grown edges (take n old) before between
      → Costs kept dirty grown edges set between now → ReadsTouched kept dirty grown edges (take (n + 1) new) before now
  reads-more old new n set before between now apart extends at reads costs =
      subst (λ (l : List (List Oid)). ReadsTouched kept dirty grown edges l before now)
      (sym (taken-more old new n set extends at))
      (elim costs [
        | inl read ↦ record {
          touched = reads.touched ++ set ∷ [];
          are = record {
            apart = AllPairs-push (λ (a b : List Oid). (a ≡ b) → ⊥) reads.touched set reads.are.apart
                (λ other there same. not-before old n set apart at
                (subst (λ (s : List Oid). Contains (take n old) s) same ((reads.are.exact other).0 there).0));
            exact = λ other. (
              λ there. (elim (Contains-push_cases reads.touched set other there) [
                | inl early ↦ (
                    let both = (reads.are.exact other).0 early in
                    (Contains-append_left (take n old) (set ∷ []) other both.0, both.1))
                | inr same ↦ (
                  subst (λ (s : List Oid). Contains (take n old ++ set ∷ []) s) same (Contains-push (take n old) set),
                  subst (λ (s : List Oid). IsTouched kept dirty s) same read.0,
                )
              ]),
              λ both. (elim (Contains-push_cases (take n old) set other both.0) [
                | inl early ↦ Contains-append_left reads.touched (set ∷ []) other
                    ((reads.are.exact other).1 (early, both.1))
                | inr same ↦ subst (λ (s : List Oid). Contains (reads.touched ++ set ∷ []) s) same
                    (Contains-push reads.touched set)
              ]),
            );
          };
          read = reads.read ++ read.1.0 ∷ [];
          each = AllZip-then (IsRead kept dirty grown) reads.touched reads.read set read.1.0 reads.each read.1.1;
          counted = omega (arith, read.1.2, reads.counted, sum_by_push (reads_of edges) reads.read read.1.0);
        }
        | inr unread ↦ record {
          touched = reads.touched;
          are = record {
            apart = reads.are.apart;
            exact = λ other. (
              λ there. (
                  let both = (reads.are.exact other).0 there in
                  (Contains-append_left (take n old) (set ∷ []) other both.0, both.1)),
              λ both. (elim (Contains-push_cases (take n old) set other both.0) [
                | inl early ↦ (reads.are.exact other).1 (early, both.1)
                | inr same ↦ absurd (unread.0 (subst (λ (s : List Oid). IsTouched kept dirty s) (sym same) both.1))
              ]),
            );
          };
          read = reads.read;
          each = reads.each;
          counted = unread.1 ∙ reads.counted;
        }
      ])

  pub reads-some : (limit : ℕ) (names : List (List ℕ × Oid)) (nodes : List GuideNode) (n count before now : ℕ)
      → IsSearched names edges nodes n → length (sets_of nodes) ≤ limit
      → ReadsTouched kept dirty grown edges (take count (sets_of nodes)) before now
      → ReadsSome kept dirty grown limit names edges before now
  reads-some limit names nodes n count before now searched few reads = record {
    sets = reads.touched;
    apart = reads.are.apart;
    led = All-from_members (IsLedTo names edges) reads.touched (λ set there. (
        let in_sets = taken-there set ((reads.are.exact set).0 there).0 in
        let from = Contains-from_map set_of searched.trail set (subst (λ (l : List (List Oid)). Contains l set)
        (sym searched.is.found) in_sets) in (
          from.0.path,
          subst (λ (s : List Oid). LeadsTo names edges from.0.path s) from.2
              (All-contains (λ (s : TrailStop). LeadsTo names edges s.path s.set) searched.trail from.0 searched.is.leads
              from.1),
        )));
    few = omega (
      arith,
      few,
      distinct_no_longer reads.touched (sets_of nodes) reads.are.apart
          (λ set there. taken-there set ((reads.are.exact set).0 there).0),
    );
    touched = All-from_members (IsTouched kept dirty) reads.touched (λ set there. ((reads.are.exact set).0 there).1);
    read = reads.read;
    each = reads.each;
    counted = reads.counted;
  }
    where
      taken-there : (set : List Oid) → Contains (take count (sets_of nodes)) set → Contains (sets_of nodes) set
      taken-there set there = subst (λ (l : List (List Oid)). Contains l set) (take-append-drop count (sets_of nodes))
          (Contains-append_left (take count (sets_of nodes)) (drop count (sets_of nodes)) set there)

  pub reads-nothing : (limit : ℕ) (names : List (List ℕ × Oid)) (before : ℕ)
      → ReadsSome kept dirty grown limit names edges before before
  reads-nothing limit names before = record {
    sets = [];
    apart = λ i j d less within. absurd (omega (arith, within));
    led = λ k d within. absurd (omega (arith, within));
    few = omega arith;
    touched = λ k d within. absurd (omega (arith, within));
    read = [];
    each = tt;
    counted = sym (add-zero before);
  }

-- ---- names
abbrev pub name_target : List ℕ × Oid → List ℕ × Origin
name_target named = (named.0, Fresh (named.1 ∷ []))

-- targets of names, told by their texts and their sets
pub targets-are : (names : List (List ℕ × Oid)) (targets : List (List ℕ × Origin)) → keys_of targets ≡ keys_of names
    → map (λ target. target.1) targets ≡ map (λ oid. Fresh (oid ∷ [])) (map (λ named. named.1) names)
    → targets ≡ map name_target names
targets-are [] [] keys sets = refl
targets-are [] (target ∷ targets) keys sets = cc
targets-are (named ∷ names) [] keys sets = cc
targets-are (named ∷ names) (target ∷ targets) keys sets =
    let key : target.0 ≡ named.0 = cc in
    let set : target.1 ≡ Fresh (named.1 ∷ []) = cc in
    let other_keys : keys_of targets ≡ keys_of names = cc in
    let other_sets : map (λ (t : List ℕ × Origin). t.1) targets
    ≡ map (λ (oid : Oid). Fresh (oid ∷ [])) (map (λ (n : List ℕ × Oid). n.1) names) = cc in
    let first : target ≡ name_target named = λ i. (key i, set i) in
    ap (λ (t : List ℕ × Origin). t ∷ targets) first
    ∙ ap (λ (l : List (List ℕ × Origin)). name_target named ∷ l) (targets-are names targets other_keys other_sets)

-- once no text is left, they are those of all names
pub targets-end : (names : List (List ℕ × Oid)) (targets : List (List ℕ × Origin)) (oids : List Oid)
    (rest : List (List ℕ)) → length rest ≡ 0 → keys_of targets ++ rest ≡ keys_of names
    → oids ≡ map (λ named. named.1) names
    → map (λ target. target.1) targets ≡ map (λ oid. Fresh (oid ∷ [])) (take (length targets) oids)
    → targets ≡ map name_target names
targets-end names targets oids rest none keys are sets =
    let whole : keys_of targets ≡ keys_of names =
    sym (append-nil (keys_of targets)) ∙ ap (λ (l : List (List ℕ)). keys_of targets ++ l) (none-left rest none)
    ∙ keys in
    let few : length oids ≤ length targets =
    omega (
      arith,
      ap length are,
      length-map names (λ (n : List ℕ × Oid). n.1),
      ap length whole,
      length-keys_of targets,
      length-keys_of names,
    ) in
    targets-are names targets whole
    (sets ∙ ap (map (λ (oid : Oid). Fresh (oid ∷ []))) (take_all (length targets) oids few ∙ are))

pub name-sets : (kept : List GuideNode) (names : List (List ℕ × Oid)) (targets : List (List ℕ × Origin))
    → targets ≡ map name_target names
    → target_sets kept targets ≡ map (λ named. named.1 ∷ []) names
name-sets kept names targets is = ap (target_sets kept) is ∙ map-map name_target
    (λ (t : List ℕ × Origin). origin_set kept t.1) names

pub no-sets : (kept : List GuideNode) (found : Found) → found.nodes.items ≡ [] → found_sets kept found ≡ []
no-sets kept found none = ap (λ (l : List DeltaNode). sets_of (map (node_then kept) l)) none

entries-zip : (kept nodes : List GuideNode) (names : List (List ℕ × Oid)) (entries : List (List ℕ × Node))
    → AllZip (λ target edge. (edge.0 ≡ target.0) × HasSet nodes edge.1 (origin_set kept target.1))
    (map name_target names) entries
    → AllZip (IsEntry nodes) names entries
entries-zip kept nodes [] [] zip = tt
entries-zip kept nodes [] (entry ∷ entries) zip = zip
entries-zip kept nodes (named ∷ names) [] zip = zip
entries-zip kept nodes (named ∷ names) (entry ∷ entries) zip =
    (record { name = zip.0.0; node = zip.0.1 }, entries-zip kept nodes names entries zip.1)

pub entries-start : (kept nodes : List GuideNode) (names : List (List ℕ × Oid)) (targets : List (List ℕ × Origin))
    (entries : List (List ℕ × Node)) → targets ≡ map name_target names
    → AllZip (λ target edge. (edge.0 ≡ target.0) × HasSet nodes edge.1 (origin_set kept target.1)) targets entries
    → AllZip (IsEntry nodes) names entries
entries-start kept nodes names targets entries is zip = entries-zip kept nodes names entries
    (subst (λ (l : List (List ℕ × Origin)). AllZip (λ target edge. (edge.0 ≡ target.0) × HasSet nodes edge.1
    (origin_set kept target.1)) l entries) is zip)

-- entries of names have the names as keys
pub entry-keys : (nodes : List GuideNode) (names : List (List ℕ × Oid)) (entries : List (List ℕ × Node))
    → AllZip (IsEntry nodes) names entries → keys_of entries ≡ keys_of names
entry-keys nodes [] [] zip = refl
entry-keys nodes [] (entry ∷ entries) zip = absurd zip
entry-keys nodes (named ∷ names) [] zip = absurd zip
entry-keys nodes (named ∷ names) (entry ∷ entries) zip =
    ap (λ (n : List ℕ). n ∷ keys_of entries) zip.0.name
    ∙ ap (λ (l : List (List ℕ)). named.0 ∷ l) (entry-keys nodes names entries zip.1)

pub entries-stay : (edges : List Edge) (nodes new : List GuideNode) (n : ℕ) → IsExpanded edges nodes n new
    → (names : List (List ℕ × Oid)) (entries : List (List ℕ × Node)) → AllZip (IsEntry nodes) names entries → AllZip
    (IsEntry new) names entries
entries-stay edges nodes new n now names entries zip =
    AllZip-weaker (IsEntry nodes) (IsEntry new)
    (λ named entry is. record {
      name = is.name;
      node = expanded-stays edges nodes new n now entry.1
          (named.1 ∷ []) is.node;
    }) names entries zip

pub name-origins : (kept : List GuideNode) (names : List (List ℕ × Oid)) (targets : List (List ℕ × Origin))
    → targets ≡ map name_target names
    → All (λ target. IsOrigin kept target.1) targets
name-origins kept names targets is = subst (λ (l : List (List ℕ × Origin)). All
    (λ (t : List ℕ × Origin). IsOrigin kept t.1) l) (sym is)
    (All-map (λ (t : List ℕ × Origin). IsOrigin kept t.1) name_target names (λ k d within. tt))

-- where the search stops, what was read are some touched sets
pub reads-halted : (fault : GuideFault) (limit : ℕ) (kept : List (List Oid)) (dirty grown : List Oid)
    (names : List (List ℕ × Oid)) (edges : List Edge)
    (nodes : List GuideNode) (n before between now : ℕ) → (fault ≡ NoMemory → ⊥) → IsSearched names edges nodes n
    → KeepLimits limit (sets_of nodes) → ReadsTouched kept dirty grown edges (take n (sets_of nodes)) before between
    → IsHalted fault limit edges kept dirty grown (sets_of nodes) n between now
    → ReadsSome kept dirty grown limit names edges before now
reads-halted NoMemory limit kept dirty grown names edges nodes n before between now not_memory searched fit reads
    halted = absurd (not_memory refl)
reads-halted Nodes limit kept dirty grown names edges nodes n before between now not_memory searched fit reads halted =
    reads-some kept dirty grown edges limit names nodes n (n + 1) before now searched fit.few
    (reads-more kept dirty grown edges (sets_of nodes) (sets_of nodes) n halted.set before between now searched.is.apart
    ([], sym (append-nil (sets_of nodes))) halted.at reads halted.costs)
reads-halted Cells limit kept dirty grown names edges nodes n before between now not_memory searched fit reads halted =
    reads-some kept dirty grown edges limit names nodes n (n + 1) before now searched fit.few
    (reads-more kept dirty grown edges (sets_of nodes) (sets_of nodes) n halted.set before between now searched.is.apart
    ([], sym (append-nil (sets_of nodes))) halted.at reads halted.costs)

pub nodes-count : (kept : List GuideNode) (found : Found) → length (found_nodes kept found) ≡ length found.nodes.items
nodes-count kept found = length-map found.nodes.items (node_then kept)

-- each node before stands once among those that were found
pub keeps-once : (kept : List GuideNode) (found : Found) → IsFound kept found → KeepsOnce kept found.nodes.items
keeps-once kept found is = record {
  origins = is.origins;
  once = λ i j a b node at_i at_j from_a from_b. (
      let both : Some (Some (node_number i)) ≡ Some (Some (node_number j)) =
      sym (is.placed i a node at_i from_a) ∙ is.placed j b node at_j from_b in
      let one : node_number i ≡ node_number j = cc in
      ap (λ (n : Node). n.0) one);
}
