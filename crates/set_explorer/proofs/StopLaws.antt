-- The stops that names and the steps of a stop lead to, in the order of their paths.
use Rattle.std.proofs.Common.{◌≡◌, ◌≢◌, ◌<◌, ℕ, Less, inl, inr, List, [], ◌∷◌, map, All, AllPairs, Contains}
use Rattle.std.proofs.Common.{refl, sym, subst, arith}
use Rattle.std.specs.List.Sorted.{IsStrictlySortedBy}
use Rattle.std.specs.Map.{keys_of}
use Rattle.std.specs.List.{AllByRecursion, AllZip}
use Rattle.std.proofs.lemmas.List.Elements.{All-cons, All-map, All-contains}
use Rattle.std.proofs.lemmas.List.Kept.{AllPairs-cons}
use Rattle.lore_base.specs.Bytes.{bytes_cmp}
use Rattle.lore_base.specs.Names.{IsNameTable}
use Rattle.lore_base.proofs.ListLaws.{AllPairs-tail, AllPairs-head}
use Rattle.lore_base.proofs.MemberLaws.{Contains-none, Contains-head, Contains-cases, Contains-same}
use Rattle.list_laws.proofs.MemberLaws.{All-from_members}
use Rattle.set_explorer.specs.Types.{Oid, Label, Edge, Node}
use Rattle.set_explorer.specs.Nodes.{AscendByLabel}
use Rattle.lore_base.specs.TargetSets.{LabelPath, IsTargetSet, IsStep, LeadsTo}
use Rattle.lore_base.specs.PathOrder.{ComesBefore}
use Rattle.set_steps.specs.SetSteps.{AreSteps}
use Rattle.set_explorer.specs.inside.Trails.{TrailStop, start_path, longer}
use Rattle.set_explorer.proofs.PathOrder.{before-label}
use Rattle.set_steps.proofs.PlaceLaws.{zip-right}
use Rattle.set_steps.proofs.PairLaws.{AllPairs-map}
use Rattle.set_explorer.proofs.TargetSteps.{step-target}

-- the stop that a step leads to, and the one of a name
abbrev pub stop_of : LabelPath → Label × List Oid → TrailStop
stop_of path step = record { path = longer path step.0; set = step.1 }

abbrev pub named_stop : List ℕ × Oid → TrailStop
named_stop named = record { path = start_path named.0; set = named.1 ∷ [] }

-- an object alone is the target set of the empty word
pub target-none : (edges : List Edge) (start : Oid) → IsTargetSet edges start [] (start ∷ [])
target-none edges start = record {
  ascending = λ i j d less within. absurd (omega (arith, less, within));
  exact = λ oid. (
    λ there. elim (Contains-cases start [] oid there) [ inl same ↦ same | inr none ↦ absurd (Contains-none oid none) ],
    λ same. Contains-same (start ∷ []) start oid same (Contains-head start []),
  );
}

pub leads-start : (names : List (List ℕ × Oid)) (edges : List Edge) (named : List ℕ × Oid) → Contains names named
    → LeadsTo names edges (start_path named.0) (named.1 ∷ [])
leads-start names edges named there = record {
  start = named.1;
  named = there;
  target = target-none edges named.1;
  some = λ none. cc;
}

pub leads-step : (names : List (List ℕ × Oid)) (edges : List Edge) (path : LabelPath) (set : List Oid) (label : Label)
    (next : List Oid)
    → LeadsTo names edges path set → IsStep edges set label next → next ≢ []
    → LeadsTo names edges (longer path label) next
leads-step names edges path set label next leads step some = record {
  start = leads.start;
  named = leads.named;
  target = step-target edges leads.start path.word label set next leads.target step;
  some = some;
}

pub stops-lead : (names : List (List ℕ × Oid)) (edges : List Edge) (path : LabelPath) (set : List Oid)
    (steps : List (Label × List Oid))
    → LeadsTo names edges path set → AreSteps edges set steps
    → All (λ stop. LeadsTo names edges stop.path stop.set) (map (stop_of path) steps)
stops-lead names edges path set steps leads are =
    All-map (λ (stop : TrailStop). LeadsTo names edges stop.path stop.set) (stop_of path) steps
    (All-from_members (λ (step : Label × List Oid). LeadsTo names edges (longer path step.0) step.1) steps
    (λ step there. leads-step names edges path set step.0 step.1 leads
    (All-contains (λ (s : Label × List Oid). IsStep edges set s.0 s.1) steps step are.sets there)
    (All-contains (λ (s : Label × List Oid). (s.1 ≡ []) → ⊥) steps step are.some there)))

pub stops-ascend : (edges : List Edge) (path : LabelPath) (set : List Oid) (steps : List (Label × List Oid))
    → AreSteps edges set steps
    → AllPairs (λ a b. ComesBefore a.path b.path) (map (stop_of path) steps)
stops-ascend edges path set steps are =
    AllPairs-map (stop_of path) (λ (a b : Label × List Oid). a.0.0 < b.0.0) (λ (a b : TrailStop). ComesBefore a.path b.path)
    (λ a b less. before-label path a.0 b.0 less) steps are.ascend

pub names-lead : (names : List (List ℕ × Oid)) (edges : List Edge)
    → All (λ stop. LeadsTo names edges stop.path stop.set) (map named_stop names)
names-lead names edges =
    All-map (λ (stop : TrailStop). LeadsTo names edges stop.path stop.set) named_stop names
    (All-from_members (λ (named : List ℕ × Oid). LeadsTo names edges (start_path named.0) (named.1 ∷ [])) names
    (λ named there. leads-start names edges named there))

pub keys-ascend : {X : Type 0} (names : List (List ℕ × X)) → IsStrictlySortedBy bytes_cmp (keys_of names)
    → AllPairs (λ a b. bytes_cmp a.0 b.0 ≡ Less) names
unfolding IsStrictlySortedBy
keys-ascend {X} [] table = λ i j d less within. absurd (omega (arith, within))
keys-ascend {X} (first ∷ names) table =
    AllPairs-cons (λ (a b : List ℕ × X). bytes_cmp a.0 b.0 ≡ Less) first names
    (below first names table.0) (keys-ascend names table.1)
  where
    below : (first : List ℕ × X) (names : List (List ℕ × X))
        → AllByRecursion (λ name. bytes_cmp first.0 name ≡ Less) (keys_of names)
        → All (λ named. bytes_cmp first.0 named.0 ≡ Less) names
    below first [] all = λ k d within. absurd (omega (arith, within))
    below first (named ∷ names) all =
        All-cons (λ (n : List ℕ × X). bytes_cmp first.0 n.0 ≡ Less) named names all.0 (below first names all.1)

pub names-ascend : (names : List (List ℕ × Oid)) → IsNameTable names
    → AllPairs (λ a b. ComesBefore a.path b.path) (map named_stop names)
names-ascend names table =
    AllPairs-map named_stop (λ (a b : List ℕ × Oid). bytes_cmp a.0 b.0 ≡ Less)
    (λ (a b : TrailStop). ComesBefore a.path b.path)
    (λ a b less. inr (refl, inl less)) names (keys-ascend names table)

-- edges that have the labels of steps ascend as these do
pub row-ascends : (R : Label × List Oid → Label × Node → Type 0)
    → ((step : Label × List Oid) (edge : Label × Node) → R step edge → edge.0 ≡ step.0)
    → (steps : List (Label × List Oid)) (row : List (Label × Node)) → AllZip R steps row
    → AllPairs (λ a b. a.0.0 < b.0.0) steps → AscendByLabel row
row-ascends R labelled [] [] zip ascend = λ i j d less within. absurd (omega (arith, within))
row-ascends R labelled [] (edge ∷ row) zip ascend = absurd zip
row-ascends R labelled (step ∷ steps) [] zip ascend = absurd zip
row-ascends R labelled (step ∷ steps) (edge ∷ row) zip ascend =
    AllPairs-cons (λ (a b : Label × Node). a.0.0 < b.0.0) edge row
    (All-from_members (λ (b : Label × Node). edge.0.0 < b.0.0) row (λ b there.
    let from = zip-right R steps row b zip.1 there in
    let rises : step.0.0 < from.0.0.0 =
    AllPairs-head (λ (a b : Label × List Oid). a.0.0 < b.0.0) step steps ascend from.0 from.1 in
    subst (λ (l : Label). l.0 < b.0.0) (sym (labelled step edge zip.0))
    (subst (λ (l : Label). step.0.0 < l.0) (sym (labelled from.0 b from.2)) rises)))
    (row-ascends R labelled steps row zip.1 (AllPairs-tail (λ (a b : Label × List Oid). a.0.0 < b.0.0) step steps
    ascend))
