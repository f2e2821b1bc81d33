-- The newest run of each edge: how it is noted, and that the run of an edge that goes on is its newest.
use Rattle.std.proofs.Common.{◌≡◌, ◌≢◌, ℕ, ◌+◌, ◌-◌, ◌<◌, inl, inr, List, [], ◌∷◌, ◌++◌, length, zero, suc}
use Rattle.std.proofs.Common.{true, false, true≢false, ◌&&◌, nat_eq, cond, Option, Some, None, refl, sym, ap, ◌∙◌, subst, append_assoc, arith}
use Rattle.std.specs.List.{slice_get}
use Rattle.std.proofs.lemmas.Bool.{cases_lt}
use Rattle.std.proofs.lemmas.Bool.Decides.{nat_tests}
use Rattle.std.proofs.lemmas.List.{map-append, length-append}
use Rattle.std.proofs.lemmas.Option.{slice_get_within}
use Rattle.list_laws.proofs.PlaceLaws.{Contains-from_place, pair_at}
use Rattle.doem_history.specs.Types.{Edge, Run}
use Rattle.doem_history.specs.Plans.{IsOpen}
use Rattle.doem_history.specs.inside.Kept.{Apart, AreKept, end_at, ended, begun, moved_on}
use Rattle.doem_history.specs.inside.Chains.{edge_eq, IsLink, link_told, AreNewest, all_facts}
use Rattle.doem_history.proofs.ChainLaws.{newest-push}
use Rattle.doem_history.proofs.StepLaws.{mapped_place}

-- Edges by their numbers.

pub same_edge : (a b : Edge) → edge_eq a b ≡ true → a ≡ b
same_edge a b same =
    let parent : a.parent.0 ≡ b.parent.0 = grind (arith, nat_tests) in
    let label : a.label.0 ≡ b.label.0 = grind (arith, nat_tests) in
    let child : a.child.0 ≡ b.child.0 = grind (arith, nat_tests) in
    λ i. record { parent = record { 0 = parent i }; label = record { 0 = label i }; child = record { 0 = child i } }

edge_itself : (p l c : ℕ) → (nat_eq p p && (nat_eq l l && nat_eq c c)) ≡ true
edge_itself p l c = grind (arith, nat_tests)

edge_differs : (a b : Edge) → edge_eq a b ≡ false → a ≢ b
edge_differs a b differs same =
    let passes : edge_eq a b ≡ true = subst (λ (e : Edge). edge_eq a e ≡ true) same (edge_itself a.parent.0 a.label.0 a.child.0) in
    true≢false (sym passes ∙ differs)

-- How the newest places of edges are noted.

pub newest_none : {K : Type 0} (newest : K → Option ℕ) → ((key : K) → newest key ≡ None) → AreNewest [] newest
newest_none {K} newest no_key key =
    let empty : List K = [] in
    subst (λ (e : Option ℕ). IsLink empty key 0 (link_told e)) (sym (no_key key)) (record {
      within = omega arith;
      here = λ some. absurd (omega arith);
      none = λ place from below. absurd (omega arith);
    })

pub newest_as : {K : Type 0} (keys others : List K) (newest later : K → Option ℕ) → AreNewest keys newest → others ≡ keys → ((key : K) → later key ≡ newest key) → AreNewest others later
newest_as {K} keys others newest later are same told =
    subst (λ (l : List K). AreNewest l later) (sym same) (λ key. subst (λ (e : Option ℕ). IsLink keys key (length keys) (link_told e)) (sym (told key)) (are key))

-- an edge more, behind those that were noted
pub newest_on : (before seen : List Edge) (edge : Edge) (count link : ℕ) (newest later : Edge → Option ℕ) → length before ≡ count → link ≡ count + length seen + 1 → AreNewest (before ++ seen) newest
    → ((other : Edge) → later other ≡ cond (edge_eq edge other) (Some link) (newest other)) → AreNewest (before ++ (seen ++ edge ∷ [])) later
newest_on before seen edge count link newest later long is are told =
    let here : link ≡ length (before ++ seen) + 1 = omega (arith, long, is, length-append before seen) in
    subst (λ (l : List Edge). AreNewest l later) (append_assoc before seen (edge ∷ []))
    (newest-push edge_eq (before ++ seen) newest later edge same_edge edge_differs are (λ other. told other ∙ ap (λ n. cond (edge_eq edge other) (Some n) (newest other)) here))

-- The facts of runs, of which some end and others begin.

facts-end_at : {F : Type 0} (moment place : ℕ) (runs : List (Run F)) → all_facts (end_at moment place runs) ≡ all_facts runs
facts-end_at moment place [] = refl
facts-end_at moment zero (run ∷ runs) = refl
facts-end_at moment (suc place) (run ∷ runs) = ap (λ l. run.fact ∷ l) (facts-end_at moment place runs)

facts-ended : {F : Type 0} (moment : ℕ) (places : List ℕ) (runs : List (Run F)) → all_facts (ended moment places runs) ≡ all_facts runs
facts-ended moment [] runs = refl
facts-ended moment (place ∷ places) runs = facts-ended moment places (end_at moment place runs) ∙ facts-end_at moment place runs

pub facts-begun : {F : Type 0} (moment : ℕ) (come : List F) → all_facts (begun moment come) ≡ come
facts-begun moment [] = refl
facts-begun moment (fact ∷ come) = ap (λ l. fact ∷ l) (facts-begun moment come)

pub facts-moved_on : {F : Type 0} (moment : ℕ) (places : List ℕ) (come : List F) (runs : List (Run F)) → all_facts (moved_on moment places come runs) ≡ all_facts runs ++ come
facts-moved_on {F} moment places come runs =
    map-append (λ (run : Run F). run.fact) (ended moment places runs) (begun moment come)
    ∙ ap (λ l. l ++ all_facts (begun moment come)) (facts-ended moment places runs)
    ∙ ap (λ l. all_facts runs ++ l) (facts-begun moment come)

-- The run of a fact that goes on.

fact_at : {F : Type 0} (runs : List (Run F)) (place : ℕ) (run : Run F) → slice_get runs place ≡ Some run → slice_get (all_facts runs) place ≡ Some run.fact
fact_at [] place run is = cc
fact_at (first ∷ runs) zero run is = let same : first ≡ run = cc in ap (λ (r : Run _). Some r.fact) same
fact_at (first ∷ runs) (suc place) run is = fact_at runs place run is

-- it is the newest of the fact
pub newest_open : {F : Type 0} (runs : List (Run F)) (moments : ℕ) (newest : F → Option ℕ) (fact : F) → AreKept moments runs → AreNewest (all_facts runs) newest
    → (place : ℕ) × IsOpen runs place fact → (0 < link_told (newest fact)) × IsOpen runs (link_told (newest fact) - 1) fact
newest_open {F} runs moments newest fact kept are going =
    let place = going.0 in
    let open_run = going.1 in
    let link = link_told (newest fact) in
    let is = are fact in
    let at_fact : slice_get (all_facts runs) place ≡ Some fact = fact_at runs place open_run.run open_run.at ∙ ap Some open_run.of in
    let below : place < link = elim (cases_lt place link) [
      | inl early ↦ early
      | inr late ↦ absurd (is.none place late (slice_get_within (all_facts runs) place fact at_fact) at_fact)
    ] in
    let some : 0 < link = omega (arith, below) in
    let last = mapped_place (λ (run : Run F). run.fact) runs (link - 1) fact (is.here some) in
    let begun_before = (kept.each last.0 (Contains-from_place runs (link - 1) last.0 last.1)).begun in
    let here : place ≡ link - 1 = elim (cases_lt place (link - 1)) [
      | inl earlier ↦
          let over = pair_at Apart runs place (link - 1) open_run.run last.0 kept.apart earlier open_run.at last.1 (open_run.of ∙ sym last.2) in
          absurd (omega (arith, over, begun_before, kept.few, open_run.goes_on))
      | inr same ↦ omega (arith, same, below)
    ] in
    (some, subst (λ k. IsOpen runs k fact) here open_run)
