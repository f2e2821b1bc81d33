-- Chains of runs back from the newest one of each object: how they grow, and what a walk along one has seen.
use Rattle.std.proofs.Common.{◌≡◌, ◌≢◌, ℕ, ◌+◌, ◌-◌, ◌^◌, ◌<◌, ◌≤◌, inl, inr, List, [], ◌∷◌, ◌++◌, length, get_or, set, zero, suc}
use Rattle.std.proofs.Common.{Bool, true, false, cond, Option, Some, refl, sym, ap, ◌∙◌, subst, arith}
use Rattle.std.specs.List.{slice_get, slice_index}
use Rattle.std.proofs.lemmas.Bool.{cases_lt}
use Rattle.std.proofs.lemmas.Bool.Decides.{nat_tests}
use Rattle.std.proofs.lemmas.List.{length_push, length-map, map-append, get_or_append_left, get_or_push}
use Rattle.std.proofs.lemmas.Option.{slice_get_within}
use Rattle.list_laws.proofs.PlaceLaws.{slice_get-push}
use Rattle.doem_history.specs.Types.{Oid, Run}
use Rattle.doem_history.specs.inside.Kept.{end_at}
use Rattle.doem_history.specs.inside.Chains.{same_oid, IsLink, link_told, AreNewest, AreChains, owners_of, AreLinked}

slice_get_left : {X : Type 0} (xs ys : List X) (i : ℕ) → i < length xs → slice_get (xs ++ ys) i ≡ slice_get xs i
slice_get_left [] ys i lt = absurd (omega arith)
slice_get_left (x ∷ xs) ys zero lt = refl
slice_get_left (x ∷ xs) ys (suc i) lt = slice_get_left xs ys i (omega arith)

oid_is : (a b : Oid) → same_oid a b ≡ true → a ≡ b
oid_is a b same = let number : a.0 ≡ b.0 = grind (arith, nat_tests) in λ i. record { 0 = number i }

oid_differs : (a b : Oid) → same_oid a b ≡ false → a ≢ b
oid_differs a b differs same = let number : a.0 ≡ b.0 = ap (λ (o : Oid). o.0) same in grind (arith, nat_tests)

-- more items behind change nothing below the bound
link-more : {K : Type 0} (keys more : List K) (key : K) (bound link : ℕ) → bound ≤ length keys → IsLink keys key bound link → IsLink (keys ++ more) key bound link
link-more keys more key bound link few is = let within = is.within in record {
  within = within;
  here = λ some. slice_get_left keys more (link - 1) (omega arith) ∙ is.here some;
  none = λ place from below at. is.none place from below (sym (slice_get_left keys more place (omega arith)) ∙ at);
}

-- one key more, which is newest at its place
pub newest-push : {K : Type 0} (same : K → K → Bool) (keys : List K) (newest later : K → Option ℕ) (key : K) → ((a b : K) → same a b ≡ true → a ≡ b) → ((a b : K) → same a b ≡ false → a ≢ b)
    → AreNewest keys newest → ((other : K) → later other ≡ cond (same key other) (Some (length keys + 1)) (newest other)) → AreNewest (keys ++ key ∷ []) later
newest-push {K} same keys newest later key is_one is_other are told other =
    let long = length_push keys key in
    elim (same key other) as (λ b. same key other ≡ b → IsLink (keys ++ key ∷ []) other (length (keys ++ key ∷ [])) (link_told (later other))) [
      | true ↦ λ equal.
          let is : later other ≡ Some (length keys + 1) = told other ∙ ap (λ b. cond b (Some (length keys + 1)) (newest other)) equal in
          subst (λ (e : Option ℕ). IsLink (keys ++ key ∷ []) other (length (keys ++ key ∷ [])) (link_told e)) (sym is) (record {
            within = omega arith;
            here = λ some. ap (slice_get (keys ++ key ∷ [])) (omega arith) ∙ slice_get-push keys key ∙ ap Some (is_one key other equal);
            none = λ place from below. absurd (omega arith);
          })
      | false ↦ λ differs.
          let is : later other ≡ newest other = told other ∙ ap (λ b. cond b (Some (length keys + 1)) (newest other)) differs in
          let old = are other in
          let within = old.within in
          subst (λ (e : Option ℕ). IsLink (keys ++ key ∷ []) other (length (keys ++ key ∷ [])) (link_told e)) (sym is) (record {
            within = omega arith;
            here = λ some. slice_get_left keys (key ∷ []) (link_told (newest other) - 1) (omega arith) ∙ old.here some;
            none = λ place from below at. elim (cases_lt place (length keys)) [
              | inl early ↦ old.none place from early (sym (slice_get_left keys (key ∷ []) place early) ∙ at)
              | inr late ↦
                  let here : place ≡ length keys = omega arith in
                  let found : Some key ≡ Some other = sym (slice_get-push keys key) ∙ ap (slice_get (keys ++ key ∷ [])) (sym here) ∙ at in
                  is_other key other differs (cc)
            ];
          })
    ] refl

-- one item more
pub chain-push : (owners : List Oid) (newest later : Oid → Option ℕ) (older : List ℕ) (oid : Oid) → AreChains owners newest older
    → ((other : Oid) → later other ≡ cond (same_oid oid other) (Some (length owners + 1)) (newest other))
    → AreChains (owners ++ oid ∷ []) later (older ++ link_told (newest oid) ∷ [])
chain-push owners newest later older oid chains told = record {
  long = (let long = chains.long in omega (arith, length_push owners oid, length_push older (link_told (newest oid))));
  last = newest-push same_oid owners newest later oid oid_is oid_differs chains.last told;
  back = λ place other at. elim (cases_lt place (length owners)) [
    | inl early ↦
        let was = chains.back place other (sym (slice_get_left owners (oid ∷ []) place early) ∙ at) in
        let long = chains.long in
        let same : slice_index (older ++ link_told (newest oid) ∷ []) place ≡ slice_index older place = get_or_append_left older (link_told (newest oid) ∷ []) 0 place (omega arith) in
        subst (λ e. IsLink (owners ++ oid ∷ []) other place e) (sym same) (link-more owners (oid ∷ []) other place (slice_index older place) (omega arith) was)
    | inr late ↦
        let there = slice_get_within (owners ++ oid ∷ []) place other at in
        let here : place ≡ length owners = omega (arith, length_push owners oid) in
        let found : Some oid ≡ Some other = sym (slice_get-push owners oid) ∙ ap (slice_get (owners ++ oid ∷ [])) (sym here) ∙ at in
        let same : oid ≡ other = cc in
        let long = chains.long in
        let told_last : slice_index (older ++ link_told (newest oid) ∷ []) place ≡ link_told (newest oid) = get_or_push older (link_told (newest oid)) 0 place (omega arith) in
        subst (λ e. IsLink (owners ++ oid ∷ []) other place e) (sym told_last)
        (subst (λ k. IsLink (owners ++ oid ∷ []) other k (link_told (newest oid))) (sym here)
        (subst (λ (o : Oid). IsLink (owners ++ oid ∷ []) o (length owners) (link_told (newest oid))) same
        (link-more owners (oid ∷ []) oid (length owners) (link_told (newest oid)) (omega arith) (chains.last oid))))
  ];
}

-- A walk back along a chain.

-- each place from the link on that belongs to the object has been seen
pub record HasWalked (owners : List Oid) (oid : Oid) (link : ℕ) (Seen : ℕ → Type 0) : Type 0 where
  pub within : link ≤ length owners
  pub here : 0 < link → slice_get owners (link - 1) ≡ Some oid
  pub seen : (place : ℕ) → link ≤ place → slice_get owners place ≡ Some oid → Seen place

pub walk-start : (owners : List Oid) (newest : Oid → Option ℕ) (older : List ℕ) (oid : Oid) (link : ℕ) (Seen : ℕ → Type 0) → AreChains owners newest older
    → link ≡ link_told (newest oid) → HasWalked owners oid link Seen
walk-start owners newest older oid link Seen chains is =
    let last = chains.last oid in let within = last.within in
    subst (λ e. HasWalked owners oid e Seen) (sym is) (record {
      within = within;
      here = last.here;
      seen = λ place from at. absurd (last.none place from (slice_get_within owners place oid at) at);
    })

pub walk-on : (owners : List Oid) (newest : Oid → Option ℕ) (older : List ℕ) (oid : Oid) (link next : ℕ) (Seen : ℕ → Type 0) → AreChains owners newest older
    → 0 < link → HasWalked owners oid link Seen → next ≡ slice_index older (link - 1) → Seen (link - 1) → HasWalked owners oid next Seen
walk-on owners newest older oid link next Seen chains some walked is this =
    let back = chains.back (link - 1) oid (walked.here some) in
    let within = back.within in let long = walked.within in
    subst (λ e. HasWalked owners oid e Seen) (sym is) (record {
      within = omega arith;
      here = back.here;
      seen = λ place from at. elim (cases_lt place link) [
        | inr late ↦ walked.seen place late at
        | inl early ↦ elim (cases_lt place (link - 1)) [
          | inl earlier ↦ absurd (back.none place from earlier at)
          | inr same ↦ (let here : link - 1 ≡ place = omega arith in subst Seen here this)
        ]
      ];
    })

pub walk-weaker : (owners : List Oid) (oid : Oid) (link : ℕ) (Seen Met : ℕ → Type 0) → ((place : ℕ) → Seen place → Met place) → HasWalked owners oid link Seen → HasWalked owners oid link Met
walk-weaker owners oid link Seen Met weaker walked = record { within = walked.within; here = walked.here; seen = λ place from at. weaker place (walked.seen place from at) }

-- Runs in chains.

pub set-end_at : {F : Type 0} (moment place : ℕ) (runs : List (Run F)) (run : Run F) → run ≡ get_or runs place run → place < length runs
    → set runs place (record run { end = moment }) ≡ end_at moment place runs
set-end_at {F} moment place [] run is lt = absurd (omega arith)
set-end_at {F} moment zero (first ∷ runs) run is lt = ap (λ (r : Run F). record r { end = moment } ∷ runs) is
set-end_at {F} moment (suc place) (first ∷ runs) run is lt = ap (λ l. first ∷ l) (set-end_at moment place runs run is (omega arith))

module _ {F : Type 0} (owner : F → Oid) where
  pub linked_as : (runs : List (Run F)) (newest later : Oid → Option ℕ) (older : List ℕ) (others : List (Run F)) (backs : List ℕ) → AreLinked owner runs newest older
      → others ≡ runs → ((oid : Oid) → later oid ≡ newest oid) → backs ≡ older → AreLinked owner others later backs
  linked_as runs newest later older others backs linked same_runs same_ends same_back =
      subst (λ (l : List (Run F)). AreLinked owner l later backs) (sym same_runs) (subst (λ (l : List ℕ). AreLinked owner runs later l) (sym same_back) (record {
        chains = record {
          long = linked.chains.long;
          last = λ oid. subst (λ (e : Option ℕ). IsLink (owners_of owner runs) oid (length (owners_of owner runs)) (link_told e)) (sym (same_ends oid)) (linked.chains.last oid);
          back = linked.chains.back;
        };
        few = linked.few;
      }))

  owners-end_at : (moment place : ℕ) (runs : List (Run F)) → owners_of owner (end_at moment place runs) ≡ owners_of owner runs
  owners-end_at moment place [] = refl
  owners-end_at moment zero (run ∷ runs) = refl
  owners-end_at moment (suc place) (run ∷ runs) = ap (λ l. owner run.fact ∷ l) (owners-end_at moment place runs)

  count-end_at : (moment place : ℕ) (runs : List (Run F)) → length (end_at moment place runs) ≡ length runs
  count-end_at moment place [] = refl
  count-end_at moment zero (run ∷ runs) = refl
  count-end_at moment (suc place) (run ∷ runs) = ap suc (count-end_at moment place runs)

  pub linked-end : (moment place : ℕ) (runs others : List (Run F)) (newest : Oid → Option ℕ) (older : List ℕ) → AreLinked owner runs newest older
      → others ≡ end_at moment place runs → AreLinked owner others newest older
  linked-end moment place runs others newest older linked is = subst (λ (l : List (Run F)). AreLinked owner l newest older) (sym is) (record {
    chains = subst (λ (l : List Oid). AreChains l newest older) (sym (owners-end_at moment place runs)) linked.chains;
    few = (let few = linked.few in let same = count-end_at moment place runs in omega arith);
  })

  pub linked-push : (runs : List (Run F)) (newest later : Oid → Option ℕ) (older : List ℕ) (run : Run F) (oid : Oid) (others : List (Run F)) (backs : List ℕ)
      → AreLinked owner runs newest older → length runs + 1 < 2 ^ 31 → oid ≡ owner run.fact
      → ((other : Oid) → later other ≡ cond (same_oid oid other) (Some (length runs + 1)) (newest other))
      → others ≡ runs ++ run ∷ [] → backs ≡ older ++ link_told (newest oid) ∷ [] → AreLinked owner others later backs
  linked-push runs newest later older run oid others backs linked few of told is_runs is_backs =
      let count = length-map runs (λ (r : Run F). owner r.fact) in
      let told_so : (other : Oid) → later other ≡ cond (same_oid oid other) (Some (length (owners_of owner runs) + 1)) (newest other)
      = λ other. told other ∙ ap (λ n. cond (same_oid oid other) (Some (n + 1)) (newest other)) (sym count) in
      let pushed = chain-push (owners_of owner runs) newest later older oid linked.chains told_so in
      let mapped : owners_of owner (runs ++ run ∷ []) ≡ owners_of owner runs ++ oid ∷ [] = map-append (λ (r : Run F). owner r.fact) runs (run ∷ []) ∙ ap (λ o. owners_of owner runs ++ o ∷ []) (sym of) in
      subst (λ (l : List (Run F)). AreLinked owner l later backs) (sym is_runs) (subst (λ (l : List ℕ). AreLinked owner (runs ++ run ∷ []) later l) (sym is_backs) (record {
        chains = subst (λ (l : List Oid). AreChains l later (older ++ link_told (newest oid) ∷ [])) (sym mapped) pushed;
        few = (let long = length_push runs run in omega arith);
      }))

  -- the owner at a place is that of its run
  pub owner_at : (runs : List (Run F)) (place : ℕ) (run : Run F) → slice_get runs place ≡ Some run → slice_get (owners_of owner runs) place ≡ Some (owner run.fact)
  owner_at [] place run is = cc
  owner_at (first ∷ runs) zero run is = let same : first ≡ run = cc in ap (λ (r : Run F). Some (owner r.fact)) same
  owner_at (first ∷ runs) (suc place) run is = owner_at runs place run is
