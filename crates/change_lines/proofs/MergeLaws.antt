-- Facts that go and facts that come, merged in their order: how far the merging has come.
use Rattle.std.proofs.Common.{◌≡◌, ◌≢◌, ◌⊎◌, ℕ, zero, suc, ◌+◌, ◌<◌, ◌≤◌, inl, inr, List, [], ◌∷◌, ◌++◌, length, Some, Less, Equal, Greater, refl, sym, ap, ◌∙◌, subst, arith}
use Rattle.std.specs.Prelude.{AllPairs, Contains, get_or}
use Rattle.std.specs.List.{slice_get}
use Rattle.std.specs.Cmp.{IsTotalOrder}
use Rattle.std.specs.declared.cmp.Ordering.{Ordering}
use Rattle.std.proofs.lemmas.List.Elements.{Contains-push, Contains-push_cases}
use Rattle.std.proofs.lemmas.List.Quantifiers.{all_pairs_push}
use Rattle.std.proofs.lemmas.Bool.{cases_lt}
use Rattle.std.specs.Ordering.{ordering_reverse}
use Rattle.std.proofs.lemmas.Option.{same_Some, slice_get_within, slice_get-get_or}
use Rattle.list_laws.proofs.PlaceLaws.{Contains-from_place, place_of_member, slice_get-append_left, pair_at}
use Rattle.change_lines.specs.Changes.{Change, gone, come, fact_of, Precedes}
use Rattle.change_lines.specs.inside.Merged.{AreMerged}

-- so many of the facts that go and of those that come have their changes, and each of these stands before what is left
pub record HasMerged {F : Type 0} (order : F → F → Ordering) (going coming : List F) (i j : ℕ) (changes : List (Change F)) : Type 0 where
  pub goes : (fact : F) → Contains changes (gone fact) → (k : ℕ) × (k < i) × (slice_get going k ≡ Some fact)
  pub all_go : (k : ℕ) (fact : F) → k < i → slice_get going k ≡ Some fact → Contains changes (gone fact)
  pub comes : (fact : F) → Contains changes (come fact) → (k : ℕ) × (k < j) × (slice_get coming k ≡ Some fact)
  pub all_come : (k : ℕ) (fact : F) → k < j → slice_get coming k ≡ Some fact → Contains changes (come fact)
  pub ascend : AllPairs (Precedes order) changes
  pub behind_gone : (change : Change F) → Contains changes change → (k : ℕ) (fact : F) → i ≤ k → slice_get going k ≡ Some fact
      → Precedes order change (gone fact)
  pub behind_come : (change : Change F) → Contains changes change → (k : ℕ) (fact : F) → j ≤ k → slice_get coming k ≡ Some fact
      → Precedes order change (come fact)

-- a number below the next one is below this one or is it, and one from this one on is it or above
nat_cases : (k i : ℕ) → k < i + 1 → (k < i) ⊎ (k ≡ i)
nat_cases k i below = elim (cases_lt k i) [ inl less ↦ inl less | inr more ↦ inr (omega (arith, more, below)) ]

nat_from : (j k : ℕ) → j ≤ k → (j ≡ k) ⊎ (j < k)
nat_from j k far = elim (cases_lt j k) [ inl less ↦ inr less | inr more ↦ inl (omega (arith, more, far)) ]

-- the item at a place within a list
item_at : {X : Type 0} (items : List X) (k : ℕ) → k < length items → (item : X) × (slice_get items k ≡ Some item)
item_at [] k within = absurd (omega (arith, within))
item_at (first ∷ others) k within = (get_or (first ∷ others) k first, slice_get-get_or (first ∷ others) k first within)

-- what goes doesn't come
apart : {F : Type 0} (fact other : F) → gone fact ≡ come other → ⊥
apart fact other same = subst goes same tt
  where
    goes : {F : Type 0} → Change F → Type 0
    goes (gone fact) = Unit {0}
    goes (come fact) = ⊥

module _ {F : Type 0} (order : F → F → Ordering) (total : IsTotalOrder order) (going coming : List F)
    (going_rise : AllPairs (λ a b. order a b ≡ Less) going) (coming_rise : AllPairs (λ a b. order a b ≡ Less) coming) where
  not_in_none : (change : Change F) → Contains {X = Change F} [] change → ⊥
  not_in_none change at =
      let found = place_of_member [] change at in
      let within = slice_get_within [] found.0 change found.1 in
      absurd (omega (arith, within))

  pub merged-start : HasMerged order going coming 0 0 []
  merged-start = record {
    goes = λ fact at. absurd (not_in_none (gone fact) at);
    all_go = λ k fact below at. absurd (omega (arith, below));
    comes = λ fact at. absurd (not_in_none (come fact) at);
    all_come = λ k fact below at. absurd (omega (arith, below));
    ascend = λ i j d lt len. absurd (omega (arith, lt, len));
    behind_gone = λ change at. absurd (not_in_none change at);
    behind_come = λ change at. absurd (not_in_none change at);
  }

  -- what isn't above is below, or of the same place
  not_greater : (a b : F) → order a b ≢ Greater → (order a b ≡ Less) ⊎ (order a b ≡ Equal)
  not_greater a b not = decide (order a b) refl
    where
      decide : (o : Ordering) → order a b ≡ o → (order a b ≡ Less) ⊎ (order a b ≡ Equal)
      decide Less is = inl is
      decide Equal is = inr is
      decide Greater is = absurd (not is)

  -- of facts not above, the further ones are above
  below_further : (a b c : F) → (order a b ≡ Less) ⊎ (order a b ≡ Equal) → order b c ≡ Less → order a c ≡ Less
  below_further a b c (inl less) more = total.trans a b c less more
  below_further a b c (inr same) more = total.congr a b c same ∙ more

  from_greater : (a b : F) → order a b ≡ Greater → order b a ≡ Less
  from_greater a b is = total.antisymm b a ∙ ap ordering_reverse is

  module _ (i j : ℕ) (changes : List (Change F)) (merged : HasMerged order going coming i j changes) where
    -- a fact that goes, where the next that comes isn't below it
    pub merged-gone : (fact : F) → slice_get going i ≡ Some fact → ((other : F) → slice_get coming j ≡ Some other → order fact other ≢ Greater)
        → HasMerged order going coming (i + 1) j (changes ++ gone fact ∷ [])
    merged-gone fact there first = record {
      goes = λ other at. elim (Contains-push_cases changes (gone fact) (gone other) at) [
        | inl old ↦ (let found = merged.goes other old in (found.0, omega (arith, found.1), found.2))
        | inr new ↦ (i, omega arith, there ∙ ap Some (ap fact_of new))
      ];
      all_go = λ k other below at. elim (nat_cases k i below) [
        | inl earlier ↦ contains_left (gone other) (merged.all_go k other earlier at)
        | inr here ↦ subst (λ (f : F). Contains (changes ++ gone fact ∷ []) (gone f))
            (same_Some fact other (sym there ∙ ap (λ (n : ℕ). slice_get going n) (sym here) ∙ at)) (Contains-push changes (gone fact))
      ];
      comes = λ other at. elim (Contains-push_cases changes (gone fact) (come other) at) [
        | inl old ↦ merged.comes other old
        | inr new ↦ absurd (apart fact other new)
      ];
      all_come = λ k other below at. contains_left (come other) (merged.all_come k other below at);
      ascend = all_pairs_push (Precedes order) changes (gone fact) merged.ascend (λ k d within.
          merged.behind_gone (get_or changes k d) (Contains-from_place changes k (get_or changes k d) (slice_get-get_or changes k d within)) i fact (omega arith) there);
      behind_gone = λ change at k other far is. elim (Contains-push_cases changes (gone fact) change at) [
        | inl old ↦ merged.behind_gone change old k other (omega (arith, far)) is
        | inr new ↦ subst (λ (c : Change F). Precedes order c (gone other)) new
            (pair_at (λ a b. order a b ≡ Less) going i k fact other going_rise (omega (arith, far)) there is)
      ];
      behind_come = λ change at k other far is. elim (Contains-push_cases changes (gone fact) change at) [
        | inl old ↦ merged.behind_come change old k other far is
        | inr new ↦ subst (λ (c : Change F). Precedes order c (come other)) new (comes_behind k other far is)
      ];
    }
      where
        contains_left : (change : Change F) → Contains changes change → Contains (changes ++ gone fact ∷ []) change
        contains_left change at =
            let found = place_of_member changes change at in
            Contains-from_place (changes ++ gone fact ∷ []) found.0 change (slice_get-append_left changes (gone fact ∷ []) found.0 change found.1)

        comes_behind : (k : ℕ) (other : F) → j ≤ k → slice_get coming k ≡ Some other → (order fact other ≡ Less) ⊎ (order fact other ≡ Equal)
        comes_behind k other far is = elim (nat_from j k far) [
          | inl here ↦ not_greater fact other (first other (ap (λ (n : ℕ). slice_get coming n) here ∙ is))
          | inr later ↦
              (let next = slice_get-get_or coming j other (let within = slice_get_within coming k other is in omega (arith, within, later)) in
              inl (below_further fact (get_or coming j other) other (not_greater fact (get_or coming j other) (first (get_or coming j other) next))
              (pair_at (λ a b. order a b ≡ Less) coming j k (get_or coming j other) other coming_rise later next is)))
        ]

    -- a fact that comes, where the next that goes is above it
    pub merged-come : (fact : F) → slice_get coming j ≡ Some fact → ((other : F) → slice_get going i ≡ Some other → order other fact ≡ Greater)
        → HasMerged order going coming i (j + 1) (changes ++ come fact ∷ [])
    merged-come fact there first = record {
      goes = λ other at. elim (Contains-push_cases changes (come fact) (gone other) at) [
        | inl old ↦ merged.goes other old
        | inr new ↦ absurd (apart other fact (sym new))
      ];
      all_go = λ k other below at. contains_left (gone other) (merged.all_go k other below at);
      comes = λ other at. elim (Contains-push_cases changes (come fact) (come other) at) [
        | inl old ↦ (let found = merged.comes other old in (found.0, omega (arith, found.1), found.2))
        | inr new ↦ (j, omega arith, there ∙ ap Some (ap fact_of new))
      ];
      all_come = λ k other below at. elim (nat_cases k j below) [
        | inl earlier ↦ contains_left (come other) (merged.all_come k other earlier at)
        | inr here ↦ subst (λ (f : F). Contains (changes ++ come fact ∷ []) (come f))
            (same_Some fact other (sym there ∙ ap (λ (n : ℕ). slice_get coming n) (sym here) ∙ at)) (Contains-push changes (come fact))
      ];
      ascend = all_pairs_push (Precedes order) changes (come fact) merged.ascend (λ k d within.
          merged.behind_come (get_or changes k d) (Contains-from_place changes k (get_or changes k d) (slice_get-get_or changes k d within)) j fact (omega arith) there);
      behind_gone = λ change at k other far is. elim (Contains-push_cases changes (come fact) change at) [
        | inl old ↦ merged.behind_gone change old k other far is
        | inr new ↦ subst (λ (c : Change F). Precedes order c (gone other)) new (goes_behind k other far is)
      ];
      behind_come = λ change at k other far is. elim (Contains-push_cases changes (come fact) change at) [
        | inl old ↦ merged.behind_come change old k other (omega (arith, far)) is
        | inr new ↦ subst (λ (c : Change F). Precedes order c (come other)) new
            (pair_at (λ a b. order a b ≡ Less) coming j k fact other coming_rise (omega (arith, far)) there is)
      ];
    }
      where
        contains_left : (change : Change F) → Contains changes change → Contains (changes ++ come fact ∷ []) change
        contains_left change at =
            let found = place_of_member changes change at in
            Contains-from_place (changes ++ come fact ∷ []) found.0 change (slice_get-append_left changes (come fact ∷ []) found.0 change found.1)

        goes_behind : (k : ℕ) (other : F) → i ≤ k → slice_get going k ≡ Some other → order fact other ≡ Less
        goes_behind k other far is = elim (nat_from i k far) [
          | inl here ↦ from_greater other fact (first other (ap (λ (n : ℕ). slice_get going n) here ∙ is))
          | inr later ↦
              (let next = slice_get-get_or going i other (let within = slice_get_within going k other is in omega (arith, within, later)) in
              total.trans fact (get_or going i other) other (from_greater (get_or going i other) fact (first (get_or going i other) next))
              (pair_at (λ a b. order a b ≡ Less) going i k (get_or going i other) other going_rise later next is))
        ]

  -- where none is left, all have their changes
  pub merged-whole : (i j : ℕ) (changes : List (Change F)) → HasMerged order going coming i j changes → length going ≤ i → length coming ≤ j
      → AreMerged order going coming changes
  merged-whole i j changes merged no_more none_left = record {
    goes = λ fact. (
      λ at. (let found = merged.goes fact at in Contains-from_place going found.0 fact found.2),
      λ at. (
          let found = place_of_member going fact at in
          let within = slice_get_within going found.0 fact found.1 in
          merged.all_go found.0 fact (omega (arith, within, no_more)) found.1),
    );
    comes = λ fact. (
      λ at. (let found = merged.comes fact at in Contains-from_place coming found.0 fact found.2),
      λ at. (
          let found = place_of_member coming fact at in
          let within = slice_get_within coming found.0 fact found.1 in
          merged.all_come found.0 fact (omega (arith, within, none_left)) found.1),
    );
    ascend = merged.ascend;
  }

  -- where some is left, one more has its change
  record IsStep (i j : ℕ) : Type 0 where
    pub next_i : ℕ
    pub next_j : ℕ
    pub changes : List (Change F)
    pub merged : HasMerged order going coming next_i next_j changes
    pub more : next_i + next_j ≡ i + j + 1
    pub i_within : next_i ≤ length going
    pub j_within : next_j ≤ length coming

  module _ (i j : ℕ) (changes : List (Change F)) (merged : HasMerged order going coming i j changes) (i_within : i ≤ length going) (j_within : j ≤ length coming) where
    gone_next : (fact : F) → slice_get going i ≡ Some fact → ((other : F) → slice_get coming j ≡ Some other → order fact other ≢ Greater) → IsStep i j
    gone_next fact there first = let within = slice_get_within going i fact there in record {
      next_i = i + 1;
      next_j = j;
      changes = changes ++ gone fact ∷ [];
      merged = merged-gone i j changes merged fact there first;
      more = omega arith;
      i_within = omega (arith, within);
      j_within = j_within;
    }

    come_next : (fact : F) → slice_get coming j ≡ Some fact → ((other : F) → slice_get going i ≡ Some other → order other fact ≡ Greater) → IsStep i j
    come_next fact there first = let within = slice_get_within coming j fact there in record {
      next_i = i;
      next_j = j + 1;
      changes = changes ++ come fact ∷ [];
      merged = merged-come i j changes merged fact there first;
      more = omega arith;
      i_within = i_within;
      j_within = omega (arith, within);
    }

    by_order : (goes comes : F) → slice_get going i ≡ Some goes → slice_get coming j ≡ Some comes → (o : Ordering) → order goes comes ≡ o → IsStep i j
    by_order goes comes there here Greater is =
        come_next comes here (λ other at. ap (λ (f : F). order f comes) (same_Some other goes (sym at ∙ there)) ∙ is)
    by_order goes comes there here Less is =
        gone_next goes there (λ other at greater. let fits : Less ≡ Greater = sym is ∙ ap (order goes) (same_Some comes other (sym here ∙ at)) ∙ greater in cc)
    by_order goes comes there here Equal is =
        gone_next goes there (λ other at greater. let fits : Equal ≡ Greater = sym is ∙ ap (order goes) (same_Some comes other (sym here ∙ at)) ∙ greater in cc)

    one_more : ((length going ≤ i) × (length coming ≤ j)) ⊎ IsStep i j
    one_more = elim (cases_lt i (length going)) [
      | inr no_more ↦ elim (cases_lt j (length coming)) [
        | inr none_left ↦ inl (omega (arith, no_more), omega (arith, none_left))
        | inl comes ↦
            (let fact = item_at coming j comes in
            inr (come_next fact.0 fact.1 (λ other at. let within = slice_get_within going i other at in absurd (omega (arith, within, no_more)))))
      ]
      | inl goes ↦
          (let fact = item_at going i goes in
          elim (cases_lt j (length coming)) [
            | inr none_left ↦
                inr (gone_next fact.0 fact.1 (λ other at greater. let within = slice_get_within coming j other at in absurd (omega (arith, within, none_left))))
            | inl comes ↦ (let other = item_at coming j comes in inr (by_order fact.0 other.0 fact.1 other.1 (order fact.0 other.0) refl))
          ])
    ]

  -- and so all can be merged
  some_left : (left i j : ℕ) (changes : List (Change F)) → HasMerged order going coming i j changes → length going + length coming ≤ i + j + left
      → i ≤ length going → j ≤ length coming → (all : List (Change F)) × AreMerged order going coming all
  some_left zero i j changes merged few i_within j_within =
      (changes, merged-whole i j changes merged (omega (arith, few, i_within, j_within)) (omega (arith, few, i_within, j_within)))
  some_left (suc left) i j changes merged few i_within j_within = elim (one_more i j changes merged i_within j_within) [
    | inl none ↦ (changes, merged-whole i j changes merged none.0 none.1)
    | inr next ↦
        (let more = next.more in
        some_left left next.next_i next.next_j next.changes next.merged (omega (arith, more, few)) next.i_within next.j_within)
  ]

  pub some_merged : (all : List (Change F)) × AreMerged order going coming all
  some_merged = some_left (length going + length coming) 0 0 [] merged-start (omega arith) (omega arith) (omega arith)
