-- Facts in ascending order: which they are, and that nothing else is in that order; and what the moments of kept runs tell.
use Rattle.std.proofs.Common.{◌≡◌, ◌≢◌, ℕ, ◌+◌, ◌<◌, ◌↔◌, inl, inr, Less, Equal, List, [], ◌∷◌, ◌++◌, length, get_or, AllPairs, Contains, sym, ap, ◌∙◌, subst, arith}
use Rattle.std.specs.Ordering.{ordering_reverse}
use Rattle.std.specs.declared.cmp.Ordering.{Ordering}
use Rattle.std.specs.BTreeSet.{insert_key}
use Rattle.std.specs.Cmp.{IsTotalOrder}
use Rattle.std.proofs.lemmas.Bool.{cases_lt}
use Rattle.std.proofs.lemmas.List.{same_lists}
use Rattle.std.proofs.lemmas.List.FromFn.{map-range_with_len_more, get_or-map-range_with_len, length-map-range_with_len}
use Rattle.lore_base.proofs.MemberLaws.{Contains-head, Contains-tail, Contains-cases, Contains-same}
use Rattle.lore_base.proofs.ListLaws.{AllPairs-unique}
use Rattle.list_laws.proofs.PairLaws.{AllPairs-nil}
use Rattle.list_laws.proofs.InsertLaws.{Contains-from_insert_key, Contains-insert_key, insert_key-contains_new, AllPairs-insert_key}
use Rattle.doem_facts.proofs.FactSetLaws.{alone}
use Rattle.doem_history.proofs.KeptLaws.{Tells}
use Rattle.doem_history.specs.Types.{Run, STANDING}
use Rattle.doem_history.specs.Histories.{facts_at, ordered}
use Rattle.doem_history.specs.Plans.{AreEnding}
use Rattle.doem_history.specs.inside.Kept.{Ascends, times_of, AreFacts, moved_on}
use Rattle.doem_history.specs.inside.Leads.{Leads}
use Rattle.doem_history.proofs.MovedLaws.{facts_before}
use Rattle.doem_history.proofs.StepLaws.{facts_then, kept_then}

module _ {F : Type 0} (cmp : F → F → Ordering) (total : IsTotalOrder cmp) where
  pub never-both : (a b : F) → cmp a b ≡ Less → cmp b a ≡ Less → ⊥
  never-both a b less more = let back = total.antisymm b a ∙ ap ordering_reverse less in cc

  -- ascending facts are distinct
  pub distinct_of : (facts : List F) → Ascends cmp facts → AllPairs (λ a b. a ≢ b) facts
  distinct_of facts ascend i j d lt len same =
      let less = ascend i j d lt len in
      let itself : cmp (get_or facts j d) (get_or facts j d) ≡ Less = subst (λ x. cmp x (get_or facts j d) ≡ Less) same less in
      never-both (get_or facts j d) (get_or facts j d) itself itself

  pub ascend-ordered : (xs : List F) → Ascends cmp (ordered cmp xs)
  ascend-ordered [] = AllPairs-nil (λ a b. cmp a b ≡ Less)
  ascend-ordered (x ∷ xs) = AllPairs-insert_key cmp total (ordered cmp xs) x (ascend-ordered xs)

  pub from-ordered : (xs : List F) (y : F) → Contains (ordered cmp xs) y → Contains xs y
  from-ordered [] y at = at
  from-ordered (x ∷ xs) y at = elim (Contains-from_insert_key cmp (ordered cmp xs) x y at) [
    | inl later ↦ Contains-tail x xs y (from-ordered xs y later)
    | inr same ↦ Contains-same (x ∷ xs) x y same (Contains-head x xs)
  ]

  pub in-ordered : (xs : List F) → ((a b : F) → Contains xs a → Contains xs b → cmp a b ≡ Equal → a ≡ b) → (y : F) → Contains xs y → Contains (ordered cmp xs) y
  in-ordered [] once y at = at
  in-ordered (x ∷ xs) once y at = elim (Contains-cases x xs y at) [
    | inl same ↦ Contains-same (insert_key cmp (ordered cmp xs) x) x y same (insert_key-contains_new cmp (ordered cmp xs) x
        (λ z there equal. sym (once x z (Contains-head x xs) (Contains-tail x xs z (from-ordered xs z there)) equal)))
    | inr later ↦ Contains-insert_key cmp (ordered cmp xs) x y (in-ordered xs (λ a b at_a at_b. once a b (Contains-tail x xs a at_a) (Contains-tail x xs b at_b)) y later)
  ]

  -- facts are ascending ones in their order where they are the same facts
  pub ordered_is : (xs after : List F) → Ascends cmp after → ((y : F) → Contains xs y ↔ Contains after y) → ordered cmp xs ≡ after
  ordered_is xs after ascend same =
      AllPairs-unique (λ a b. cmp a b ≡ Less) never-both (ordered cmp xs) after (ascend-ordered xs) ascend (λ y. (
        λ at. (same y).0 (from-ordered xs y at),
        λ at. in-ordered xs (λ a b at_a at_b. alone cmp total after ascend a b ((same a).0 at_a) ((same b).0 at_b)) y ((same y).1 at),
      ))

  -- The moments that runs tell.

  pub facts_of : (moments : ℕ) (runs : List (Run F)) (moment : ℕ) → moment < moments → get_or (times_of cmp moments runs) moment [] ≡ ordered cmp (facts_at moment runs)
  facts_of moments runs moment within = get_or-map-range_with_len (λ k. ordered cmp (facts_at k runs)) 0 moments moment moment [] within (omega arith)

  pub count_of : (moments : ℕ) (runs : List (Run F)) → length (times_of cmp moments runs) ≡ moments
  count_of moments runs = length-map-range_with_len (λ k. ordered cmp (facts_at k runs)) 0 moments

  pub tell_times : (moments : ℕ) (runs : List (Run F)) → AreFacts cmp moments runs → Tells runs (times_of cmp moments runs)
  tell_times moments runs facts = record {
    exact = λ moment there fact. (
        let long = count_of moments runs in
        let within : moment < moments = omega arith in
        let is = facts_of moments runs moment within in (
          λ at. from-ordered (facts_at moment runs) fact (subst (λ (l : List F). Contains l fact) is at),
          λ at. subst (λ (l : List F). Contains l fact) (sym is) (in-ordered (facts_at moment runs) (facts.once moment within) fact at),
        ));
  }

  -- runs that tell the same at each moment tell the same moments
  same_times : (moments : ℕ) (runs others : List (Run F)) → ((moment : ℕ) → moment < moments → facts_at moment runs ≡ facts_at moment others)
      → times_of cmp moments runs ≡ times_of cmp moments others
  same_times moments runs others same =
      let long = count_of moments runs in
      let long_too = count_of moments others in
      same_lists (times_of cmp moments runs) (times_of cmp moments others) (long ∙ sym long_too) (λ k d lt.
      get_or-map-range_with_len (λ k. ordered cmp (facts_at k runs)) 0 moments k k d (omega arith) (omega arith)
      ∙ ap (ordered cmp) (same k (omega arith))
      ∙ sym (get_or-map-range_with_len (λ k. ordered cmp (facts_at k others)) 0 moments k k d (omega arith) (omega arith)))

  module _ (runs : List (Run F)) (last later : ℕ) (is_last : last + 1 ≡ later) (facts : AreFacts cmp later runs) (gone come after : List F) (places : List ℕ)
      (ending : AreEnding runs gone places) (leads : Leads cmp (ordered cmp (facts_at last runs)) gone come after) where
    at_last : (fact : F) → Contains (facts_at last runs) fact → Contains (ordered cmp (facts_at last runs)) fact
    at_last fact at = in-ordered (facts_at last runs) (facts.once last (omega arith)) fact at

    pub tells_after : (fact : F) → Contains (facts_at later (moved_on later places come runs)) fact ↔ Contains after fact
    tells_after fact =
        let then = facts_then runs last later is_last facts.kept gone come places ending fact in (
          λ at. (leads.exact fact).1 (elim (then.0 at) [ inl new ↦ inl new | inr (before, stays) ↦ inr (at_last fact before, stays) ]),
          λ at. then.1 (elim ((leads.exact fact).0 at) [ inl new ↦ inl new | inr (before, stays) ↦ inr (from-ordered (facts_at last runs) fact before, stays) ]),
        )

    -- one moment more is told, the earlier ones stay
    pub times_then : later + 1 < STANDING → times_of cmp (later + 1) (moved_on later places come runs) ≡ times_of cmp later runs ++ after ∷ []
    times_then few =
        let new = moved_on later places come runs in
        let more = map-range_with_len_more (λ k. ordered cmp (facts_at k new)) 0 later later (omega arith) in
        let earlier = same_times later new runs (λ moment early. facts_before moment later runs gone come places ending early (omega arith)) in
        let this = ordered_is (facts_at later new) after leads.after_ascends tells_after in
        more ∙ ap (λ l. l ++ ordered cmp (facts_at later new) ∷ []) earlier ∙ ap (λ f. times_of cmp later runs ++ f ∷ []) this

    pub facts_stay : later + 1 < STANDING → AreFacts cmp (later + 1) (moved_on later places come runs)
    facts_stay few = record {
      kept = kept_then runs last later is_last facts.kept gone come places ending (λ fact new before. leads.come_new fact new (at_last fact before)) (distinct_of come leads.come_ascends) few;
      once = λ moment there a b at_a at_b same. elim (cases_lt moment later) [
        | inl early ↦
            let is = facts_before moment later runs gone come places ending early (omega arith) in
            facts.once moment early a b (subst (λ (l : List F). Contains l a) is at_a) (subst (λ (l : List F). Contains l b) is at_b) same
        | inr late ↦
            let here : moment ≡ later = omega arith in
            alone cmp total after leads.after_ascends a b ((tells_after a).0 (subst (λ k. Contains (facts_at k (moved_on later places come runs)) a) here at_a))
            ((tells_after b).0 (subst (λ k. Contains (facts_at k (moved_on later places come runs)) b) here at_b)) same
      ];
    }
