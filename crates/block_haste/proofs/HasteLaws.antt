-- A hastening round: tags that catch up with numbers, nodes that changed, and what a round keeps.
use Rattle.std.proofs.Common.{◌≡◌, ◌≢◌, ◌↔◌, ℕ, zero, suc, ◌+◌, ◌<◌, ◌≤◌, ◌⊎◌, inl, inr, ◌&&◌, nat_eq, Bool, true, Less, None, Option, List, [], ◌∷◌, ◌++◌}
use Rattle.std.proofs.Common.{length, map, get_or, set, All, AllPairs, Contains, refl, sym, ap, ◌∙◌, subst, arith}
use Rattle.std.specs.Prelude.{slice_index, slice_index_or}
use Rattle.std.specs.Ordering.{nat_cmp, ordering_then}
use Rattle.std.specs.Cmp.{IsTotalOrder}
use Rattle.std.proofs.lemmas.Cmp.{then_total, on_total, nat_cmp_total}
use Rattle.std.proofs.lemmas.List.Elements.{All-contains, All-push, Contains-append_left, Contains-get_or, Contains-push, Contains-push_cases}
use Rattle.lore_lists.proofs.MemberLaws.{Contains-none}
use Rattle.block_rounds.specs.Partitions.{Rows, Enters, IsCoarse, IsNumbered, IsRefining, AreSameBlocks}
use Rattle.block_haste.specs.inside.Tallies.{Key, key_eq}
use Rattle.block_haste.specs.inside.Marking.{Change, change_cmp, stands, AreMarkedBy, AreEdgesOf, AreEvents, keys_of}
use Rattle.block_haste.specs.inside.Recounting.{edge_at, IsCovered}
use Rattle.block_haste.specs.inside.Hastening.{AreListed, AreChanged, AreReached, AreInLists, IsNoted, IsParted, HaveNoMarks, AreExchanged, IsHastening}
use Rattle.block_rounds.proofs.SignatureLaws.{same_number, left, right}
use Rattle.block_haste.proofs.TallyLaws.{same_key}
use Rattle.block_haste.proofs.HastenLaws.{IsCoarse-fair, IsCoarse-renamed}
use Rattle.block_haste.proofs.FairLaws.{AreFair-marked}
use Rattle.block_haste.proofs.ExchangeLaws.{AreChanged-exchanged}

pub change_total : IsTotalOrder change_cmp
change_total = then_total (then_total (on_total (λ (c : Change). c.0) nat_cmp_total) (on_total (λ (c : Change). c.1) nat_cmp_total)) (on_total (λ (c : Change). c.2) nat_cmp_total)

-- events that the test takes for equal are one
pub same_event : (a b : ℕ × Change) → (nat_eq a.0 b.0 && key_eq a.1 b.1) ≡ true → a ≡ b
same_event a b same = λ i. (
  same_number a.0 b.0 (left (nat_eq a.0 b.0) (key_eq a.1 b.1) same) i,
  same_key a.1 b.1 (right (nat_eq a.0 b.0) (key_eq a.1 b.1) same) i,
)

pub AreEvents-same : (rows : Rows) (tags numbers : List ℕ) (old new : List (ℕ × Change)) → ((event : ℕ × Change) → Contains new event ↔ Contains old event)
    → AreEvents rows tags numbers old → AreEvents rows tags numbers new
AreEvents-same rows tags numbers old new same are = record {
  sound = λ node label tag number at. are.sound node label tag number ((same (node, (label, tag, number))).0 at);
  complete = λ node label parent at apart. (same (node, (label, slice_index tags parent, slice_index numbers parent))).1 (are.complete node label parent at apart);
}

-- numbers that are the same at each place are one list
pub same_numbers : (xs ys : List ℕ) → length xs ≡ length ys → ((k : ℕ) → k < length ys → get_or xs k 0 ≡ get_or ys k 0) → xs ≡ ys
same_numbers [] [] long same = refl
same_numbers [] (y ∷ ys) long same = absurd (omega (arith, long))
same_numbers (x ∷ xs) [] long same = absurd (omega (arith, long))
same_numbers (x ∷ xs) (y ∷ ys) long same =
    let first : x ≡ y = same 0 (omega arith) in
    let rest : xs ≡ ys = same_numbers xs ys (omega (arith, long)) (λ k below. same (suc k) (omega (arith, below))) in
    cc

-- ---- nodes whose numbers aren't their tags
module _ (tags numbers : List ℕ) where
  -- of the front of the nodes those are noted that differ
  abbrev pub AreNoted : List ℕ → List ℕ → Type 0
  AreNoted front changed = (node : ℕ) → Contains front node → (slice_index tags node ≡ slice_index numbers node) ⊎ Contains changed node

  pub AreNoted-none : AreNoted [] []
  AreNoted-none node at = absurd (Contains-none node at)

  pub AreNoted-more : (front : List ℕ) (node : ℕ) (old new : List ℕ)
      → IsNoted node (slice_index tags node) (slice_index numbers node) old new → AreNoted front old → AreNoted (front ++ node ∷ []) new
  AreNoted-more front node old new (inl same) before at held = elim (Contains-push_cases front node at held) [
    | inl earlier ↦ elim (before at earlier) [
      | inl equal ↦ inl equal
      | inr noted ↦ inr (subst (λ (l : List ℕ). Contains l at) (sym same.1) noted)
    ]
    | inr last ↦ inl (subst (λ (k : ℕ). slice_index tags k ≡ slice_index numbers k) last same.0)
  ]
  AreNoted-more front node old new (inr pushed) before at held = elim (Contains-push_cases front node at held) [
    | inl earlier ↦ elim (before at earlier) [
      | inl equal ↦ inl equal
      | inr noted ↦ inr (subst (λ (l : List ℕ). Contains l at) (sym pushed) (Contains-append_left old (node ∷ []) at noted))
    ]
    | inr last ↦ inr (subst (λ (l : List ℕ). Contains l at) (sym pushed) (subst (λ (k : ℕ). Contains (old ++ node ∷ []) k) last (Contains-push old node)))
  ]

  pub AreChanged-noted : (nodes changed : List ℕ) → AreChanged tags numbers nodes → AreNoted nodes changed → AreChanged tags numbers changed
  AreChanged-noted nodes changed changes noted node live = elim (changes node live) [
    | inl same ↦ inl same
    | inr at ↦ noted node at
  ]

pub noted_within : (count node tag number : ℕ) (old new : List ℕ) → node < count → IsNoted node tag number old new
    → All (λ n. n < count) old → All (λ n. n < count) new
noted_within count node tag number old new low (inl same) before = subst (λ (l : List ℕ). All (λ n. n < count) l) (sym same.1) before
noted_within count node tag number old new low (inr pushed) before =
    subst (λ (l : List ℕ). All (λ n. n < count) l) (sym pushed) (All-push (λ n. n < count) old node before low)

-- ---- a round
module _ (rows : Rows) (kinds : List ℕ) (edges : List (ℕ × ℕ × ℕ)) (outs : List (List ℕ)) (listed : AreListed rows edges outs) where
  pub AreReached-changed : (tags numbers changed : List ℕ) → length numbers ≡ length rows → AreChanged tags numbers changed
      → AreReached edges outs tags numbers changed
  AreReached-changed tags numbers changed every are place within =
      let live : (edge_at edges place).0 < length rows = listed.parents place (0, 0, 0) within in
      elim (are (edge_at edges place).0 (omega (arith, live, every))) [
        | inl same ↦ inl same
        | inr at ↦ inr (at, listed.placed place within)
      ]

  -- events are of nodes
  pub events_within : (tags numbers : List ℕ) (events : List (ℕ × Change)) (count : ℕ) → count ≡ length rows → AreEvents rows tags numbers events
      → All (λ event. event.0 < count) events
  events_within tags numbers events count is are k d within =
      let event : ℕ × Change = get_or events k d in
      let from = are.sound event.0 event.1.0 event.1.1 event.1.2 (Contains-get_or events k d within) in
      let held = (listed.exact from.0 event.1.0 event.0).1 from.1 in
      let live : event.0 < length rows = All-contains (λ (edge : ℕ × ℕ × ℕ). edge.2 < length rows) edges (from.0, event.1.0, event.0) listed.nodes held in
      omega (arith, live, is)

  -- a round keeps what rounds keep
  pub IsHastening-round : (tags numbers : List ℕ) (tally counted : List Key) (lists after_lists : List (List ℕ)) (changed : List ℕ)
      (marks after : List (Option ℕ)) (events : List (ℕ × Change)) (new touched next nodes last : List ℕ)
      → IsHastening rows kinds edges tags numbers tally lists changed marks → counted ≡ keys_of edges numbers
      → AreEvents rows tags numbers events
      → AllPairs (λ a b. ordering_then (nat_cmp a.0 b.0) (change_cmp a.1 b.1) ≡ Less) events
      → IsParted (stands counted) events numbers new touched → HaveNoMarks after → length new ≡ length numbers → length after ≡ length marks
      → AreExchanged new touched next nodes → AreInLists after_lists next
      → AreChanged numbers next last → All (λ node. node < length next) last
      → IsHastening rows kinds edges numbers next counted after_lists last after
  IsHastening-round tags numbers tally counted lists after_lists changed marks after events new touched next nodes last before is exact ascending parted none
      long marked exchanged in_lists differ within =
      let mark : AreMarkedBy (stands (keys_of edges numbers)) events parted.marks = subst (λ (k : List Key). AreMarkedBy (stands k) events parted.marks) is parted.marked in
      let fair = AreFair-marked rows edges tags numbers listed.exact change_cmp events parted.marks change_total ascending exact (parted.every ∙ before.every) mark in
      let parted_coarse = IsCoarse-fair rows kinds tags numbers parted.marks new before.every before.older before.coarse fair parted.together in
      record {
        coarse = IsCoarse-renamed rows kinds new new next (long ∙ before.every) parted_coarse exchanged.renamed;
        older = before.coarse;
        counted = is;
        listed = in_lists;
        changes = differ;
        every = exchanged.every ∙ long ∙ before.every;
        tagged = before.every;
        marked = marked ∙ before.marked;
        unmarked = none;
        within = subst (λ (n : ℕ). All (λ node. node < n) last) (exchanged.every ∙ long ∙ before.every) within;
      }

  -- ---- what is counted anew, from facts of slices
  pub record IsEntered (tags numbers : List ℕ) (tally : List Key) (events : List (ℕ × Change)) : Type 0 where
    pub counted : tally ≡ keys_of edges numbers
    pub exact : AreEvents rows tags numbers events

  pub IsEntered-told : (tags numbers changed : List ℕ) (tally counted : List Key) (events : List (ℕ × Change)) (lists : List (List ℕ)) (marks : List (Option ℕ))
      (shown_edges : List (ℕ × ℕ × ℕ)) (shown_outs : List (List ℕ)) (shown_numbers shown_changed : List ℕ)
      → shown_edges ≡ edges → shown_outs ≡ outs → shown_numbers ≡ numbers → shown_changed ≡ changed
      → IsHastening rows kinds edges tags numbers tally lists changed marks
      → ((t : List ℕ) → tally ≡ keys_of shown_edges t → AreReached shown_edges shown_outs t shown_numbers shown_changed → counted ≡ keys_of shown_edges shown_numbers)
      → ((r : Rows) (t : List ℕ) → AreEdgesOf r shown_edges → tally ≡ keys_of shown_edges t → AreReached shown_edges shown_outs t shown_numbers shown_changed
      → AreEvents r t shown_numbers events)
      → IsEntered tags numbers counted events
  IsEntered-told tags numbers changed tally counted events lists marks shown_edges shown_outs shown_numbers shown_changed first second third fourth before tells gives =
      let reached : AreReached shown_edges shown_outs tags shown_numbers shown_changed =
      subst (λ (e : List (ℕ × ℕ × ℕ)). AreReached e shown_outs tags shown_numbers shown_changed) (sym first)
      (subst (λ (o : List (List ℕ)). AreReached edges o tags shown_numbers shown_changed) (sym second)
      (subst (λ (n : List ℕ). AreReached edges outs tags n shown_changed) (sym third)
      (subst (λ (c : List ℕ). AreReached edges outs tags numbers c) (sym fourth) (AreReached-changed tags numbers changed before.every before.changes)))) in
      let keyed : tally ≡ keys_of shown_edges tags = before.counted ∙ ap (λ (e : List (ℕ × ℕ × ℕ)). keys_of e tags) (sym first) in
      record {
        counted = tells tags keyed reached ∙ (λ i. keys_of (first i) (third i));
        exact = subst (λ (n : List ℕ). AreEvents rows tags n events) third
            (gives rows tags (subst (λ (e : List (ℕ × ℕ × ℕ)). AreEdgesOf rows e) (sym first) listed.exact) keyed reached);
      }

-- the same blocks by other numbers are still on their way
pub IsRefining-same : (rows : Rows) (kinds shown numbers next heads : List ℕ) → shown ≡ numbers → length numbers ≡ length rows
    → IsCoarse rows kinds numbers → AreSameBlocks shown next → IsNumbered (length shown) next heads → IsRefining rows kinds next heads
IsRefining-same rows kinds shown numbers next heads is every coarse same numbered =
    let told = subst (λ (l : List ℕ). AreSameBlocks l next) is same in
    record {
      numbered = subst (λ (n : ℕ). IsNumbered n next heads) (ap length is ∙ every) numbered;
      coarse = IsCoarse-renamed rows kinds numbers numbers next every coarse
          (λ x y x_live y_live one. (told x y x_live y_live).1 one);
    }

-- facts of slices are facts of the lists that they show
pub AreChanged-shown : (shown tags listed numbers seen nodes : List ℕ) → shown ≡ tags → listed ≡ numbers → seen ≡ nodes
    → AreChanged tags numbers nodes → AreChanged shown listed seen
AreChanged-shown shown tags listed numbers seen nodes first second third are =
    subst (λ (t : List ℕ). AreChanged t listed seen) (sym first)
    (subst (λ (n : List ℕ). AreChanged tags n seen) (sym second) (subst (λ (l : List ℕ). AreChanged tags numbers l) (sym third) are))
