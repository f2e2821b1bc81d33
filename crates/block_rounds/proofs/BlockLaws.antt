-- Partitions and bisimulations: what no bisimulation parts stays together in a step, and a stable partition is one.
use Rattle.std.proofs.Common.{◌≡◌, ℕ, ◌<◌, ◌==◌, inl, inr, List, [], ◌++◌, length, map, get_or, Contains, refl, sym, ap, ◌∙◌, subst, eq-eqb}
use Rattle.std.specs.List.{flat_map, range_with_len, filter, slice_index}
use Rattle.std.proofs.lemmas.List.Elements.{Contains-append_left, Contains-append_right, Contains-append_cases, All-contains}
use Rattle.block_rounds.specs.Partitions.{Enters, AreWithin, IsBisimulation, IsFrom, AreEnteredAlike, IsCoarse, IsStable, AreBlocks}
use Rattle.lore_lists.proofs.MemberLaws.{Contains-filter, unfiltered}
use Rattle.block_rounds.proofs.SignatureLaws.{same_number}
use Rattle.list_laws.proofs.MemberLaws.{Contains-map, Contains-from_map}
use Rattle.block_rounds.proofs.MapLaws.{Contains-flat_map, Contains-from_flat_map, Contains-count, Contains-from_count}

module _ (rows : List (List (ℕ × ℕ))) (kinds : List ℕ) where
  -- two bisimulations together are one
  pub IsBisimulation-union : (pairs more : List (ℕ × ℕ)) → IsBisimulation rows kinds pairs → IsBisimulation rows kinds more
      → IsBisimulation rows kinds (pairs ++ more)
  IsBisimulation-union pairs more first second = record {
    live = λ x y held. elim (Contains-append_cases pairs more (x, y) held) [
      | inl early ↦ first.live x y early
      | inr late ↦ second.live x y late
    ];
    symmetric = λ x y held. elim (Contains-append_cases pairs more (x, y) held) [
      | inl early ↦ Contains-append_left pairs more (y, x) (first.symmetric x y early)
      | inr late ↦ Contains-append_right pairs more (y, x) (second.symmetric x y late)
    ];
    alike = λ x y held. elim (Contains-append_cases pairs more (x, y) held) [
      | inl early ↦ first.alike x y early
      | inr late ↦ second.alike x y late
    ];
    entered = λ x y parent label held at. elim (Contains-append_cases pairs more (x, y) held) [
      | inl early ↦ let step = first.entered x y parent label early at in
          (step.0, step.1, Contains-append_left pairs more (parent, step.0) step.2)
      | inr late ↦ let step = second.entered x y parent label late at in
          (step.0, step.1, Contains-append_right pairs more (parent, step.0) step.2)
    ];
  }

module _ (rows : List (List (ℕ × ℕ))) (kinds numbers : List ℕ) where
  from_kept : (pairs : List (ℕ × ℕ)) → IsCoarse rows kinds numbers → IsBisimulation rows kinds pairs → (x y : ℕ) → Contains pairs (x, y)
      → (from : ℕ × ℕ) → IsFrom rows numbers x from → IsFrom rows numbers y from
  from_kept pairs coarse bisimulation x y held from at =
      let step = bisimulation.entered x y at.0 from.0 held at.1 in
      (step.0, step.1, sym (coarse pairs bisimulation at.0 step.0 step.2) ∙ at.2)

  -- nodes that a bisimulation pairs are entered alike from the blocks of a coarse partition
  pub entered_alike : (pairs : List (ℕ × ℕ)) → IsCoarse rows kinds numbers → IsBisimulation rows kinds pairs → (x y : ℕ) → Contains pairs (x, y)
      → AreEnteredAlike rows numbers x y
  entered_alike pairs coarse bisimulation x y held from = (
    from_kept pairs coarse bisimulation x y held from,
    from_kept pairs coarse bisimulation y x (bisimulation.symmetric x y held) from,
  )

  -- a step that keeps together nodes of one block and one kind that are entered alike keeps a partition coarse
  pub IsCoarse-step : (next : List ℕ) → IsCoarse rows kinds numbers
      → ((x y : ℕ) → x < length rows → y < length rows → slice_index numbers x ≡ slice_index numbers y → slice_index kinds x ≡ slice_index kinds y
      → AreEnteredAlike rows numbers x y → slice_index next x ≡ slice_index next y)
      → IsCoarse rows kinds next
  IsCoarse-step next coarse keeps pairs bisimulation x y held =
      let live = bisimulation.live x y held in
      keeps x y live.0 live.1 (coarse pairs bisimulation x y held) (bisimulation.alike x y held)
      (entered_alike pairs coarse bisimulation x y held)

  -- the pairs of nodes of one block
  abbrev pairs_with : ℕ → List (ℕ × ℕ)
  pairs_with x = map (λ y. (x, y)) (filter (λ y. slice_index numbers x == slice_index numbers y) (range_with_len 0 (length rows)))

  abbrev pub block_pairs : List (ℕ × ℕ)
  block_pairs = flat_map pairs_with (range_with_len 0 (length rows))

  paired : (x y : ℕ) → x < length rows → y < length rows → slice_index numbers x ≡ slice_index numbers y → Contains block_pairs (x, y)
  paired x y x_live y_live same =
      let kept : Contains (filter (λ z. slice_index numbers x == slice_index numbers z) (range_with_len 0 (length rows))) y =
      Contains-filter (λ z. slice_index numbers x == slice_index numbers z) (range_with_len 0 (length rows)) y (Contains-count (length rows) y y_live)
      (eq-eqb (slice_index numbers x) (slice_index numbers y) same) in
      Contains-flat_map pairs_with (range_with_len 0 (length rows)) x (x, y) (Contains-count (length rows) x x_live)
      (Contains-map (λ z. (x, z)) (filter (λ z. slice_index numbers x == slice_index numbers z) (range_with_len 0 (length rows))) y kept)

  record IsPaired (x y : ℕ) : Type 0 where
    first : x < length rows
    second : y < length rows
    same : slice_index numbers x ≡ slice_index numbers y

  in_pair : (x y : ℕ) → Contains block_pairs (x, y) → IsPaired x y
  in_pair x y held =
      let outer = Contains-from_flat_map pairs_with (range_with_len 0 (length rows)) (x, y) held in
      let inner = Contains-from_map (λ z. (outer.0, z)) (filter (λ z. slice_index numbers outer.0 == slice_index numbers z) (range_with_len 0 (length rows))) (x, y) outer.2 in
      let kept = unfiltered (λ z. slice_index numbers outer.0 == slice_index numbers z) (range_with_len 0 (length rows)) inner.0 inner.1 in
      let x_is : outer.0 ≡ x = ap (λ (p : ℕ × ℕ). p.0) inner.2 in
      let y_is : inner.0 ≡ y = ap (λ (p : ℕ × ℕ). p.1) inner.2 in
      let first : x < length rows = subst (λ (z : ℕ). z < length rows) x_is (Contains-from_count (length rows) outer.0 outer.1) in
      let second : y < length rows = subst (λ (z : ℕ). z < length rows) y_is (Contains-from_count (length rows) inner.0 kept.0) in
      let told : slice_index numbers outer.0 ≡ slice_index numbers inner.0 = same_number (slice_index numbers outer.0) (slice_index numbers inner.0) kept.1 in
      record {
        first = first;
        second = second;
        same = ap (slice_index numbers) (sym x_is) ∙ told ∙ ap (slice_index numbers) y_is;
      }

  parent_within : (parent label node : ℕ) → AreWithin rows → node < length rows → Enters rows parent label node → parent < length rows
  parent_within parent label node within live at =
      All-contains (λ (entry : ℕ × ℕ). entry.1 < length rows) (get_or rows node []) (label, parent) (within node [] live) at

  -- a stable partition is a bisimulation
  pub IsBisimulation-blocks : AreWithin rows → IsStable rows kinds numbers → IsBisimulation rows kinds block_pairs
  IsBisimulation-blocks within stable = record {
    live = λ x y held. let pair = in_pair x y held in (pair.first, pair.second);
    symmetric = λ x y held. let pair = in_pair x y held in paired y x pair.second pair.first (sym pair.same);
    alike = λ x y held. let pair = in_pair x y held in stable.alike x y pair.first pair.second pair.same;
    entered = λ x y parent label held at.
        let pair = in_pair x y held in
        let other = (stable.entered x y pair.first pair.second pair.same (label, slice_index numbers parent)).0 (parent, at, refl) in (
          other.0,
          other.1,
          paired parent other.0 (parent_within parent label x within pair.first at) (parent_within other.0 label y within pair.second other.1) (sym other.2),
        );
  }

  pub AreBlocks-exact : AreWithin rows → IsCoarse rows kinds numbers → IsStable rows kinds numbers → AreBlocks rows kinds numbers
  AreBlocks-exact within coarse stable x y x_live y_live = (
    λ same. inr (block_pairs, IsBisimulation-blocks within stable, paired x y x_live y_live same),
    λ alike. elim alike [
      | inl one ↦ ap (slice_index numbers) one
      | inr held ↦ coarse held.0 held.1 x y held.2
    ],
  )
