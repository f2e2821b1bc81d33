-- Edges counted anew, place by place.
use Rattle.std.proofs.Common.{◌≡◌, ◌≢◌, ℕ, ◌+◌, ◌<◌, ◌⊎◌, inl, inr, List, [], ◌∷◌, ◌++◌, length, map, get_or, set, Contains, refl, sym, ap, ◌∙◌, subst, arith, length-set, get_or-set_same, get_or-set_other}
use Rattle.std.specs.Prelude.{slice_index, slice_set}
use Rattle.std.specs.List.{range_with_len}
use Rattle.std.proofs.lemmas.List.{get_or-map, length-map, get_or_default}
use Rattle.std.proofs.lemmas.List.FromFn.{fill_by_all}
use Rattle.std.proofs.lemmas.List.Elements.{Contains-get_or, Contains-append_left, Contains-push, Contains-push_cases}
use Rattle.block_rounds.specs.Partitions.{Enters}
use Rattle.block_haste.specs.inside.Tallies.{Key}
use Rattle.block_haste.specs.inside.Marking.{Change, AreEdgesOf, AreEvents, keys_of}
use Rattle.block_haste.specs.inside.Recounting.{key_under, event_by, edge_at, key_at, IsRecountedAt, IsRecounted, IsCovered}
use Rattle.lore_lists.proofs.MemberLaws.{Contains-none}
use Rattle.block_rounds.proofs.MapLaws.{same_or_not}

keyed : (edges : List (ℕ × ℕ × ℕ)) (tags : List ℕ) (place : ℕ) → place < length edges → key_at (keys_of edges tags) place ≡ key_under tags (edge_at edges place)
keyed edges tags place within = get_or-map (key_under tags) edges place (0, 0, 0) (0, 0, 0) within

module _ (edges : List (ℕ × ℕ × ℕ)) (tags numbers : List ℕ) where
  -- no edge is counted anew
  pub IsRecounted-none : (keys : List Key) → keys ≡ keys_of edges tags → IsRecounted edges [] tags numbers keys []
  IsRecounted-none keys are = record {
    every = ap length are ∙ length-map edges (key_under tags);
    either = λ place within. inl (ap (λ (l : List Key). key_at l place) are ∙ keyed edges tags place within);
    done = λ place at. absurd (Contains-none place at);
    sound = λ event at. absurd (Contains-none event at);
  }

  -- the key at a place that has the number already
  recounted_here : (places : List ℕ) (place : ℕ) (keys : List Key) (events : List (ℕ × Change)) → place < length edges → IsRecounted edges places tags numbers keys events
      → (key_at keys place).2 ≡ slice_index numbers (edge_at edges place).0 → key_at keys place ≡ key_under numbers (edge_at edges place)
  recounted_here places place keys events within before same = elim (before.either place within) [
    | inl old ↦ old ∙ ap (λ (t : ℕ). ((edge_at edges place).2, (edge_at edges place).1, t)) (sym (ap (λ (k : Key). k.2) old) ∙ same)
    | inr new ↦ new.0
  ]

  -- one more place, whose key has the number already
  recounted_still : (places : List ℕ) (place : ℕ) (keys : List Key) (events : List (ℕ × Change)) → place < length edges → IsRecounted edges places tags numbers keys events
      → (key_at keys place).2 ≡ slice_index numbers (edge_at edges place).0 → IsRecounted edges (places ++ place ∷ []) tags numbers keys events
  recounted_still places place keys events within before same = record {
    every = before.every;
    either = before.either;
    done = λ at held. elim (Contains-push_cases places place at held) [
      | inl earlier ↦ before.done at earlier
      | inr last ↦ subst (λ (p : ℕ). key_at keys p ≡ key_under numbers (edge_at edges p)) last (recounted_here places place keys events within before same)
    ];
    sound = before.sound;
  }

  -- one more place, whose key gets the number
  recounted_now : (places : List ℕ) (place : ℕ) (keys : List Key) (events : List (ℕ × Change)) → place < length edges → IsRecounted edges places tags numbers keys events
      → (key_at keys place).2 ≢ slice_index numbers (edge_at edges place).0
      → IsRecounted edges (places ++ place ∷ []) tags numbers (set keys place (key_under numbers (edge_at edges place)))
      (events ++ ((edge_at edges place).2, ((edge_at edges place).1, (key_at keys place).2, slice_index numbers (edge_at edges place).0)) ∷ [])
  recounted_now places place keys events within before other =
      let edge : ℕ × ℕ × ℕ = edge_at edges place in
      let key : Key = key_under numbers edge in
      let event : ℕ × Change = (edge.2, (edge.1, (key_at keys place).2, slice_index numbers edge.0)) in
      let placed : place < length keys = omega (arith, within, before.every) in
      let tag : (key_at keys place).2 ≡ slice_index tags edge.0 = elim (before.either place within) [
        | inl old ↦ ap (λ (k : Key). k.2) old
        | inr new ↦ absurd (other (ap (λ (k : Key). k.2) new.0))
      ] in
      let is : event ≡ event_by tags numbers edge = ap (λ (t : ℕ). (edge.2, (edge.1, t, slice_index numbers edge.0))) tag in
      let apart : slice_index tags edge.0 ≢ slice_index numbers edge.0 = λ same. other (tag ∙ same) in
      let here : key_at (set keys place key) place ≡ key = get_or-set_same keys place key (0, 0, 0) placed in
      let told : Contains (events ++ event ∷ []) (event_by tags numbers edge) = subst (λ (e : ℕ × Change). Contains (events ++ event ∷ []) e) is (Contains-push events event) in
      record {
        every = length-set keys place key ∙ before.every;
        either = λ at live. elim (same_or_not place at) [
          | inl same ↦ inr (
            subst (λ (p : ℕ). key_at (set keys place key) p ≡ key_under numbers (edge_at edges p)) same here,
            subst (λ (p : ℕ). Contains (events ++ event ∷ []) (event_by tags numbers (edge_at edges p))) same told,
          )
          | inr far ↦
              let read : key_at (set keys place key) at ≡ key_at keys at = get_or-set_other keys place at key (0, 0, 0) (λ same. far (sym same)) in
              elim (before.either at live) [
                | inl old ↦ inl (read ∙ old)
                | inr new ↦ inr (read ∙ new.0, Contains-append_left events (event ∷ []) (event_by tags numbers (edge_at edges at)) new.1)
              ]
        ];
        done = λ at held. elim (same_or_not place at) [
          | inl same ↦ subst (λ (p : ℕ). key_at (set keys place key) p ≡ key_under numbers (edge_at edges p)) same here
          | inr far ↦ get_or-set_other keys place at key (0, 0, 0) (λ same. far (sym same)) ∙ (elim (Contains-push_cases places place at held) [
            | inl earlier ↦ before.done at earlier
            | inr last ↦ absurd (far last)
          ])
        ];
        sound = λ found held. elim (Contains-push_cases events event found held) [
          | inl earlier ↦ before.sound found earlier
          | inr last ↦ (place, within, sym last ∙ is, apart)
        ];
      }

  -- one more place
  pub IsRecounted-more : (places longer : List ℕ) (place : ℕ) (keys next : List Key) (events more : List (ℕ × Change)) → longer ≡ places ++ place ∷ [] → place < length edges
      → IsRecounted edges places tags numbers keys events
      → IsRecountedAt place (edge_at edges place) (slice_index numbers (edge_at edges place).0) keys events next more
      → IsRecounted edges longer tags numbers next more
  IsRecounted-more places longer place keys next events more is within before (inl same) =
      subst (λ (l : List ℕ). IsRecounted edges l tags numbers next more) (sym is)
      (subst (λ (n : List Key). IsRecounted edges (places ++ place ∷ []) tags numbers n more) (sym same.1)
      (subst (λ (m : List (ℕ × Change)). IsRecounted edges (places ++ place ∷ []) tags numbers keys m) (sym same.2)
      (recounted_still places place keys events within before same.0)))
  IsRecounted-more places longer place keys next events more is within before (inr changed) =
      subst (λ (l : List ℕ). IsRecounted edges l tags numbers next more) (sym is)
      (subst (λ (n : List Key). IsRecounted edges (places ++ place ∷ []) tags numbers n more) (sym changed.1)
      (subst (λ (m : List (ℕ × Change)). IsRecounted edges (places ++ place ∷ []) tags numbers (set keys place (key_under numbers (edge_at edges place))) m) (sym changed.2)
      (recounted_now places place keys events within before changed.0)))

  counted : (places : List ℕ) (keys : List Key) (events : List (ℕ × Change)) → IsRecounted edges places tags numbers keys events → IsCovered edges tags numbers places
      → (place : ℕ) → place < length edges → key_at keys place ≡ key_under numbers (edge_at edges place)
  counted places keys events recounted covered place within = elim (covered place within) [
    | inr at ↦ recounted.done place at
    | inl same ↦ elim (recounted.either place within) [
      | inl old ↦ old ∙ ap (λ (t : ℕ). ((edge_at edges place).2, (edge_at edges place).1, t)) same
      | inr new ↦ new.0
    ]
  ]

  pub counted_all : (places : List ℕ) (keys : List Key) (events : List (ℕ × Change)) → IsRecounted edges places tags numbers keys events → IsCovered edges tags numbers places
      → keys ≡ keys_of edges numbers
  counted_all places keys events recounted covered =
      fill_by_all (λ place. key_under numbers (edge_at edges place)) keys (length edges) (0, 0, 0) recounted.every
      (λ place within. counted places keys events recounted covered place within)
      ∙ sym (fill_by_all (λ place. key_under numbers (edge_at edges place)) (keys_of edges numbers) (length edges) (0, 0, 0) (length-map edges (key_under numbers))
      (λ place within. keyed edges numbers place within))

  pub events_all : (rows : List (List (ℕ × ℕ))) (places : List ℕ) (keys : List Key) (events : List (ℕ × Change)) → AreEdgesOf rows edges
      → IsRecounted edges places tags numbers keys events → IsCovered edges tags numbers places → AreEvents rows tags numbers events
  events_all rows places keys events are recounted covered = record {
    sound = λ node label tag number at.
        let from = recounted.sound (node, (label, tag, number)) at in
        let edge = edge_at edges from.0 in
        let here : node ≡ edge.2 = ap (λ (e : ℕ × Change). e.0) from.2 in
        let by : label ≡ edge.1 = ap (λ (e : ℕ × Change). e.1.0) from.2 in
        let old : tag ≡ slice_index tags edge.0 = ap (λ (e : ℕ × Change). e.1.1) from.2 in
        let new : number ≡ slice_index numbers edge.0 = ap (λ (e : ℕ × Change). e.1.2) from.2 in
        let own : edge ≡ (edge.0, label, node) = λ i. (edge.0, sym by i, sym here i) in
        let held : Contains edges (edge.0, label, node) = subst (λ (e : ℕ × ℕ × ℕ). Contains edges e) own (Contains-get_or edges from.0 (0, 0, 0) from.1) in
        (edge.0, (are edge.0 label node).0 held, sym old, sym new, λ same. from.3 (sym old ∙ same ∙ new));
    complete = λ node label parent at apart.
        let held = (are parent label node).1 at in
        let is : edge_at edges held.0 ≡ (parent, label, node) = get_or_default edges held.0 (0, 0, 0) (parent, label, node) held.1 ∙ held.2 in
        elim (recounted.either held.0 held.1) [
          | inl old ↦ elim (covered held.0 held.1) [
            | inl same ↦ absurd (apart (ap (λ (e : ℕ × ℕ × ℕ). slice_index tags e.0) (sym is) ∙ same ∙ ap (λ (e : ℕ × ℕ × ℕ). slice_index numbers e.0) is))
            | inr placed ↦ absurd (apart (
                ap (λ (e : ℕ × ℕ × ℕ). slice_index tags e.0) (sym is) ∙ ap (λ (k : Key). k.2) (sym old ∙ recounted.done held.0 placed) ∙ ap (λ (e : ℕ × ℕ × ℕ). slice_index numbers e.0) is))
          ]
          | inr new ↦ subst (λ (e : ℕ × ℕ × ℕ). Contains events (event_by tags numbers e)) is new.1
        ];
  }

pub length-recounted : (place : ℕ) (edge : ℕ × ℕ × ℕ) (number : ℕ) (keys next : List Key) (events more : List (ℕ × Change))
    → IsRecountedAt place edge number keys events next more → length next ≡ length keys
length-recounted place edge number keys next events more (inl same) = ap length same.1
length-recounted place edge number keys next events more (inr changed) = ap length changed.1 ∙ length-set keys place (edge.2, edge.1, number)
