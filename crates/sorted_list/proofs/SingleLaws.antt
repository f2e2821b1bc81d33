-- Items that go out of an ascending list, or come into it, one by one.
use Rattle.std.proofs.Common.{◌≡◌, ℕ, Bool, if◌then◌else◌, ◌+◌, ◌<◌, ◌≤◌, ◌↔◌, ◌⊎◌, true, Less, Equal, Greater, Err, List, [], ◌∷◌, ◌++◌, length, get_or, take, drop, Contains, All, sym, ap, subst, ◌∙◌, inl, inr, append_assoc, arith}
use Rattle.std.specs.declared.cmp.Ordering.{Ordering}
use Rattle.std.specs.Cmp.{IsTotalOrder}
use Rattle.std.specs.List.Sorted.{IsBinarySearchResult}
use Rattle.std.specs.Ordering.{ordering_reverse}
use Rattle.std.proofs.lemmas.Bool.{true≢false}
use Rattle.std.proofs.lemmas.List.{take-append-drop, take_all}
use Rattle.std.proofs.lemmas.List.Elements.{All-contains, Contains-push, Contains-push_cases, Contains-append_left, Contains-append_right, Contains-append_cases}
use Rattle.lore_lists.proofs.ListLaws.{AllPairs-append}
use Rattle.lore_lists.proofs.MemberLaws.{Contains-none, Contains-head, Contains-tail, Contains-cases, Contains-same}
use Rattle.list_laws.proofs.AscentLaws.{never_less}
use Rattle.list_laws.proofs.PartLaws.{take_more_read, drop_more_read, All-take_within, All-drop_within}
use Rattle.sorted_list.specs.SortedLists.{Ascends, IsExact, AreWithout, AreJoined}
use Rattle.sorted_list.specs.inside.Listed.{staying}
use Rattle.sorted_list.specs.inside.Single.{IsWithout, IsWith}
use Rattle.sorted_list.proofs.JoinLaws.{ascend-front, ascend-back, ascend-between, below_last, above_first}
use Rattle.sorted_list.proofs.ListedLaws.{comparisons_rise, not_found, listed, stays, staying-ascends}

-- items put in one by one, the last first: those that stand there, and those that are left
pub record IsPutting {T : Type 0} (cmp : T → T → Ordering) (items come put_ones left : List T) : Type 0 where
  pub ascend : Ascends cmp put_ones
  pub members : (item : T) → (Contains items item ⊎ Contains come item) ↔ (Contains put_ones item ⊎ Contains left item)

module _ {T : Type 0} (cmp : T → T → Ordering) (total : IsTotalOrder cmp) where
  -- ---- an item between the others
  module _ (front back : List T) (gone : T) (ascend : Ascends cmp (front ++ gone ∷ back)) where
    pub all_below : All (λ x. cmp x gone ≡ Less) front
    all_below =
        below_last cmp total front gone (ascend-front cmp total (front ++ gone ∷ []) back
        (subst (λ (l : List T). Ascends cmp l) (sym (append_assoc front (gone ∷ []) back)) ascend))

    pub all_above : All (λ y. cmp gone y ≡ Less) back
    all_above = above_first cmp total gone back (ascend-back cmp total front (gone ∷ back) ascend)

    without_ascends : Ascends cmp (front ++ back)
    without_ascends =
        AllPairs-append (λ a b. cmp a b ≡ Less) front back (ascend-front cmp total front (gone ∷ back) ascend)
        (ascend-back cmp total (gone ∷ []) back (ascend-back cmp total front (gone ∷ back) ascend))
        (λ i j d lt_i lt_j. total.trans (get_or front i d) gone (get_or back j d) (all_below i d lt_i) (all_above j d lt_j))

    pub without : IsWithout cmp gone (front ++ gone ∷ back) (front ++ back)
    without = record {
      ascend = without_ascends;
      members = λ item. (
        λ at. elim (Contains-append_cases front back item at) [
          | inl early ↦ (
            Contains-append_left front (gone ∷ back) item early,
            λ same.
                never_less cmp total gone (subst (λ (x : T). cmp x gone ≡ Less) same (All-contains (λ x. cmp x gone ≡ Less) front item all_below early)),
          )
          | inr late ↦ (
            Contains-append_right front (gone ∷ back) item (Contains-tail gone back item late),
            λ same.
                never_less cmp total gone (subst (λ (y : T). cmp gone y ≡ Less) same (All-contains (λ y. cmp gone y ≡ Less) back item all_above late)),
          )
        ],
        λ both. elim (Contains-append_cases front (gone ∷ back) item both.0) [
          | inl early ↦ Contains-append_left front back item early
          | inr late ↦ elim (Contains-cases gone back item late) [
            | inl same ↦ absurd (both.1 (sym same))
            | inr behind ↦ Contains-append_right front back item behind
          ]
        ],
      );
    }

  pub with_item : (front back : List T) (new : T) → Ascends cmp (front ++ back) → All (λ x. cmp x new ≡ Less) front → All (λ y. cmp new y ≡ Less) back
      → IsWith cmp new (front ++ back) (front ++ new ∷ back)
  with_item front back new ascend below above = record {
    ascend = ascend-between cmp total front back new (ascend-front cmp total front back ascend) (ascend-back cmp total front back ascend) below above;
    members = λ item. (
      λ at. elim (Contains-append_cases front (new ∷ back) item at) [
        | inl early ↦ inl (Contains-append_left front back item early)
        | inr late ↦ elim (Contains-cases new back item late) [
          | inl same ↦ inr (sym same)
          | inr behind ↦ inl (Contains-append_right front back item behind)
        ]
      ],
      λ either. elim either [
        | inl at ↦ elim (Contains-append_cases front back item at) [
          | inl early ↦ Contains-append_left front (new ∷ back) item early
          | inr late ↦ Contains-append_right front (new ∷ back) item (Contains-tail new back item late)
        ]
        | inr same ↦ Contains-append_right front (new ∷ back) item (Contains-same (new ∷ back) new item (sym same) (Contains-head new back))
      ],
    );
  }

  with_at : (front back : List T) (items more : List T) (new : T) → items ≡ front ++ back → more ≡ front ++ new ∷ back → Ascends cmp items
      → All (λ x. cmp x new ≡ Less) front → All (λ y. cmp new y ≡ Less) back → IsWith cmp new items more
  with_at front back items more new items_are more_are ascend below above =
      subst (λ (l : List T). IsWith cmp new l more) (sym items_are) (subst (λ (l : List T). IsWith cmp new (front ++ back) l) (sym more_are)
      (with_item front back new (subst (λ (l : List T). Ascends cmp l) items_are ascend) below above))

  -- what is above an item is told the other way round
  turned : (new : T) (ys : List T) → All (λ y. cmp y new ≡ Greater) ys → All (λ y. cmp new y ≡ Less) ys
  turned new ys greater k d lt = total.antisymm new (get_or ys k d) ∙ ap ordering_reverse (greater k d lt)

  -- ---- what a search says
  lows : (items : List T) → Ascends cmp items → (new : T) (place : ℕ) → IsBinarySearchResult (λ y. cmp y new) items (Err place)
      → All (λ y. cmp y new ≡ Less) (take place items)
  lows items ascend new place gap = All-take_within (λ y. cmp y new ≡ Less) items place (gap (comparisons_rise cmp total items ascend new)).0

  highs : (items : List T) → Ascends cmp items → (new : T) (place : ℕ) → IsBinarySearchResult (λ y. cmp y new) items (Err place)
      → All (λ y. cmp y new ≡ Greater) (drop place items)
  highs items ascend new place gap = All-drop_within (λ y. cmp y new ≡ Greater) items place (gap (comparisons_rise cmp total items ascend new)).1

  -- one that wasn't found comes
  pub put : (items more : List T) (item : T) (place : ℕ) → Ascends cmp items → IsBinarySearchResult (λ y. cmp y item) items (Err place)
      → more ≡ take place items ++ item ∷ drop place items → IsWith cmp item items more
  put items more item place ascend gap more_are =
      with_at (take place items) (drop place items) items more item (sym (take-append-drop place items)) more_are ascend
      (lows items ascend item place gap) (turned item (drop place items) (highs items ascend item place gap))

  module _ (exact : IsExact cmp) where
    -- an item that was found goes
    taken : (items less : List T) (item : T) (place : ℕ) → Ascends cmp items → place < length items → get_or items place item ≡ item
        → less ≡ take place items ++ drop (place + 1) items → IsWithout cmp item items less
    taken items less item place ascend lt here left =
        let same : item ≡ get_or items place item = sym here in
        let whole : items ≡ take place items ++ item ∷ drop (place + 1) items
        = sym (take-append-drop place items) ∙ ap (λ (l : List T). take place items ++ l) (drop_more_read items place item lt same) in
        subst (λ (l : List T). IsWithout cmp item items l) (sym left) (subst (λ (l : List T). IsWithout cmp item l (take place items ++ drop (place + 1) items)) (sym whole)
        (without (take place items) (drop (place + 1) items) item (subst (λ (l : List T). Ascends cmp l) whole ascend)))

    -- one that wasn't found is not there
    absent : (items : List T) (item : T) (place : ℕ) → Ascends cmp items → IsBinarySearchResult (λ y. cmp y item) items (Err place)
        → IsWithout cmp item items items
    absent items item place ascend gap = record {
      ascend = ascend;
      members = λ other. (
        λ at. (at, λ same. true≢false (sym (listed cmp total exact items item (Contains-same items other item same at)) ∙ not_found cmp total items ascend item place gap)),
        λ both. both.0,
      );
    }

    -- one that was found is there
    present : (items : List T) (item : T) (place : ℕ) → Ascends cmp items → place < length items → get_or items place item ≡ item
        → IsWith cmp item items items
    present items item place ascend lt here = record {
      ascend = ascend;
      members = λ other. (
        λ at. inl at,
        λ either. elim either [
          | inl at ↦ at
          | inr same ↦ Contains-same items item other (sym same) (place, lt, here)
        ],
      );
    }

    -- ---- the same of a slice that was searched
    module _ (items seen : List T) (is : seen ≡ items) (item : T) (place : ℕ) (ascend : Ascends cmp items) where
      module _ (lt : place < length seen) (equal : cmp (get_or seen place item) item ≡ Equal) where
        pub found_lt : place < length items
        found_lt = subst (λ (l : List T). place < length l) is lt

        pub found_here : get_or items place item ≡ item
        found_here = subst (λ (l : List T). get_or l place item ≡ item) is (exact (get_or seen place item) item equal)

        pub found_goes : (less : List T) → less ≡ take place items ++ drop (place + 1) items → IsWithout cmp item items less
        found_goes less left = taken items less item place ascend found_lt found_here left

        pub found_stays : IsWith cmp item items items
        found_stays = present items item place ascend found_lt found_here

      module _ (gap : IsBinarySearchResult (λ y. cmp y item) seen (Err place)) where
        pub gap_there : IsBinarySearchResult (λ y. cmp y item) items (Err place)
        gap_there = subst (λ (l : List T). IsBinarySearchResult (λ y. cmp y item) l (Err place)) is gap

        pub gap_stays : IsWithout cmp item items items
        gap_stays = absent items item place ascend gap_there

        pub gap_fills : (more : List T) (done : Bool) → more ≡ (if done then take place items ++ item ∷ drop place items else items) → done ≡ true
            → IsWith cmp item items more
        gap_fills more done more_are is_done =
            put items more item place ascend gap_there
            (more_are ∙ ap (λ (b : Bool). if b then take place items ++ item ∷ drop place items else items) is_done)

    -- ---- one after another
    pub without-none : (items : List T) → Ascends cmp items → AreWithout cmp [] items items
    without-none items ascend = record {
      ascend = ascend;
      members = λ item. (λ at. (at, λ goes. Contains-none item goes), λ both. both.0);
    }

    pub without-more : (gone : List T) (k : ℕ) (item : T) → k < length gone → item ≡ get_or gone k item → (items stayed less : List T)
        → AreWithout cmp (take k gone) items stayed → IsWithout cmp item stayed less → AreWithout cmp (take (k + 1) gone) items less
    without-more gone k item lt is items stayed less already next =
        let more = take_more_read gone k item lt is in
        subst (λ (l : List T). AreWithout cmp l items less) (sym more) (record {
          ascend = next.ascend;
          members = λ other. (
            λ at.
                let kept = (next.members other).0 at in
                let before = (already.members other).0 kept.0 in
                (before.0, λ goes. elim (Contains-push_cases (take k gone) item other goes) [ inl early ↦ before.1 early | inr same ↦ kept.1 (sym same) ]),
            λ both. (next.members other).1 (
              (already.members other).1 (both.0, λ goes. both.1 (Contains-append_left (take k gone) (item ∷ []) other goes)),
              λ same. both.1 (Contains-same (take k gone ++ item ∷ []) item other (sym same) (Contains-push (take k gone) item)),
            ),
          );
        })

    pub without-end : (gone items less : List T) (k : ℕ) → length gone ≤ k → AreWithout cmp (take k gone) items less → AreWithout cmp gone items less
    without-end gone items less k all already = subst (λ (l : List T). AreWithout cmp l items less) (take_all k gone all) already

    pub put-none : (items come : List T) → Ascends cmp items → IsPutting cmp items come items come
    put-none items come ascend = record { ascend = ascend; members = λ item. (λ either. either, λ either. either) }

    pub put-more : (items come put_ones left less more : List T) (item : T) → IsPutting cmp items come put_ones left → left ≡ less ++ item ∷ []
        → IsWith cmp item put_ones more → IsPutting cmp items come more less
    put-more items come put_ones left less more item already popped next = record {
      ascend = next.ascend;
      members = λ other. (
        λ either. elim ((already.members other).0 either) [
          | inl at ↦ inl ((next.members other).1 (inl at))
          | inr comes ↦ elim (Contains-push_cases less item other (subst (λ (l : List T). Contains l other) popped comes)) [
            | inl early ↦ inr early
            | inr same ↦ inl ((next.members other).1 (inr (sym same)))
          ]
        ],
        λ either. (already.members other).1 (elim either [
          | inl at ↦ elim ((next.members other).0 at) [
            | inl before ↦ inl before
            | inr same ↦ inr (subst (λ (l : List T). Contains l other) (sym popped) (Contains-same (less ++ item ∷ []) item other (sym same) (Contains-push less item)))
          ]
          | inr early ↦ inr (subst (λ (l : List T). Contains l other) (sym popped) (Contains-append_left less (item ∷ []) other early))
        ]),
      );
    }

    pub put-end : (items come after left : List T) → IsPutting cmp items come after left → length left ≡ 0 → AreJoined cmp items come after
    put-end items come after left already none = record {
      ascend = already.ascend;
      members = λ item. (
        λ at. (already.members item).1 (inl at),
        λ either. elim ((already.members item).0 either) [ inl at ↦ at | inr comes ↦ absurd (omega (arith, comes.1, none)) ],
      );
    }

-- all go in one pass, told by an order of their own
pub without-staying : {T : Type 0} (cmp listed : T → T → Ordering) → IsTotalOrder listed → IsExact listed → (gone items less : List T) → Ascends cmp items
    → less ≡ staying listed gone items → AreWithout cmp gone items less
without-staying {T} cmp listed total exact gone items less ascend is =
    subst (λ (l : List T). AreWithout cmp gone items l) (sym is) (record { ascend = staying-ascends cmp listed gone items ascend; members = stays listed total exact gone items })

-- ---- lists that are seen otherwise
pub ascend_seen : {T : Type 0} (cmp : T → T → Ordering) (items kept : List T) → items ≡ kept → Ascends cmp kept → Ascends cmp items
ascend_seen {T} cmp items kept is ascend = subst (λ (l : List T). Ascends cmp l) (sym is) ascend

pub new_seen : {T : Type 0} (items kept come : List T) → items ≡ kept → All (λ item. Contains kept item → ⊥) come → All (λ item. Contains items item → ⊥) come
new_seen {T} items kept come is new = subst (λ (l : List T). All (λ item. Contains l item → ⊥) come) (sym is) new

pub without_seen : {T : Type 0} (cmp : T → T → Ordering) (gone items kept after : List T) → items ≡ kept → AreWithout cmp gone items after → AreWithout cmp gone kept after
without_seen {T} cmp gone items kept after is less = subst (λ (l : List T). AreWithout cmp gone l after) is less

pub joined_seen : {T : Type 0} (cmp : T → T → Ordering) (items kept come after : List T) → items ≡ kept → AreJoined cmp items come after → AreJoined cmp kept come after
joined_seen {T} cmp items kept come after is joined = subst (λ (l : List T). AreJoined cmp l come after) is joined
