-- Changes leave some graph: the names, objects and edges then can be listed, and it can be told what is reached.
use Rattle.std.proofs.Common.{◌≡◌, ◌≢◌, ℕ, ◌+◌, ◌<◌, ◌≤◌, ◌⊎◌, inl, inr, ◌↔◌, List, [], ◌∷◌, ◌++◌, length, map, Less}
use Rattle.std.proofs.Common.{subst, refl, sym, ap, arith}
use Rattle.std.specs.List.{Contains}
use Rattle.std.proofs.lemmas.Bool.{cases_lt}
use Rattle.std.proofs.lemmas.List.Elements.{All-contains, All-weaker, All-contains_itself, Contains-append_left}
use Rattle.std.proofs.lemmas.List.Elements.{Contains-append_right, Contains-append_cases}
use Rattle.std.proofs.lemmas.List.Kept.{AllPairs-cons}
use Rattle.oem_changes.specs.Types.{Oid, Edge, Value, Changes}
use Rattle.lore_base.specs.Names.{IsNameTable}
use Rattle.lore_base.specs.Walks.{Walk, edge_cmp}
use Rattle.lore_base.specs.Databases.{OemGraph, Database, IsLive, IsOrdered, AreAscendingObjects}
use Rattle.lore_base.specs.ChangeSets.{IsBound, IsRenamed, NamesThen, ObjectsThen, AreEdgesThen, IsReachedThen}
use Rattle.lore_base.specs.ChangeSets.{AreNumberedFrom, FitsGraph, IsGraphAfter, IsAfter}
use Rattle.oem_changes.proofs.EdgeOrderLaws.{edges_ordered}
use Rattle.oem_changes.proofs.TableLaws.{IsNamedBefore, names_ordered, one_entry, table_from_AllPairs}
use Rattle.lore_base.proofs.ToldLaws.{IsTold, told_same, told_not, told_either, told_member, told_paired}
use Rattle.lore_base.proofs.ToldLaws.{told_bytes, told_edge, passing, members_passing, AllPairs-passing}
use Rattle.list_laws.proofs.AscentLaws.{IsEither, AllPairs-once, some_ordered, some_ordered_among}
use Rattle.list_laws.proofs.PairLaws.{AllPairs-nil}
use Rattle.list_laws.proofs.MemberLaws.{Contains-map, Contains-from_map}
use Rattle.oem_changes.proofs.RootedLaws.{told_live, numbered_within}
use Rattle.oem_changes.proofs.ClosureLaws.{IsWalkedTo, told_walked}

-- ---- edges then
pub some_between : (edges : List Edge) (changes : Changes) → (between : List Edge) × AreEdgesThen edges changes between
some_between edges changes =
    let stays = λ (edge : Edge). told_not (told_member told_edge changes.removed edge) in
    let kept = passing (λ edge. Contains changes.removed edge → ⊥) stays edges in
    let all = some_ordered (λ a b. edge_cmp a b ≡ Less) edges_ordered (changes.added ++ kept) in (
      all.0,
      record {
        ascend = all.1.ascend;
        exact = λ edge. (
          λ at. elim (Contains-append_cases changes.added kept edge (all.1.only edge at)) [
            | inl added ↦ inl added
            | inr left ↦ inr ((members_passing (λ edge. Contains changes.removed edge → ⊥) stays edges edge).0 left)
          ],
          λ then. all.1.kept edge (elim then [
            | inl added ↦ Contains-append_left changes.added kept edge added
            | inr left ↦ Contains-append_right changes.added kept edge
                ((members_passing (λ edge. Contains changes.removed edge → ⊥) stays edges edge).1 left)
          ]),
        );
      },
    )

-- ---- names then
told_renamed : (changes : Changes) (name : List ℕ) → IsTold (IsRenamed changes name)
told_renamed changes name = told_either (told_paired told_bytes changes.named name)
    (told_member told_bytes changes.unnamed name)

module _ (names : List (List ℕ × Oid)) (changes : Changes) (table : IsNameTable names)
    (named : IsNameTable changes.named) where
  -- a name has one object then
  pub one_entry_then : (a b : List ℕ × Oid) → NamesThen names changes a → NamesThen names changes b → a.0 ≡ b.0 → a ≡ b
  one_entry_then a b in_a in_b same = elim in_a [
    | inl new_a ↦ elim in_b [
      | inl new_b ↦ one_entry changes.named named a b new_a new_b same
      | inr old_b ↦ absurd (old_b.1 (inl (subst (IsBound changes.named) same (a.1, new_a))))
    ]
    | inr old_a ↦ elim in_b [
      | inl new_b ↦ absurd (old_a.1 (inl (subst (IsBound changes.named) (sym same) (b.1, new_b))))
      | inr old_b ↦ one_entry names table a b old_a.0 old_b.0 same
    ]
  ]

  stay_named : List (List ℕ × Oid)
  stay_named = passing (λ entry. IsRenamed changes entry.0 → ⊥) (λ entry. told_not (told_renamed changes entry.0)) names

  listed_then : (entry : List ℕ × Oid) → Contains (changes.named ++ stay_named) entry ↔ NamesThen names changes entry
  unfolding stay_named
  listed_then entry =
      let left = members_passing (λ (entry : List ℕ × Oid). IsRenamed changes entry.0 → ⊥)
      (λ entry. told_not (told_renamed changes entry.0)) names entry in (
        λ at. elim (Contains-append_cases changes.named stay_named entry at) [
          | inl new ↦ inl new
          | inr old ↦ inr
              (left.0 old)
        ],
        λ then. elim then [
          | inl new ↦ Contains-append_left changes.named stay_named entry new
          | inr old ↦ Contains-append_right changes.named stay_named entry (left.1 old)
        ],
      )

  either_then : (a b : List ℕ × Oid) → NamesThen names changes a → NamesThen names changes b
      → IsEither IsNamedBefore a b
  either_then a b in_a in_b = elim (names_ordered.either a.0 b.0) [
    | inl below ↦ inl below
    | inr others ↦ elim others [
      | inl same ↦ inr (inl (one_entry_then a b in_a in_b same))
      | inr above ↦ inr
          (inr above)
    ]
  ]

  pub some_names_then : (then : List (List ℕ × Oid)) × IsNameTable then
      × ((entry : List ℕ × Oid) → Contains then entry ↔ NamesThen names changes entry)
  some_names_then =
      let all = some_ordered_among IsNamedBefore (λ a b c. names_ordered.trans a.0 b.0 c.0)
      (changes.named ++ stay_named)
      (λ a b at_a at_b. either_then a b ((listed_then a).0 at_a) ((listed_then b).0 at_b)) in (
        all.0,
        table_from_AllPairs all.0 all.1.ascend,
        λ entry. (
          λ at. (listed_then entry).0 (all.1.only entry at),
          λ then. all.1.kept entry ((listed_then entry).1 then),
        ),
      )

  -- and it is told what is reached then
  pub told_reached : (between : List Edge) (oid : Oid) → IsTold (IsReachedThen names changes between oid)
  told_reached between oid =
      let then = some_names_then in
      let starts = map (λ (entry : List ℕ × Oid). entry.1) then.0 in
      told_same
      (λ (h : IsWalkedTo between starts oid).
      let from = Contains-from_map (λ (entry : List ℕ × Oid). entry.1) then.0 h.start h.starts_there in
      record {
        name = from.0.0;
        start = from.0.1;
        word = h.word;
        named = (then.2 from.0).0 from.1;
        walked = subst (λ (o : Oid). Walk between o h.word oid) (sym from.2) h.walked;
      })
      (λ h. record {
        start = h.start;
        word = h.word;
        starts_there = Contains-map (λ (entry : List ℕ × Oid). entry.1) then.0 (h.name, h.start)
            ((then.2 (h.name, h.start)).1 h.named);
        walked = h.walked;
      })
      (told_walked between starts oid)

-- ---- objects then
-- numbered objects ascend
pub numbered_ascend : (next : ℕ) (objects : List (Oid × Value)) → AreNumberedFrom next objects
    → AreAscendingObjects objects
numbered_ascend next [] numbered = AllPairs-nil (λ (a b : Oid × Value). a.0.0 < b.0.0)
numbered_ascend next (object ∷ others) numbered =
    AllPairs-cons (λ (a b : Oid × Value). a.0.0 < b.0.0) object others
    (All-weaker (Contains others) (λ (other : Oid × Value). object.0.0 < other.0.0)
    (λ other at.
    let within = numbered_within (next + 1) others numbered.1 other at in
    omega (arith, numbered.0, within.0))
    others (All-contains_itself others))
    (numbered_ascend (next + 1) others numbered.1)

-- in ascending objects a number has one value
pub one_object : (objects : List (Oid × Value)) → AreAscendingObjects objects → (a b : Oid × Value)
    → Contains objects a → Contains objects b → a.0 ≡ b.0 → a ≡ b
one_object objects ascend a b at_a at_b same =
    let number : a.0.0 ≡ b.0.0 = ap (λ (oid : Oid). oid.0) same in
    AllPairs-once (λ (a b : Oid × Value). a.0.0 < b.0.0) objects ascend a b at_a at_b
    (λ below. omega (arith, below, number)) (λ above. omega (arith, above, number))

module _ (before : OemGraph) (changes : Changes) (ordered : IsOrdered before) (fits : FitsGraph before changes) where
  -- what is made isn't live before
  made_new : (a : Oid × Value) (oid : Oid) → Contains changes.made a → IsLive before.objects oid → a.0 ≡ oid → ⊥
  made_new a oid made live same =
      let within = numbered_within before.next changes.made fits.numbered a made in
      let number : a.0.0 ≡ oid.0 = ap (λ (o : Oid). o.0) same in
      let old = All-contains (λ (o : Oid × Value). (1 ≤ o.0.0) × (o.0.0 < before.next)) before.objects
      (oid, live.0) ordered.objects_numbered live.1 in
      omega (arith, within.0, number, old.1)

  -- what isn't made is live before
  abbrev Stays : Oid × Value → Type 0
  Stays object = Contains changes.values object ⊎ (Contains before.objects object × (¬ IsLive changes.values object.0))

  stays_live : (object : Oid × Value) → Stays object → IsLive before.objects object.0
  stays_live object stays = elim stays [
    | inl valued ↦ All-contains
        (λ (o : Oid × Value). IsLive before.objects o.0) changes.values object fits.values_live valued
    | inr old ↦ (object.1, old.0)
  ]

  one_stays : (a b : Oid × Value) → Stays a → Stays b → a.0 ≡ b.0 → a ≡ b
  one_stays a b in_a in_b same = elim in_a [
    | inl new_a ↦ elim in_b [
      | inl new_b ↦ AllPairs-once (λ (a b : Oid × Value). a.0 ≢ b.0) changes.values fits.values_once a b new_a new_b
          (λ apart. apart same) (λ apart. apart (sym same))
      | inr old_b ↦ absurd (old_b.1 (subst (IsLive changes.values) same (a.1, new_a)))
    ]
    | inr old_a ↦ elim in_b [
      | inl new_b ↦ absurd (old_a.1 (subst (IsLive changes.values) (sym same) (b.1, new_b)))
      | inr old_b ↦ one_object before.objects ordered.objects_ascend a b old_a.0 old_b.0 same
    ]
  ]

  -- an object has one value then
  pub one_object_then : (a b : Oid × Value) → ObjectsThen before.objects changes a
      → ObjectsThen before.objects changes b → a.0 ≡ b.0 → a ≡ b
  one_object_then a b in_a in_b same = elim in_a [
    | inl made_a ↦ elim in_b [
      | inl made_b ↦ one_object changes.made
          (numbered_ascend before.next changes.made fits.numbered) a b made_a made_b same
      | inr stays_b ↦ absurd (made_new a b.0 made_a (stays_live b stays_b) same)
    ]
    | inr stays_a ↦ elim in_b [
      | inl made_b ↦ absurd (made_new b a.0 made_b (stays_live a stays_a) (sym same))
      | inr stays_b ↦ one_stays a b stays_a stays_b same
    ]
  ]

  either_object : (a b : Oid × Value) → ObjectsThen before.objects changes a → ObjectsThen before.objects changes b
      → IsEither (λ (a b : Oid × Value). a.0.0 < b.0.0) a b
  either_object a b in_a in_b = elim (cases_lt a.0.0 b.0.0) [
    | inl below ↦ inl below
    | inr not_below ↦ elim (cases_lt b.0.0 a.0.0) [
      | inl above ↦ inr (inr above)
      | inr not_above ↦ (
          let number : a.0.0 ≡ b.0.0 = omega (arith, not_below, not_above) in
          let same : a.0 ≡ b.0 = λ i. record { 0 = number i } in
          inr (inl (one_object_then a b in_a in_b same)))
    ]
  ]

  stay_valued : List (Oid × Value)
  stay_valued = passing (λ object. IsLive changes.values object.0 → ⊥)
      (λ object. told_not (told_live changes.values object.0)) before.objects

  listed_objects : (object : Oid × Value)
      → Contains (changes.made ++ (changes.values ++ stay_valued)) object ↔ ObjectsThen before.objects changes object
  unfolding stay_valued
  listed_objects object =
      let left = members_passing (λ (object : Oid × Value). IsLive changes.values object.0 → ⊥)
      (λ object. told_not (told_live changes.values object.0)) before.objects object in (
        λ at. elim (Contains-append_cases changes.made (changes.values ++ stay_valued) object at) [
          | inl made ↦ inl made
          | inr stays ↦ elim (Contains-append_cases changes.values stay_valued object stays) [
            | inl valued ↦ inr
                (inl valued)
            | inr old ↦ inr (inr (left.0 old))
          ]
        ],
        λ then. elim then [
          | inl made ↦ Contains-append_left changes.made (changes.values ++ stay_valued) object made
          | inr stays ↦ Contains-append_right changes.made (changes.values ++ stay_valued) object (elim stays [
            | inl valued ↦ Contains-append_left changes.values stay_valued object valued
            | inr old ↦ Contains-append_right changes.values stay_valued object (left.1 old)
          ])
        ],
      )

  pub some_objects_then : (then : List (Oid × Value)) × AreAscendingObjects then
      × ((object : Oid × Value) → Contains then object ↔ ObjectsThen before.objects changes object)
  some_objects_then =
      let all = some_ordered_among (λ (a b : Oid × Value). a.0.0 < b.0.0)
      (λ a b c below above. omega (arith, below, above))
      (changes.made ++ (changes.values ++ stay_valued))
      (λ a b at_a at_b. either_object a b ((listed_objects a).0 at_a) ((listed_objects b).0 at_b)) in (
        all.0,
        all.1.ascend,
        λ object. (
          λ at. (listed_objects object).0 (all.1.only object at),
          λ then. all.1.kept object ((listed_objects object).1 then),
        ),
      )

  -- ---- the graph after
  pub some_after : (after : OemGraph) × IsGraphAfter before changes after
  some_after =
      let names = some_names_then before.names changes ordered.names_ascend fits.named_ascend in
      let between = some_between before.edges changes in
      let reached = told_reached before.names changes ordered.names_ascend fits.named_ascend between.0 in
      let objects = some_objects_then in
      let Stands = λ (object : Oid × Value). IsReachedThen before.names changes between.0 object.0 in
      let Leaves = λ (edge : Edge). IsReachedThen before.names changes between.0 edge.parent in (
        record {
          names = names.0;
          objects = passing Stands (λ object. reached object.0) objects.0;
          edges = passing Leaves (λ edge. reached edge.parent) between.0;
          next = before.next + length changes.made;
        },
        record {
          between = between.0;
          linked = between.1;
          names_ascend = names.1;
          names = names.2;
          objects_ascend = AllPairs-passing Stands (λ object. reached object.0)
              (λ (a b : Oid × Value). a.0.0 < b.0.0) objects.0 objects.1;
          objects = λ object. (
            λ at. let left = (members_passing Stands (λ object. reached object.0) objects.0 object).0 at in
                ((objects.2 object).0 left.0, left.1),
            λ left. (members_passing Stands (λ object. reached object.0) objects.0 object).1
                ((objects.2 object).1 left.0, left.1),
          );
          edges_ascend = AllPairs-passing Leaves (λ edge. reached edge.parent)
              (λ (a b : Edge). edge_cmp a b ≡ Less) between.0 between.1.ascend;
          edges = members_passing Leaves (λ edge. reached edge.parent) between.0;
          next = refl;
        },
      )

-- ---- the database after
pub some_database_after : (before : Database) (changes : Changes) → IsOrdered before.graph
    → FitsGraph before.graph changes
    → (after : Database) × IsAfter before changes after
some_database_after before changes ordered fits =
    let graph = some_after before.graph changes ordered fits in (
      record {
        labels = before.labels ++ changes.labels;
        graph = graph.0;
        nodes = before.nodes;
        mode = before.mode;
      },
      record { labels = refl; graph = graph.1; nodes = refl; mode = refl },
    )
