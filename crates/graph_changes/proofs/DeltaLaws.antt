-- What differs between a graph and the one that a plan leads to.
use Rattle.std.proofs.Common.{◌≡◌, ◌⊎◌, ◌↔◌, ℕ, ◌+◌, ◌-◌, ◌<◌, Bool, true, false, cond, nat_eq, nat_cmp, Less, Equal, Greater, Option, Some, None, List, [], ◌∷◌, ◌++◌, length, get_or, take, drop, map, All, AllPairs, Contains, refl, sym, ap, ◌∙◌, inl, inr, subst, arith}
use Rattle.std.specs.declared.cmp.Ordering.{Ordering}
use Rattle.std.specs.BTreeMap.{insert_entry, is_at}
use Rattle.std.specs.Map.{keys_of}
use Rattle.std.specs.Ordering.{is_eq}
use Rattle.std.specs.List.Sorted.{IsStrictlySortedBy}
use Rattle.std.proofs.lemmas.Bool.{true≢false}
use Rattle.std.proofs.lemmas.Bool.Decides.{nat_tests}
use Rattle.std.proofs.lemmas.Cmp.{nat_list_cmp_total, eq_by_cmp_equiv}
use Rattle.std.proofs.lemmas.List.{take_more, take-append-drop, length_push, get_or_append_left, get_or-append_right, get_or-map, length-map}
use Rattle.std.proofs.lemmas.List.Elements.{Contains-get_or, Contains-append_cases, Contains-append_left, Contains-append_right, All-contains}
use Rattle.std.proofs.lemmas.Map.Lookups.{exact_bytes}
use Rattle.near_links.proofs.AheadLaws.{some_same, none_some}
use Rattle.lore_base.specs.Bytes.{bytes_cmp}
use Rattle.lore_base.specs.Names.{object_of, IsNameTable}
use Rattle.lore_base.specs.Databases.{AreAscendingObjects, IsLive}
use Rattle.lore_base.specs.Deltas.{ListsOnlyIn}
use Rattle.lore_base.proofs.ListLaws.{AllPairs-append, AllPairs-unique}
use Rattle.lore_base.proofs.MemberLaws.{Contains-none, Contains-head, Contains-cases, Contains-same}
use Rattle.lore_base.proofs.NameLaws.{sorted-insert_entry, bound_found, found_bound, lookup-insert_entry}
use Rattle.graph_changes.specs.Types.{Oid, Edge, Value}
use Rattle.graph_changes.specs.Puts.{with_objects, put_edges}
use Rattle.edge_layers.specs.EdgeTests.{is_listed}
use Rattle.edge_layers.specs.Layers.{staying}
use Rattle.edge_layers.proofs.LayerLaws.{members-staying}
use Rattle.graph_changes.proofs.PutLaws.{members-put_edges}
use Rattle.edge_layers.proofs.SearchLaws.{listed, unlisted}
use Rattle.graph_changes.specs.Left.{AreAscendingOids, is_among, not_dead}
use Rattle.index_traits.proofs.ObjectLaws.{one_value_of, told_live}
use Rattle.list_laws.proofs.MemberLaws.{Contains-map, Contains-from_map}
use Rattle.list_laws.proofs.PairLaws.{AllPairs-front}
use Rattle.list_laws.proofs.OrderLaws.{less_from_cmp}
use Rattle.graph_changes.proofs.GivenLaws.{members-with_objects, ascend-with_objects}
use Rattle.graph_changes.proofs.GoneLaws.{below_at}
use Rattle.graph_changes.proofs.LeftLaws.{members-not_dead, ascend-not_dead, among, among-back}
use Rattle.graph_changes.specs.inside.OneMore.{is_that, with_only, IsPutUnlessThere, IsPutWhereThere, AreValuesOf}
use Rattle.graph_changes.specs.Differing.{AreOnlyIn, AreDiffering, AreGoneObjects}

-- ---- names
is_equal : (o : Ordering) → is_eq o ≡ true → o ≡ Equal
is_equal Less h = absurd (true≢false (sym h))
is_equal Equal h = refl
is_equal Greater h = absurd (true≢false (sym h))

same_name : (name other : List ℕ) → is_at (bytes_cmp name) other ≡ true → name ≡ other
same_name name other h = exact_bytes name other (is_equal (bytes_cmp name other) h)

self_name : (name : List ℕ) → is_at (bytes_cmp name) name ≡ true
self_name name = (eq_by_cmp_equiv nat_list_cmp_total).refl name

told_that : (told : Option Oid) (oid : Oid) → is_that told oid ≡ true → told ≡ Some oid
told_that None oid h = absurd (true≢false (sym h))
told_that (Some told) oid h = (let number : told.0 ≡ oid.0 = grind (arith, nat_tests) in ap (λ (n : ℕ). Some (record { 0 = n })) number)

that_told : (told : Option Oid) (oid : Oid) → told ≡ Some oid → is_that told oid ≡ true
that_told None oid is = absurd (none_some is)
that_told (Some told) oid is = (let number : told.0 ≡ oid.0 = ap (λ (o : Oid). o.0) (some_same is) in grind (arith, nat_tests))

-- a name of several is the last one or an earlier one
in_more : {X : Type 0} (xs : List X) (i : ℕ) (d : X) → i < length xs → (x : X) → Contains (take i xs) x ⊎ (get_or xs i d ≡ x) → Contains (take (i + 1) xs) x
in_more {X} xs i d lt x either = subst (λ (l : List X). Contains l x) (sym (take_more xs i d lt)) (elim either [
  | inl earlier ↦ Contains-append_left (take i xs) (get_or xs i d ∷ []) x earlier
  | inr now ↦ Contains-append_right (take i xs) (get_or xs i d ∷ []) x (Contains-same (get_or xs i d ∷ []) (get_or xs i d) x now (Contains-head (get_or xs i d) []))
])

of_more : {X : Type 0} (xs : List X) (i : ℕ) (d : X) → i < length xs → (x : X) → Contains (take (i + 1) xs) x → Contains (take i xs) x ⊎ (get_or xs i d ≡ x)
of_more {X} xs i d lt x at = elim (Contains-append_cases (take i xs) (get_or xs i d ∷ []) x (subst (λ (l : List X). Contains l x) (take_more xs i d lt) at)) [
  | inl earlier ↦ inl earlier
  | inr last ↦ elim (Contains-cases (get_or xs i d) [] x last) [ inl same ↦ inr same | inr none ↦ absurd (Contains-none x none) ]
]

pub only-none : (others : List (List ℕ × Oid)) → AreOnlyIn [] others []
unfolding IsStrictlySortedBy
only-none others = record { table = tt; exact = λ entry. (λ at. absurd (Contains-none entry at), λ both. absurd (Contains-none entry both.0)) }

pub only-more : (names others : List (List ℕ × Oid)) → IsNameTable names → IsNameTable others → (i : ℕ) (d : List ℕ × Oid) → i < length names → (only new : List (List ℕ × Oid))
    → AreOnlyIn (take i names) others only → new ≡ with_only others only (get_or names i d) → AreOnlyIn (take (i + 1) names) others new
only-more names others table others_table i d lt only new so_far is =
    subst (AreOnlyIn (take (i + 1) names) others) (sym is)
    (elim (is_that (object_of others entry.0) entry.1) as (λ b. is_that (object_of others entry.0) entry.1 ≡ b → AreOnlyIn (take (i + 1) names) others (cond b only put)) [
      | true ↦ λ bound. record {
        table = so_far.table;
        exact = λ e. (
          λ at. (let both = (so_far.exact e).0 at in (in_more names i d lt e (inl both.0), both.1)),
          λ both. elim (of_more names i d lt e both.0) [
            | inl earlier ↦ (so_far.exact e).1 (earlier, both.1)
            | inr now ↦ absurd (both.1 (subst (λ (x : List ℕ × Oid). Contains others x) now (found_bound others entry.0 entry.1 (told_that (object_of others entry.0) entry.1 bound))))
          ],
        );
      }
      | false ↦ λ free. record {
        table = put_table;
        exact = λ e. (λ at. put_is free e (bound_found put e.0 e.1 put_table at), λ both. is_put e both.0 both.1);
      }
    ] refl)
  where
    entry : List ℕ × Oid
    entry = get_or names i d

    put : List (List ℕ × Oid)
    put = insert_entry bytes_cmp only entry.0 entry.1

    put_table : IsNameTable put
    put_table = sorted-insert_entry nat_list_cmp_total only entry.0 entry.1 so_far.table

    at_name : Bool → List ℕ → Option Oid
    at_name b name = cond b (Some entry.1) (object_of only name)

    looked : (name : List ℕ) → object_of put name ≡ at_name (is_at (bytes_cmp name) entry.0) name
    looked name = lookup-insert_entry nat_list_cmp_total only entry.0 entry.1 name

    not_bound : is_that (object_of others entry.0) entry.1 ≡ false → Contains others entry → ⊥
    not_bound free at = true≢false (sym (that_told (object_of others entry.0) entry.1 (bound_found others entry.0 entry.1 others_table at)) ∙ free)

    put_is : is_that (object_of others entry.0) entry.1 ≡ false → (e : List ℕ × Oid) → object_of put e.0 ≡ Some e.1 → Contains (take (i + 1) names) e × (Contains others e → ⊥)
    put_is free e told = elim (is_at (bytes_cmp e.0) entry.0) as (λ b. is_at (bytes_cmp e.0) entry.0 ≡ b → at_name b e.0 ≡ Some e.1 → Contains (take (i + 1) names) e × (Contains others e → ⊥)) [
      | true ↦ λ here same.
          let name : entry.0 ≡ e.0 = sym (same_name e.0 entry.0 here) in
          let oid : entry.1 ≡ e.1 = some_same same in
          let is_e : ◌≡◌ {A = List ℕ × Oid} entry e = λ k. (name k, oid k) in
          (in_more names i d lt e (inr is_e), λ at. not_bound free (subst (λ (x : List ℕ × Oid). Contains others x) (sym is_e) at))
      | false ↦ λ apart old. (let both = (so_far.exact e).0 (found_bound only e.0 e.1 old) in (in_more names i d lt e (inl both.0), both.1))
    ] refl (sym (looked e.0) ∙ told)

    is_put : (e : List ℕ × Oid) → Contains (take (i + 1) names) e → (Contains others e → ⊥) → Contains put e
    is_put e at none = elim (of_more names i d lt e at) [
      | inr now ↦ subst (λ (x : List ℕ × Oid). Contains put x) now
          (found_bound put entry.0 entry.1 (looked entry.0 ∙ ap (λ (b : Bool). at_name b entry.0) (self_name entry.0)))
      | inl earlier ↦
          let old : object_of only e.0 ≡ Some e.1 = bound_found only e.0 e.1 so_far.table ((so_far.exact e).1 (earlier, none)) in
          elim (is_at (bytes_cmp e.0) entry.0) as (λ b. is_at (bytes_cmp e.0) entry.0 ≡ b → Contains put e) [
            | true ↦ λ here.
                let name : e.0 ≡ entry.0 = same_name e.0 entry.0 here in
                let there : Contains names e = widen earlier in
                let first : object_of names e.0 ≡ Some e.1 = bound_found names e.0 e.1 table there in
                let second : object_of names entry.0 ≡ Some entry.1 = bound_found names entry.0 entry.1 table (Contains-get_or names i d lt) in
                let oid : entry.1 ≡ e.1 = some_same (sym second ∙ ap (object_of names) (sym name) ∙ first) in
                found_bound put e.0 e.1 (looked e.0 ∙ ap (λ (b : Bool). at_name b e.0) here ∙ ap Some oid)
            | false ↦ λ apart. found_bound put e.0 e.1 (looked e.0 ∙ ap (λ (b : Bool). at_name b e.0) apart ∙ old)
          ] refl
    ]
      where
        widen : Contains (take i names) e → Contains names e
        widen here = subst (λ (l : List (List ℕ × Oid)). Contains l e) (take-append-drop i names) (Contains-append_left (take i names) (drop i names) e here)

-- the same, where the names are told by their texts and their objects
pub only-step : (names others : List (List ℕ × Oid)) → IsNameTable names → IsNameTable others → (texts : List (List ℕ)) (oids : List Oid) → texts ≡ keys_of names
    → oids ≡ map (λ (entry : List ℕ × Oid). entry.1) names → (i : ℕ) → i < length texts → (text : List ℕ) → text ≡ get_or texts i text → (e : Oid) → (only new : List (List ℕ × Oid))
    → AreOnlyIn (take i names) others only → new ≡ with_only others only (text, get_or oids i e) → AreOnlyIn (take (i + 1) names) others new
only-step names others table others_table texts oids texts_are oids_are i lt text text_is e only new so_far is =
    only-more names others table others_table i d lt_names only new so_far (is ∙ ap (with_only others only) same)
  where
    d : List ℕ × Oid
    d = (text, e)

    lt_names : i < length names
    lt_names = omega (arith, lt, ap length texts_are, length-map names (λ (entry : List ℕ × Oid). entry.0))

    first : text ≡ (get_or names i d).0
    first = text_is ∙ ap (λ (l : List (List ℕ)). get_or l i text) texts_are ∙ get_or-map (λ (entry : List ℕ × Oid). entry.0) names i d text lt_names

    second : get_or oids i e ≡ (get_or names i d).1
    second = ap (λ (l : List Oid). get_or l i e) oids_are ∙ get_or-map (λ (entry : List ℕ × Oid). entry.1) names i d e lt_names

    same : ◌≡◌ {A = List ℕ × Oid} (text, get_or oids i e) (get_or names i d)
    same = λ k. (first k, second k)

-- ---- given values
pub differing-none : (old : List (Oid × Value)) → AreDiffering old [] []
differing-none old = record {
  ascend = λ up. up;
  exact = λ o at. absurd (Contains-none o at);
  either = λ o at. absurd (Contains-none o at);
}

pub differing-old : (old given come : List (Oid × Value)) (last : Oid × Value) → AreDiffering old given come → Contains old last → AreDiffering old (given ++ last ∷ []) come
differing-old old given come last so_far there = record {
  ascend = λ up. so_far.ascend (AllPairs-front (λ (a b : Oid × Value). a.0.0 < b.0.0) given (last ∷ []) up);
  exact = λ o at. (let both = so_far.exact o at in (Contains-append_left given (last ∷ []) o both.0, both.1));
  either = λ o at. elim (Contains-append_cases given (last ∷ []) o at) [
    | inl earlier ↦ so_far.either o earlier
    | inr now ↦ inr (elim (Contains-cases last [] o now) [ inl same ↦ Contains-same old last o same there | inr none ↦ absurd (Contains-none o none) ])
  ];
}

pub differing-new : (old given come : List (Oid × Value)) (last : Oid × Value) → AreDiffering old given come → (Contains old last → ⊥) → AreDiffering old (given ++ last ∷ []) (come ++ last ∷ [])
differing-new old given come last so_far new = record {
  ascend = λ up. AllPairs-append (λ (a b : Oid × Value). a.0.0 < b.0.0) come (last ∷ [])
      (so_far.ascend (AllPairs-front (λ (a b : Oid × Value). a.0.0 < b.0.0) given (last ∷ []) up))
      (λ i j d lt len. absurd (omega (arith, len)))
      (λ i j d lt_i lt_j.
      let at = (so_far.exact (get_or come i d) (Contains-get_or come i d lt_i)).0 in
      let here : j ≡ 0 = omega (arith, lt_j) in
      let above = above_front given last up (get_or come i d) at in
      rw here above);
  exact = λ o at. elim (Contains-append_cases come (last ∷ []) o at) [
    | inl earlier ↦ (let both = so_far.exact o earlier in (Contains-append_left given (last ∷ []) o both.0, both.1))
    | inr now ↦ elim (Contains-cases last [] o now) [
      | inl same ↦ (Contains-append_right given (last ∷ []) o now, λ there. new (Contains-same old o last (sym same) there))
      | inr none ↦ absurd (Contains-none o none)
    ]
  ];
  either = λ o at. elim (Contains-append_cases given (last ∷ []) o at) [
    | inl earlier ↦ elim (so_far.either o earlier) [ inl comes ↦ inl (Contains-append_left come (last ∷ []) o comes) | inr there ↦ inr there ]
    | inr now ↦ inl (Contains-append_right come (last ∷ []) o now)
  ];
}
  where
    above_front : (xs : List (Oid × Value)) (x : Oid × Value) → AreAscendingObjects (xs ++ x ∷ []) → (o : Oid × Value) → Contains xs o → o.0.0 < x.0.0
    above_front xs x up o at =
        let first = get_or_append_left xs (x ∷ []) o at.0 at.1 in
        let second = get_or-append_right xs (x ∷ []) (length xs) (length xs) o refl (omega arith) in
        let zero_is : length xs - length xs ≡ 0 = omega arith in
        omega (arith, up at.0 (length xs) o at.1 (omega (arith, length_push xs x)), ap (λ (y : Oid × Value). y.0.0) (first ∙ at.2), ap (λ (y : Oid × Value). y.0.0) (second ∙ ap (λ n. get_or (x ∷ []) n o) zero_is))

pub differing-more : (old given come new : List (Oid × Value)) (last : Oid × Value) → AreDiffering old given come → IsPutUnlessThere old last come new → AreDiffering old (given ++ last ∷ []) new
differing-more old given come new last so_far either = elim either [
  | inl there ↦ subst (AreDiffering old (given ++ last ∷ [])) (sym there.1) (differing-old old given come last so_far there.0)
  | inr absent ↦ subst (AreDiffering old (given ++ last ∷ [])) (sym absent.1) (differing-new old given come last so_far absent.0)
]

-- ---- values of objects that go
pub values-none : (old : List (Oid × Value)) → AreValuesOf old [] []
values-none old = record {
  ascend = λ i j d lt len. absurd (omega (arith, len));
  exact = λ o. (λ at. absurd (Contains-none o at), λ both. absurd (Contains-none o.0 both.1));
}

-- an object that isn't there adds nothing
pub values-same : (old : List (Oid × Value)) (oids : List Oid) (i : ℕ) (d : Oid) → i < length oids → (values : List (Oid × Value)) → AreValuesOf old (take i oids) values
    → (¬ IsLive old (get_or oids i d)) → AreValuesOf old (take (i + 1) oids) values
values-same old oids i d lt values so_far none = record {
  ascend = so_far.ascend;
  exact = λ o. (
    λ at. (let both = (so_far.exact o).0 at in (both.0, in_more oids i d lt o.0 (inl both.1))),
    λ both. elim (of_more oids i d lt o.0 both.1) [
      | inl earlier ↦ (so_far.exact o).1 (both.0, earlier)
      | inr now ↦ absurd (none (o.1, subst (λ (x : Oid). Contains old (x, o.1)) (sym now) both.0))
    ],
  );
}

-- one that is there adds its value
pub values-more : (old : List (Oid × Value)) (oids : List Oid) → AreAscendingObjects old → AreAscendingOids oids → (i : ℕ) (d : Oid) → i < length oids → (values new : List (Oid × Value))
    → AreValuesOf old (take i oids) values → (value : Value) → Contains old (get_or oids i d, value) → new ≡ values ++ (get_or oids i d, value) ∷ [] → AreValuesOf old (take (i + 1) oids) new
values-more old oids ascend rise i d lt values new so_far value there is = subst (AreValuesOf old (take (i + 1) oids)) (sym is) (record {
  ascend = AllPairs-append (λ (a b : Oid × Value). a.0.0 < b.0.0) values (last ∷ []) so_far.ascend (λ j k e lt_j len. absurd (omega (arith, len)))
      (λ j k e lt_j lt_k.
      let at = ((so_far.exact (get_or values j e)).0 (Contains-get_or values j e lt_j)).1 in
      let here : k ≡ 0 = omega (arith, lt_k) in
      let below = below_at oids rise i d lt (get_or values j e).0 at in
      rw here below);
  exact = λ o. (
    λ at. elim (Contains-append_cases values (last ∷ []) o at) [
      | inl earlier ↦ (let both = (so_far.exact o).0 earlier in (both.0, in_more oids i d lt o.0 (inl both.1)))
      | inr now ↦ elim (Contains-cases last [] o now) [
        | inl same ↦ (Contains-same old last o same there, in_more oids i d lt o.0 (inr (ap (λ (x : Oid × Value). x.0) same)))
        | inr none ↦ absurd (Contains-none o none)
      ]
    ],
    λ both. elim (of_more oids i d lt o.0 both.1) [
      | inl earlier ↦ Contains-append_left values (last ∷ []) o ((so_far.exact o).1 (both.0, earlier))
      | inr now ↦
          let one : value ≡ o.1 = one_value_of old ascend (get_or oids i d) value o.1 there (subst (λ (x : Oid). Contains old (x, o.1)) (sym now) both.0) in
          let same : ◌≡◌ {A = Oid × Value} last o = λ k. (now k, one k) in
          Contains-append_right values (last ∷ []) o (Contains-same (last ∷ []) last o same (Contains-head last []))
    ],
  );
})
  where
    last : Oid × Value
    last = (get_or oids i d, value)

pub values-step : (old : List (Oid × Value)) (oids : List Oid) → AreAscendingObjects old → AreAscendingOids oids → (i : ℕ) (d : Oid) → i < length oids → (values new : List (Oid × Value))
    → AreValuesOf old (take i oids) values → IsPutWhereThere old (get_or oids i d) values new → AreValuesOf old (take (i + 1) oids) new
values-step old oids ascend rise i d lt values new so_far either = elim either [
  | inl there ↦ values-more old oids ascend rise i d lt values new so_far there.0 there.1 there.2
  | inr absent ↦ subst (AreValuesOf old (take (i + 1) oids)) (sym absent.1) (values-same old oids i d lt values so_far absent.0)
]

pub oids-rise : (oids : List Oid) → AllPairs (λ (a b : Oid). nat_cmp a.0 b.0 ≡ Less) oids → AreAscendingOids oids
oids-rise oids rise i j d lt len = less_from_cmp (get_or oids i d).0 (get_or oids j d).0 (rise i j d lt len)

pub same_number : (a b : Oid) → nat_eq a.0 b.0 ≡ true → a ≡ b
same_number a b h = (let number : a.0 ≡ b.0 = grind (arith, nat_tests) in ap (λ (n : ℕ). record { 0 = n }) number)

-- the dead and those that come with others
pub gone-objects : (old : List (Oid × Value)) (dead : List Oid) (come gone : List (Oid × Value)) (listed sorted : List Oid) → listed ≡ dead ++ map (λ (o : Oid × Value). o.0) come
    → ((oid : Oid) → Contains sorted oid ↔ Contains listed oid) → AreValuesOf old sorted gone → AreGoneObjects old dead come gone
gone-objects old dead come gone listed sorted is members values = record {
  ascend = values.ascend;
  exact = λ o. (
    λ at.
        let both = (values.exact o).0 at in (
          both.0,
          elim (Contains-append_cases dead (map (λ (x : Oid × Value). x.0) come) o.0 (subst (λ (l : List Oid). Contains l o.0) is ((members o.0).0 both.1))) [
            | inl dies ↦ inl dies
            | inr comes ↦ (let from = Contains-from_map (λ (x : Oid × Value). x.0) come o.0 comes in inr (from.0.1, subst (λ (x : Oid). Contains come (x, from.0.1)) from.2 from.1))
          ],
        ),
    λ both. (values.exact o).1 (
      both.0,
      (members o.0).1 (subst (λ (l : List Oid). Contains l o.0) (sym is) (elim both.1 [
        | inl dies ↦ Contains-append_left dead (map (λ (x : Oid × Value). x.0) come) o.0 dies
        | inr comes ↦ Contains-append_right dead (map (λ (x : Oid × Value). x.0) come) o.0 (Contains-map (λ (x : Oid × Value). x.0) come (o.0, comes.0) comes.1)
      ])),
    ),
  );
}

-- ---- the graph that a plan leads to, and what differs in it
module _ (old : List (Oid × Value)) (dead : List Oid) (given come : List (Oid × Value)) (ascend : AreAscendingObjects old) (ordered : AreAscendingObjects given)
    (lives : All (λ object. ¬ Contains dead object.0) given) (differ : AreDiffering old given come) where
  come_ordered : AreAscendingObjects come
  come_ordered = differ.ascend ordered

  abbrev left : List (Oid × Value)
  left = not_dead dead old

  left_ascends : AreAscendingObjects left
  left_ascends = ascend-not_dead dead old ascend

  -- one value of each object that is given
  one_given : (o : Oid × Value) → Contains given o → (v : Value) → Contains given (o.0, v) → v ≡ o.1
  one_given o at v there = one_value_of given ordered o.0 v o.1 there at

  one_old : (o : Oid × Value) → Contains old o → (v : Value) → Contains old (o.0, v) → v ≡ o.1
  one_old o at v there = one_value_of old ascend o.0 v o.1 there at

  same_pair : (o : Oid × Value) (v : Value) → v ≡ o.1 → ◌≡◌ {A = Oid × Value} (o.0, v) o
  same_pair o v is = ap (λ (x : Value). (o.0, x)) is

  -- given values that objects have already change nothing
  pub same-objects : with_objects (not_dead dead old) given ≡ with_objects (not_dead dead old) come
  same-objects = AllPairs-unique (λ (a b : Oid × Value). a.0.0 < b.0.0) (λ a b less more. omega (arith, less, more))
      (with_objects left given) (with_objects left come) (ascend-with_objects left given left_ascends) (ascend-with_objects left come left_ascends)
      (λ o. (
        λ at. (members-with_objects left come left_ascends come_ordered o).1 (elim ((members-with_objects left given left_ascends ordered o).0 at) [
          | inl new ↦ elim (differ.either o new) [
            | inl comes ↦ inl comes
            | inr there ↦ inr (
              (members-not_dead dead old o).1 (there, All-contains (λ (x : Oid × Value). ¬ Contains dead x.0) given o lives new),
              λ live.
                  let both = differ.exact (o.0, live.0) live.1 in
                  both.1 (subst (λ (x : Oid × Value). Contains old x) (sym (same_pair o live.0 (one_given o new live.0 both.0))) there),
            )
          ]
          | inr stays ↦ inr (stays.0, λ live. stays.1 (live.0, (differ.exact (o.0, live.0) live.1).0))
        ]),
        λ at. (members-with_objects left given left_ascends ordered o).1 (elim ((members-with_objects left come left_ascends come_ordered o).0 at) [
          | inl new ↦ inl (differ.exact o new).0
          | inr stays ↦ elim (told_live given o.0) [
            | inl live ↦ elim (differ.either (o.0, live.0) live.1) [
              | inl comes ↦ absurd (stays.1 (live.0, comes))
              | inr there ↦
                  let here = ((members-not_dead dead old o).0 stays.0).0 in
                  inl (subst (λ (x : Oid × Value). Contains given x) (same_pair o live.0 (one_old o here live.0 there)) live.1)
            ]
            | inr none ↦ inr (stays.0, none)
          ]
        ]),
      ))

  module _ (gone : List (Oid × Value)) (goes : AreGoneObjects old dead come gone) where
    pub objects-gone : ListsOnlyIn gone old (with_objects (not_dead dead old) come)
    objects-gone o = (
      λ at.
          let both = (goes.exact o).0 at in (
            both.0,
            λ after. elim ((members-with_objects left come left_ascends come_ordered o).0 after) [
              | inl comes ↦ (differ.exact o comes).1 both.0
              | inr stays ↦ elim both.1 [
                | inl dies ↦ ((members-not_dead dead old o).0 stays.0).1 dies
                | inr comes ↦ stays.1 comes
              ]
            ],
          ),
      λ only. (goes.exact o).1 (
        only.0,
        elim (told_live come o.0) [
          | inl comes ↦ inr comes
          | inr none ↦ inl (elim (is_among dead o.0) as (λ b. is_among dead o.0 ≡ b → Contains dead o.0) [
            | true ↦ λ dies. among-back dead o.0 dies
            | false ↦ λ stays. absurd (only.1 ((members-with_objects left come left_ascends come_ordered o).1 (inr (
              (members-not_dead dead old o).1 (only.0, λ dies. true≢false (sym (among dead o.0 dies) ∙ stays)),
              none,
            ))))
          ] refl)
        ],
      ),
    )

    pub objects-come : ListsOnlyIn come (with_objects (not_dead dead old) come) old
    objects-come o = (
      λ at. ((members-with_objects left come left_ascends come_ordered o).1 (inl at), (differ.exact o at).1),
      λ only. elim ((members-with_objects left come left_ascends come_ordered o).0 only.0) [
        | inl comes ↦ comes
        | inr stays ↦ absurd (only.1 ((members-not_dead dead old o).0 stays.0).0)
      ],
    )

-- edges that go where they are there, and new ones that come
pub edges-gone : (kept gone come : List Edge) → ((edge : Edge) → Contains gone edge → Contains kept edge) → All (λ edge. ¬ Contains gone edge) come
    → ListsOnlyIn gone kept (put_edges (staying gone kept) come)
edges-gone kept gone come there apart edge = (
  λ at. (
    there edge at,
    λ after. elim ((members-put_edges (staying gone kept) come edge).0 after) [
      | inl stays ↦ ((members-staying gone kept edge).0 stays).1 at
      | inr comes ↦ All-contains (λ (e : Edge). ¬ Contains gone e) come edge apart comes at
    ],
  ),
  λ only. elim (is_listed gone edge) as (λ b. is_listed gone edge ≡ b → Contains gone edge) [
    | true ↦ λ yes. unlisted gone edge yes
    | false ↦ λ no. absurd (only.1 ((members-put_edges (staying gone kept) come edge).1 (inl ((members-staying gone kept edge).1
        (only.0, λ goes. true≢false (sym (listed gone edge goes) ∙ no))))))
  ] refl,
)

pub edges-come : (kept gone come : List Edge) → ((edge : Edge) → Contains come edge → Contains kept edge → ⊥) → ListsOnlyIn come (put_edges (staying gone kept) come) kept
edges-come kept gone come new edge = (
  λ at. ((members-put_edges (staying gone kept) come edge).1 (inr at), new edge at),
  λ only. elim ((members-put_edges (staying gone kept) come edge).0 only.0) [
    | inl stays ↦ absurd (only.1 ((members-staying gone kept edge).0 stays).0)
    | inr comes ↦ comes
  ],
)
