-- Views of a database: what is found of them once views are put, taken away and turned.
use Rattle.std.proofs.Common.{◌≡◌, ◌⊎◌, ℕ, inl, inr, Bool, true, false, true≢false, cond, List, [], ◌∷◌, Option, Some, None, is_some, Less, Equal, Greater, refl, sym, ap, subst, ◌∙◌}
use Rattle.std.specs.Prelude.{◌↔◌, map, length}
use Rattle.std.specs.List.{Contains, filter}
use Rattle.std.specs.List.Sorted.{IsStrictlySortedBy}
use Rattle.std.specs.Cmp.{IsEquivalence}
use Rattle.std.specs.Map.{keys_of, lookup, remove_entry}
use Rattle.std.specs.BTreeMap.{insert_entry, is_at}
use Rattle.std.specs.Option.{option_map}
use Rattle.std.specs.Ordering.{match_ordering, eq_by_cmp}
use Rattle.std.specs.declared.cmp.Ordering.{Ordering}
use Rattle.std.proofs.lemmas.Cmp.{nat_list_cmp_total, eq_by_cmp_equiv}
use Rattle.std.proofs.lemmas.Map.Keys.{IsDistinct-from_sorted}
use Rattle.std.proofs.lemmas.Map.Lookups.{exact_bytes}
use Rattle.std.proofs.lemmas.Map.Views.{Contains-from_lookup, lookup-from_Contains}
use Rattle.std.proofs.lemmas.Option.{none-some, same_Some}
use Rattle.std.proofs.lemmas.Slice.Zip.{AllZip-long}
use Rattle.lore_base.specs.Bytes.{bytes_cmp}
use Rattle.list_laws.proofs.MemberLaws.{Contains-map, Contains-from_map}
use Rattle.list_laws.proofs.OrderLaws.{Equal-from_test}
use Rattle.lore_base.proofs.MemberLaws.{Contains-filter, Contains-none, Contains-head, Contains-tail, Contains-cases, Contains-same}
use Rattle.lorel_trees.specs.Trees.{SelectTree, select_tree}
use Rattle.live_views.specs.Types.{Select}
use Rattle.live_views.specs.Views.{KeptRows, View, NamedView, view_of, Turns, TurnsRows}
use Rattle.view_laws.specs.Freshness.{NamedQuery, query_in, queries_of, fresh_of}

names_equiv : IsEquivalence (eq_by_cmp bytes_cmp)
names_equiv = eq_by_cmp_equiv nat_list_cmp_total

pub same_name : (name other : List ℕ) → is_at (bytes_cmp name) other ≡ true → name ≡ other
same_name name other h = exact_bytes name other (Equal-from_test (bytes_cmp name other) h)

pub own_name : (name other : List ℕ) → name ≡ other → is_at (bytes_cmp name) other ≡ true
own_name name other same = subst (λ (own : List ℕ). is_at (bytes_cmp name) own ≡ true) same (names_equiv.refl name)

-- a view is found by its name where it stands among the others
pub view_found : (views : List NamedView) → IsStrictlySortedBy bytes_cmp (keys_of views) → (name : List ℕ) (view : View) → Contains views (name, view)
    → view_of views name ≡ Some view
view_found views ascend name view there = lookup-from_Contains names_equiv name view views (IsDistinct-from_sorted bytes_cmp (keys_of views) ascend) there

pub found_view : (views : List NamedView) (name : List ℕ) (view : View) → view_of views name ≡ Some view → Contains views (name, view)
found_view views name view found = Contains-from_lookup {eq = eq_by_cmp bytes_cmp} same_name name view views found

-- ---- what is told of the values of entries
module _ {K X Y : Type 0} (told_of : X → Y) where
  abbrev pub retold : K × X → K × Y
  retold entry = (entry.0, told_of entry.1)

  pub lookup-retold : (test : K → Bool) (entries : List (K × X)) → lookup test (map retold entries) ≡ option_map told_of (lookup test entries)
  lookup-retold test [] = refl
  lookup-retold test (entry ∷ entries) =
      elim (test entry.0) as (λ b. cond b (Some (told_of entry.1)) (lookup test (map retold entries))
      ≡ option_map told_of (cond b (Some entry.1) (lookup test entries)))
      [ true ↦ refl | false ↦ lookup-retold test entries ]

  pub insert-retold : (cmp : K → K → Ordering) (entries : List (K × X)) (key : K) (value : X)
      → map retold (insert_entry cmp entries key value) ≡ insert_entry cmp (map retold entries) key (told_of value)
  insert-retold cmp [] key value = refl
  insert-retold cmp (entry ∷ entries) key value =
      elim (cmp key entry.0) as (λ o. map retold (match_ordering o ((key, value) ∷ entry ∷ entries) ((entry.0, value) ∷ entries) (entry ∷ insert_entry cmp entries key value))
      ≡ match_ordering o ((key, told_of value) ∷ retold entry ∷ map retold entries) ((entry.0, told_of value) ∷ map retold entries)
      (retold entry ∷ insert_entry cmp (map retold entries) key (told_of value))) [
        | Less ↦ refl
        | Equal ↦ refl
        | Greater ↦ ap (λ (later : List (K × Y)). retold entry ∷ later) (insert-retold cmp entries key value)
      ]

  pub remove-retold : (test : K → Bool) (entries : List (K × X)) → map retold (remove_entry test entries) ≡ remove_entry test (map retold entries)
  remove-retold test [] = refl
  remove-retold test (entry ∷ entries) =
      elim (test entry.0) as (λ b. map retold (cond b entries (entry ∷ remove_entry test entries))
      ≡ cond b (map retold entries) (retold entry ∷ remove_entry test (map retold entries)))
      [ true ↦ refl | false ↦ ap (λ (later : List (K × Y)). retold entry ∷ later) (remove-retold test entries) ]

-- so the select of a view is found where the view is
abbrev pub tree_of : View → SelectTree
tree_of view = select_tree view.select

pub query_from : (views : List NamedView) (name : List ℕ) (view : View) → view_of views name ≡ Some view → query_in (queries_of views) name ≡ Some (tree_of view)
query_from views name view found = lookup-retold tree_of (is_at (bytes_cmp name)) views ∙ ap (option_map tree_of) found

module _ (views : List NamedView) (name : List ℕ) where
  pub view_from : (query : SelectTree) → query_in (queries_of views) name ≡ Some query → (view : View) × (view_of views name ≡ Some view) × (tree_of view ≡ query)
  view_from query found = seen (view_of views name) refl
    where
      seen : (o : Option View) → view_of views name ≡ o → (view : View) × (view_of views name ≡ Some view) × (tree_of view ≡ query)
      seen None none = absurd (none-some query (sym (lookup-retold tree_of (is_at (bytes_cmp name)) views ∙ ap (option_map tree_of) none) ∙ found))
      seen (Some view) some = (view, some, same_Some _ _ (sym (lookup-retold tree_of (is_at (bytes_cmp name)) views ∙ ap (option_map tree_of) some) ∙ found))

  pub no_view_from : query_in (queries_of views) name ≡ None → view_of views name ≡ None
  no_view_from none = seen (view_of views name) refl
    where
      seen : (o : Option View) → view_of views name ≡ o → view_of views name ≡ None
      seen None is = is
      seen (Some view) is = absurd (none-some (tree_of view) (sym none ∙ query_from views name view is))

  pub no_query_from : view_of views name ≡ None → query_in (queries_of views) name ≡ None
  no_query_from none = lookup-retold tree_of (is_at (bytes_cmp name)) views ∙ ap (option_map tree_of) none

-- ---- fresh views
abbrev has_rows : NamedView → Bool
has_rows entry = is_some entry.1.rows

-- members that pass a test passed it
passed : {X : Type 0} (test : X → Bool) (xs : List X) (x : X) → Contains (filter test xs) x → Contains xs x × (test x ≡ true)
passed test [] x there = absurd (Contains-none x there)
passed {X = X} test (first ∷ others) x there = by_case (λ behind. passed test others x behind) (test first) refl there
  where
    by_case : (Contains (filter test others) x → Contains others x × (test x ≡ true)) → (b : Bool) → test first ≡ b
        → Contains (cond b (first ∷ filter test others) (filter test others)) x → Contains (first ∷ others) x × (test x ≡ true)
    by_case later true is here = elim (Contains-cases first (filter test others) x here) [
      | inl same ↦ (Contains-same (first ∷ others) first x same (Contains-head first others), subst (λ (y : X). test y ≡ true) same is)
      | inr behind ↦ (Contains-tail first others x (later behind).0, (later behind).1)
    ]
    by_case later false is behind = (Contains-tail first others x (later behind).0, (later behind).1)

pub fresh_from : (views : List NamedView) → IsStrictlySortedBy bytes_cmp (keys_of views) → (name : List ℕ) → Contains (fresh_of views) name
    → (view : View) × (view_of views name ≡ Some view) × (is_some view.rows ≡ true)
fresh_from views ascend name fresh =
    let found = Contains-from_map (λ (e : NamedView). e.0) (filter has_rows views) name fresh in
    let there = passed has_rows views found.0 found.1 in
    (found.0.1, view_found views ascend name found.0.1 (subst (λ (own : List ℕ). Contains views (own, found.0.1)) found.2 there.0), there.1)

pub fresh_to : (views : List NamedView) (name : List ℕ) (view : View) → view_of views name ≡ Some view → is_some view.rows ≡ true → Contains (fresh_of views) name
fresh_to views name view found has =
    Contains-map (λ (e : NamedView). e.0) (filter has_rows views) (name, view)
    (Contains-filter has_rows views (name, view) (found_view views name view found) has)

-- ---- views whose rows are turned
module _ (Told : List ℕ → Type 0) (rows : Option KeptRows) where
  pub turned_queries : (views later : List NamedView) → TurnsRows Told rows views later → queries_of later ≡ queries_of views
  turned_queries [] [] turns = refl
  turned_queries [] (after ∷ later) turns = absurd turns
  turned_queries (before ∷ views) [] turns = absurd turns
  turned_queries (before ∷ views) (after ∷ later) turns =
      ap (λ (own : NamedQuery). own ∷ queries_of later)
      (ap (λ (name : List ℕ). (name, tree_of after.1)) turns.0.name ∙ ap (λ (select : Select). (before.0, select_tree select)) turns.0.select)
      ∙ ap (λ (others : List NamedQuery). (before.0, tree_of before.1) ∷ others) (turned_queries views later turns.1)

  pub turned_keys : (views later : List NamedView) → TurnsRows Told rows views later → keys_of later ≡ keys_of views
  turned_keys [] [] turns = refl
  turned_keys [] (after ∷ later) turns = absurd turns
  turned_keys (before ∷ views) [] turns = absurd turns
  turned_keys (before ∷ views) (after ∷ later) turns =
      ap (λ (own : List ℕ). own ∷ keys_of later) turns.0.name ∙ ap (λ (others : List (List ℕ)). before.0 ∷ others) (turned_keys views later turns.1)

  -- what a view is then, and what it was
  pub record IsTurnedView (name : List ℕ) (old new : View) : Type 0 where
    pub select : new.select ≡ old.select
    pub turned : Told name → new.rows ≡ rows
    pub kept : (Told name → ⊥) → new.rows ≡ old.rows

  turned_own : (before after : NamedView) → Turns Told rows before after → (name : List ℕ) → name ≡ before.0 → IsTurnedView name before.1 after.1
  turned_own before after turns name is = record {
    select = turns.select;
    turned = λ told. turns.turned (subst Told is told);
    kept = λ untold. turns.kept (λ told. untold (subst Told (sym is) told));
  }

  pub turned_from : (views later : List NamedView) → TurnsRows Told rows views later → (name : List ℕ) (new : View) → view_of later name ≡ Some new
      → (old : View) × (view_of views name ≡ Some old) × IsTurnedView name old new
  turned_from [] [] turns name new found = absurd (none-some new found)
  turned_from [] (after ∷ later) turns name new found = absurd turns
  turned_from (before ∷ views) [] turns name new found = absurd turns
  turned_from (before ∷ views) (after ∷ later) turns name new found =
      let tests : is_at (bytes_cmp name) after.0 ≡ is_at (bytes_cmp name) before.0 = ap (is_at (bytes_cmp name)) turns.0.name in
      by_case (λ behind. turned_from views later turns.1 name new behind) (is_at (bytes_cmp name) before.0) refl
      (subst (λ (b : Bool). cond b (Some after.1) (view_of later name) ≡ Some new) tests found)
    where
      by_case : (view_of later name ≡ Some new → (old : View) × (view_of views name ≡ Some old) × IsTurnedView name old new) → (b : Bool) → is_at (bytes_cmp name) before.0 ≡ b → cond b (Some after.1) (view_of later name) ≡ Some new
          → (old : View) × (cond b (Some before.1) (view_of views name) ≡ Some old) × IsTurnedView name old new
      by_case others true is here =
          (before.1, refl, subst (IsTurnedView name before.1) (same_Some _ _ here) (turned_own before after turns.0 name (same_name name before.0 is)))
      by_case others false is behind = others behind

  pub turned_to : (views later : List NamedView) → TurnsRows Told rows views later → (name : List ℕ) (old : View) → view_of views name ≡ Some old
      → (new : View) × (view_of later name ≡ Some new) × IsTurnedView name old new
  turned_to [] [] turns name old found = absurd (none-some old found)
  turned_to [] (after ∷ later) turns name old found = absurd turns
  turned_to (before ∷ views) [] turns name old found = absurd turns
  turned_to (before ∷ views) (after ∷ later) turns name old found =
      let tests : is_at (bytes_cmp name) before.0 ≡ is_at (bytes_cmp name) after.0 = sym (ap (is_at (bytes_cmp name)) turns.0.name) in
      by_case (λ behind. turned_to views later turns.1 name old behind) (is_at (bytes_cmp name) after.0) refl
      (subst (λ (b : Bool). cond b (Some before.1) (view_of views name) ≡ Some old) tests found)
    where
      by_case : (view_of views name ≡ Some old → (new : View) × (view_of later name ≡ Some new) × IsTurnedView name old new) → (b : Bool) → is_at (bytes_cmp name) after.0 ≡ b → cond b (Some before.1) (view_of views name) ≡ Some old
          → (new : View) × (cond b (Some after.1) (view_of later name) ≡ Some new) × IsTurnedView name old new
      by_case others true is here = (
        after.1,
        refl,
        subst (λ (view : View). IsTurnedView name view after.1) (same_Some _ _ here)
            (turned_own before after turns.0 name (same_name name after.0 is ∙ turns.0.name)),
      )
      by_case others false is behind = others behind
