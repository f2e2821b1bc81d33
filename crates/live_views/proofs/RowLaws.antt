-- Views whose rows are set: those of one name, and one name after another.
use Rattle.std.proofs.Common.{◌≡◌, ℕ, inl, inr, true, false, true≢false, cond, List, [], ◌∷◌, ◌++◌, Option, Some, None, Less, refl, sym, ap, subst, ◌∙◌}
use Rattle.std.specs.List.{Contains}
use Rattle.std.specs.List.Sorted.{IsStrictlySortedBy}
use Rattle.std.specs.Cmp.{IsEquivalence}
use Rattle.std.specs.Map.{keys_of, lookup, set_value}
use Rattle.std.specs.BTreeMap.{is_at}
use Rattle.std.specs.Ordering.{eq_by_cmp}
use Rattle.std.proofs.lemmas.Cmp.{nat_list_cmp_total, eq_by_cmp_equiv}
use Rattle.std.proofs.lemmas.List.Elements.{All-contains, All-from_recursion, Contains-append_left, Contains-push, Contains-push_cases}
use Rattle.std.proofs.lemmas.Map.Keys.{IsDistinct-from_sorted, sorted_head, sorted_tail}
use Rattle.std.proofs.lemmas.Map.Lookups.{exact_bytes}
use Rattle.std.proofs.lemmas.Map.Views.{lookup-from_Contains}
use Rattle.std.proofs.lemmas.Option.{none-some, same_Some}
use Rattle.lore_base.specs.Bytes.{bytes_cmp}
use Rattle.lore_base.proofs.MemberLaws.{Contains-head, Contains-tail}
use Rattle.lore_base.proofs.ToldLaws.{told_bytes}
use Rattle.list_laws.proofs.MemberLaws.{Contains-map}
use Rattle.list_laws.proofs.OrderLaws.{Equal-from_test}
use Rattle.list_laws.proofs.AscentLaws.{never_less}
use Rattle.live_views.specs.Views.{KeptRows, View, NamedView, TurnsRows}

-- ---- names
names_equiv : IsEquivalence (eq_by_cmp bytes_cmp)
names_equiv = eq_by_cmp_equiv nat_list_cmp_total

same_name : (name other : List ℕ) → is_at (bytes_cmp name) other ≡ true → name ≡ other
same_name name other h = exact_bytes name other (Equal-from_test (bytes_cmp name other) h)

own_name : (name other : List ℕ) → other ≡ name → is_at (bytes_cmp name) other ≡ true
own_name name other same = subst (λ (own : List ℕ). is_at (bytes_cmp name) own ≡ true) (sym same) (names_equiv.refl name)

-- ---- rows of one name
pub TurnsRows-untold : (Told : List ℕ → Type 0) (rows : Option KeptRows) (views : List NamedView)
    → ((entry : NamedView) → Contains views entry → Told entry.0 → ⊥) → TurnsRows Told rows views views
TurnsRows-untold Told rows [] none = tt
TurnsRows-untold Told rows (entry ∷ views) none = (
  record { name = refl; select = refl; turned = λ h. absurd (none entry (Contains-head entry views) h); kept = λ _. refl },
  TurnsRows-untold Told rows views (λ other there. none other (Contains-tail entry views other there)),
)

-- a name behind that of the first view is another one
apart_behind : (name : List ℕ) (entry : NamedView) (views : List NamedView) → IsStrictlySortedBy bytes_cmp (keys_of (entry ∷ views))
    → name ≡ entry.0 → (other : NamedView) → Contains views other → other.0 ≡ name → ⊥
apart_behind name entry views sorted same other there is =
    let below = All-contains (λ (key : List ℕ). bytes_cmp entry.0 key ≡ Less) (keys_of views) other.0
    (All-from_recursion (λ (key : List ℕ). bytes_cmp entry.0 key ≡ Less) (keys_of views) (sorted_head bytes_cmp entry.0 (keys_of views) sorted))
    (Contains-map (λ (e : NamedView). e.0) views other there) in
    never_less bytes_cmp nat_list_cmp_total entry.0 (subst (λ (key : List ℕ). bytes_cmp entry.0 key ≡ Less) (is ∙ same) below)

pub TurnsRows-set : (name : List ℕ) (rows : Option KeptRows) (views : List NamedView) (view after : View)
    → IsStrictlySortedBy bytes_cmp (keys_of views) → lookup (is_at (bytes_cmp name)) views ≡ Some view
    → after.select ≡ view.select → after.rows ≡ rows
    → TurnsRows (λ own. own ≡ name) rows views (set_value (is_at (bytes_cmp name)) views after)
TurnsRows-set name rows [] view after sorted found select_is rows_is = absurd (none-some view found)
TurnsRows-set name rows (entry ∷ views) view after sorted found select_is rows_is =
    elim (is_at (bytes_cmp name) entry.0) as (λ here. is_at (bytes_cmp name) entry.0 ≡ here
    → cond here (Some entry.1) (lookup (is_at (bytes_cmp name)) views) ≡ Some view
    → TurnsRows (λ own. own ≡ name) rows (entry ∷ views) (cond here ((entry.0, after) ∷ views) (entry ∷ set_value (is_at (bytes_cmp name)) views after))) [
      | true ↦ λ is there.
          let same = same_name name entry.0 is in (
            record {
              name = refl;
              select = select_is ∙ sym (ap (λ (v : View). v.select) (same_Some entry.1 view there));
              turned = λ _. rows_is;
              kept = λ apart. absurd (apart (sym same));
            },
            TurnsRows-untold (λ own. own ≡ name) rows views (apart_behind name entry views sorted same),
          )
      | false ↦ λ is there. (
        record {
          name = refl;
          select = refl;
          turned = λ same. absurd (true≢false (sym (own_name name entry.0 same) ∙ is));
          kept = λ _. refl;
        },
        TurnsRows-set name rows views view after (sorted_tail bytes_cmp entry.0 (keys_of views) sorted) there select_is rows_is,
      )
    ] refl found

-- where no view has the name all stay as they are
pub TurnsRows-none : (name : List ℕ) (rows : Option KeptRows) (views : List NamedView) → IsStrictlySortedBy bytes_cmp (keys_of views)
    → lookup (is_at (bytes_cmp name)) views ≡ None → TurnsRows (λ own. own ≡ name) rows views views
TurnsRows-none name rows views sorted none = TurnsRows-untold (λ own. own ≡ name) rows views (λ entry there same.
    absurd (none-some entry.1 (sym none ∙ lookup-from_Contains names_equiv name entry.1 views (IsDistinct-from_sorted bytes_cmp (keys_of views) sorted)
    (subst (λ (own : List ℕ). Contains views (own, entry.1)) same there))))

-- ---- one name after another
pub TurnsRows-push : (names : List (List ℕ)) (name : List ℕ) (rows : Option KeptRows) (first second third : List NamedView)
    → TurnsRows (Contains names) rows first second → TurnsRows (λ own. own ≡ name) rows second third
    → TurnsRows (Contains (names ++ name ∷ [])) rows first third
TurnsRows-push names name rows [] [] [] one two = tt
TurnsRows-push names name rows [] [] (c ∷ third) one two = absurd two
TurnsRows-push names name rows [] (b ∷ second) third one two = absurd one
TurnsRows-push names name rows (a ∷ first) [] third one two = absurd one
TurnsRows-push names name rows (a ∷ first) (b ∷ second) [] one two = absurd two
TurnsRows-push names name rows (a ∷ first) (b ∷ second) (c ∷ third) (before, one) (after, two) = (
  record {
    name = after.name ∙ before.name;
    select = after.select ∙ before.select;
    turned = λ among. elim (told_bytes b.0 name) [
      | inl same ↦ after.turned same
      | inr apart ↦ after.kept apart ∙ before.turned (elim (Contains-push_cases names name a.0 among) [
        | inl early ↦ early
        | inr here ↦ absurd (apart (before.name ∙ sym here))
      ])
    ];
    kept = λ out. after.kept (λ same. out (subst (Contains (names ++ name ∷ [])) (sym same ∙ before.name) (Contains-push names name)))
        ∙ before.kept (λ early. out (Contains-append_left names (name ∷ []) a.0 early));
  },
  TurnsRows-push names name rows first second third one two,
)
