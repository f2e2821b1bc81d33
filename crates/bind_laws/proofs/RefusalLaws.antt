-- Refusals: whether a cause applies can be told, so each select is accepted or has one first cause.
use Rattle.std.proofs.Common.{◌≡◌, ◌≢◌, ℕ, ◌<◌, ◌⊎◌, inl, inr, List, [], ◌∷◌, length, Option, Some, None, AllPairs, refl, sym, ap, subst}
use Rattle.std.specs.List.{Contains}
use Rattle.std.proofs.lemmas.List.Kept.{AllPairs-cons}
use Rattle.lore_base.specs.Names.{object_of}
use Rattle.lore_base.proofs.ListLaws.{AllPairs-head, AllPairs-tail}
use Rattle.lore_base.proofs.MemberLaws.{Contains-same}
use Rattle.lorel_trees.specs.Trees.{ItemTree, SelectTree}
use Rattle.lorel_trees.specs.Trees as t
use Rattle.lorel_bind.specs.Types.{Oid, Refusal, RANGES, ITEMS, LEAVES}
use Rattle.lorel_bind.specs.Types.refusals
use Rattle.lorel_ranges.specs.Places.{Root, named, ranged, quantified, Place, path_variables, word_place}
use Rattle.lorel_ranges.specs.Ranges.{PlacedRange, AreFused, IsUsed}
use Rattle.lorel_ranges.specs.Texts.{text_places, ranged_identifiers}
use Rattle.lorel_bind.specs.Refusals.{StartsNowhere, HasUnknownPathVariable, HasManyRanges, leaves_in, BindCause, bind_order, IsFirst, IsClear}
use Rattle.bind_laws.specs.Laws.{HasSomeVerdict, HasOneVerdict}
use Rattle.lore_base.proofs.ToldLaws.{IsTold, told_same, told_not, told_either, told_member, told_bytes, told_below}
use Rattle.list_laws.proofs.PairLaws.{AllPairs-nil}
use Rattle.lore_base.proofs.VerdictLaws.{first_unclear, one_first}
use Rattle.list_laws.proofs.MemberLaws.{All-from_members}
use Rattle.lorel_bound.proofs.ListedLaws.{IsListed, listed_members, listed_none, listed_one, listed_same, listed_over, listed_where, told_some}
use Rattle.lorel_ranges.proofs.GatherLaws.{has_one_plain, has_some_plain}
use Rattle.lorel_ranges.proofs.FuseLaws.{has_one_fused}
use Rattle.lorel_ranges.proofs.PrefixLaws.{has_some_fused}

-- ---- causes in order
module _ (Applies : Refusal → Type 0) where
  -- where it is told of each cause whether it applies, none does or one is the first
  pub told_first : ((refusal : Refusal) → IsTold (Applies refusal)) → (causes : List Refusal)
      → IsClear Applies causes ⊎ ((refusal : Refusal) × IsFirst Applies causes refusal)
  told_first told [] = inl tt
  told_first told (next ∷ others) = elim (told next) [
    | inl applies ↦ inr (next, inl (applies, refl))
    | inr none ↦ elim (told_first told others) [
      | inl clear ↦ inl (none, clear)
      | inr later ↦ inr (later.0, inr (none, later.1))
    ]
  ]

-- ---- paths that start nowhere
told_none : {X : Type 0} (found : Option X) → IsTold (found ≡ None)
told_none None = inl refl
told_none (Some x) = inr (λ h. cc)

listed_name : (root : Root) → IsListed (λ start. root ≡ named start)
listed_name (named name) = listed_same (λ start. name ≡ start) (λ start. named name ≡ named start) (λ start. (λ h. ap named h, λ h. cc)) (listed_one name)
listed_name (ranged variable) = listed_none (λ start. ranged variable ≡ named start) (λ start h. cc)
listed_name (quantified depth) = listed_none (λ start. quantified depth ≡ named start) (λ start h. cc)

listed_nowhere : (names : List (List ℕ × Oid)) (query : SelectTree) → IsListed (StartsNowhere names query)
listed_nowhere names query =
    listed_same (λ start. (place : Place) × Contains (text_places query) place × ((place.root ≡ named start) × (object_of names start ≡ None)))
    (StartsNowhere names query) (λ start. (λ h. (h.0, h.1, h.2.0, h.2.1), λ h. (h.0, h.1, (h.2, h.3))))
    (listed_over (Contains (text_places query)) (λ place start. (place.root ≡ named start) × (object_of names start ≡ None)) (listed_members (text_places query))
    (λ place. listed_where (λ start. place.root ≡ named start) (λ start. object_of names start ≡ None) (listed_name place.root) (λ start. told_none (object_of names start))))

-- ---- path variables that no from item has
listed_variable : (item : ItemTree) → IsListed (λ variable. item ≡ t.path_of variable)
listed_variable (t.object path) = listed_none (λ variable. t.object path ≡ t.path_of variable) (λ variable h. cc)
listed_variable (t.path_of own) =
    listed_same (λ variable. own ≡ variable) (λ variable. t.path_of own ≡ t.path_of variable) (λ variable. (λ h. ap t.path_of h, λ h. cc)) (listed_one own)

listed_variables : (items : List ItemTree) → IsListed (λ variable. Contains items (t.path_of variable))
listed_variables items =
    listed_same (λ variable. (item : ItemTree) × Contains items item × (item ≡ t.path_of variable)) (λ variable. Contains items (t.path_of variable))
    (λ variable. (λ h. Contains-same items h.0 (t.path_of variable) h.2 h.1, λ h. (t.path_of variable, h, refl)))
    (listed_over (Contains items) (λ item variable. item ≡ t.path_of variable) (listed_members items) listed_variable)

told_unknown_variable : (query : SelectTree) → IsTold (HasUnknownPathVariable query)
told_unknown_variable query =
    told_some (λ variable. Contains query.items (t.path_of variable)) (λ variable. word_place (path_variables query.tail.ranges) variable ≡ None)
    (listed_variables query.items) (λ variable. told_none (word_place (path_variables query.tail.ranges) variable))

-- ---- identifiers that are ranged twice
told_apart : (words : List (List ℕ)) → IsTold (AllPairs (λ a b. a ≢ b) words)
told_apart [] = inl (AllPairs-nil (λ a b. a ≢ b))
told_apart (word ∷ words) = elim (told_member told_bytes words word) [
  | inl there ↦ inr (λ apart. AllPairs-head (λ a b. a ≢ b) word words apart word there refl)
  | inr absent ↦ told_same
      (AllPairs-cons (λ a b. a ≢ b) word words
      (All-from_members (λ other. word ≢ other) words (λ other there same. absent (Contains-same words other word (sym same) there))))
      (AllPairs-tail (λ a b. a ≢ b) word words) (told_apart words)
]

-- ---- ranges that are left
told_many_ranges : (query : SelectTree) → IsTold (HasManyRanges query)
told_many_ranges query =
    let plain = has_some_plain query in
    let fused = has_some_fused query plain.0 plain.1 in
    told_same (λ many. (plain.0, fused.0, plain.1, fused.1, many))
    (λ h.
    let same = has_one_plain query h.0 plain.0 h.2 plain.1 in
    let fused_here = subst (λ (ranges : List PlacedRange). AreFused (IsUsed query ranges) ranges h.1) same h.3 in
    subst (λ (ranges : List PlacedRange). RANGES < length ranges) (has_one_fused query plain.0 h.1 fused.0 plain.1 fused_here fused.1) h.4)
    (told_below RANGES (length fused.0))

-- ---- all causes
told_cause : (names : List (List ℕ × Oid)) (query : SelectTree) (refusal : Refusal) → IsTold (BindCause names query refusal)
told_cause names query refusals.UnknownName =
    told_some (StartsNowhere names query) (λ start. Contains (ranged_identifiers query) start → ⊥) (listed_nowhere names query)
    (λ start. told_not (told_member told_bytes (ranged_identifiers query) start))
told_cause names query refusals.UnknownVariable =
    told_either
    (told_some (StartsNowhere names query) (Contains (ranged_identifiers query)) (listed_nowhere names query)
    (told_member told_bytes (ranged_identifiers query)))
    (told_unknown_variable query)
told_cause names query refusals.DuplicateVariable = told_not (told_apart (ranged_identifiers query))
told_cause names query refusals.TooManyRanges =
    told_either (told_many_ranges query)
    (told_either (told_below ITEMS (length query.items)) (told_below LEAVES (leaves_in (text_places query))))
told_cause names query _ = inr (λ h. h)

pub has_some_verdict : HasSomeVerdict
has_some_verdict names query = told_first (BindCause names query) (told_cause names query) bind_order

pub has_one_verdict : HasOneVerdict
has_one_verdict names query refusal first = (
  λ accepted. first_unclear (BindCause names query) bind_order refusal first accepted,
  λ other second. one_first (BindCause names query) bind_order refusal other first second,
)
