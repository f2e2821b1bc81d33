-- Where each made object is a start or has a parent with a lower number, each is walked to.
use Rattle.std.proofs.Common.{◌≡◌, ℕ, zero, suc, ◌+◌, ◌-◌, ◌<◌, ◌≤◌, ◌⊎◌, inl, inr, Bool, true, false, not, List, [], ◌∷◌, ◌++◌, length, get_or, Some, slice_get, map, AllPairs, Contains, refl, sym, ap, ◌∙◌, subst, arith, true≢false}
use Rattle.std.specs.List.{list_any}
use Rattle.std.proofs.lemmas.Bool.{cases_lt}
use Rattle.std.proofs.lemmas.List.Folds.{list_any_at}
use Rattle.std.proofs.lemmas.List.Elements.{All-contains}
use Rattle.lore_base.specs.Walks.{edge_of}
use Rattle.lore_base.specs.Databases.{OemGraph, IsRooted, IsLive}
use Rattle.lore_base.specs.ChangeSets.{AreNumberedFrom, IsReachedThen, IsComplexThen, IsAtHand, FitsGraph, IsOverlay, AreDead}
use Rattle.read_costs.specs.Concerned.{IsCut}
use Rattle.lore_base.proofs.MemberLaws.{Contains-none, Contains-cases, Contains-same}
use Rattle.lore_base.proofs.WalkLaws.{Walk-push}
use Rattle.oem_reach.specs.Types.{Oid, Edge, Value, Changes}
use Rattle.oem_reach.specs.inside.Doubts.{IsNamedThen}
use Rattle.object_search.specs.LowerParents.{IsLed, AreLed}
use Rattle.list_laws.proofs.MemberLaws.{Contains-map}
use Rattle.oem_reach.proofs.CutLaws.{live_before}
use Rattle.oem_reach.proofs.DoubtLaws.{told_reached}

-- made objects have the next number or a later one
pub numbers_from : (next : ℕ) (made : List (Oid × Value)) → AreNumberedFrom next made → (oid : Oid) → Contains (map (λ object. object.0) made) oid → next ≤ oid.0
numbers_from next [] numbered oid at = absurd (Contains-none oid at)
numbers_from next (object ∷ others) numbered oid at = elim (Contains-cases object.0 (map (λ o. o.0) others) oid at) [
  | inl same ↦ omega (arith, numbered.0, ap (λ (o : Oid). o.0) same)
  | inr later ↦ omega (arith, numbers_from (next + 1) others numbered.1 oid later)
]

pub numbers_below : (next : ℕ) (made : List (Oid × Value)) → AreNumberedFrom next made → (oid : Oid) → Contains (map (λ object. object.0) made) oid → oid.0 < next + length made
numbers_below next [] numbered oid at = absurd (Contains-none oid at)
numbers_below next (object ∷ others) numbered oid at = elim (Contains-cases object.0 (map (λ o. o.0) others) oid at) [
  | inl same ↦ omega (arith, numbered.0, ap (λ (o : Oid). o.0) same)
  | inr later ↦ omega (arith, numbers_below (next + 1) others numbered.1 oid later)
]

-- the first of them has that number
pub first_number : (next : ℕ) (made : List (Oid × Value)) (first : Oid × Value) → Some first ≡ slice_get made 0 → AreNumberedFrom next made → first.0.0 ≡ next
first_number next [] first at numbered = cc
first_number next (object ∷ others) first at numbered =
    let same : first ≡ object = cc in
    ap (λ (o : Oid × Value). o.0.0) same ∙ numbered.0

-- where no place is left out, each is noted
pub all_noted : (is_out : Bool → Bool) (noted : List Bool) (place : ℕ) → is_out false ≡ true → list_any is_out noted ≡ false → place < length noted
    → get_or noted place false ≡ true
all_noted is_out noted place out none within = elim (get_or noted place false) as (λ b. get_or noted place false ≡ b → b ≡ true) [
  | true ↦ λ _. refl
  | false ↦ λ is. absurd (true≢false (sym (list_any_at is_out noted place false within (ap is_out is ∙ out)) ∙ none))
] refl

-- where no place is left out, each number is led to
pub all_led : (starts : List Oid) (edges : List Edge) (first count : ℕ) (is_out : Bool → Bool) (noted read : List Bool) (left_out : Bool)
    → is_out false ≡ true → length noted ≡ count → read ≡ noted → left_out ≡ list_any is_out read → AreLed starts edges first noted
    → not left_out ≡ true → (place : ℕ) → place < count → IsLed starts edges (first + place)
all_led starts edges first count is_out noted read left_out out long all any led none place within =
    led place (all_noted is_out noted place out (ap (list_any is_out) (sym all) ∙ sym any ∙ not_true left_out none) (omega (arith, within, long)))
  where
    not_true : (b : Bool) → not b ≡ true → b ≡ false
    not_true true h = absurd (true≢false (sym h))
    not_true false _ = refl

module _ (before : OemGraph) (changes : Changes) (between lost fresh : List Edge)
    (rooted : IsRooted before) (fits : FitsGraph before changes) (overlay : IsOverlay before.edges changes between lost fresh)
    (whole : (oid : Oid) → IsCut before changes between oid → ⊥) (starts : List Oid)
    (named : (oid : Oid) → Contains starts oid → IsNamedThen before.names changes oid)
    (led : (place : ℕ) → place < length changes.made → IsLed starts fresh (before.next + place)) where
  -- where nothing is cut, what was there is reached
  old_reached : (oid : Oid) → IsLive before.objects oid → IsReachedThen before.names changes between oid
  old_reached oid live = elim (told_reached before changes between lost fresh rooted fits overlay oid live) [
    | inl reached ↦ reached
    | inr below ↦ absurd (whole below.0 below.2)
  ]

  -- the parent of a fresh edge, with a number below the next one, was there
  parent_old : (edge : Edge) → Contains fresh edge → edge.parent.0 < before.next → IsLive before.objects edge.parent
  parent_old edge at old =
      let only = (overlay.fresh_exact edge).0 at in
      elim ((overlay.linked.exact edge).0 only.0) [
        | inr kept ↦ absurd (only.1 kept.0)
        | inl added ↦
            let ends = All-contains (λ (e : Edge). IsComplexThen before.objects changes e.parent × IsAtHand before changes e.child) changes.added edge fits.added added in
            elim (live_before before changes rooted fits edge.parent (_, ends.0)) [
              | inr live ↦ live
              | inl new ↦ absurd (omega (
                arith,
                old,
                numbers_from before.next changes.made fits.numbered edge.parent
                    (Contains-map (λ (object : Oid × Value). object.0) changes.made (edge.parent, new.0) new.1),
              ))
            ]
      ]

  -- each made number is reached, since those below it are
  number_reached : (bound : ℕ) (oid : Oid) → oid.0 < bound → before.next ≤ oid.0 → oid.0 < before.next + length changes.made
      → IsReachedThen before.names changes between oid
  number_reached zero oid low from below = absurd (omega (arith, low))
  number_reached (suc bound) oid low from below =
      let here : before.next + (oid.0 - before.next) ≡ oid.0 = omega (arith, from) in
      elim (subst (IsLed starts fresh) here (led (oid.0 - before.next) (omega (arith, from, below)))) [
        | inl start ↦
            let same : start.0 ≡ oid = (let is = start.2 in λ i. record { 0 = is i }) in
            let name = named oid (Contains-same starts start.0 oid same start.1) in
            record {
              name = name.0;
              start = oid;
              word = [];
              named = name.1;
              walked = refl;
            }
        | inr child ↦
            let edge = child.0 in
            let parent : IsReachedThen before.names changes between edge.parent = elim (cases_lt edge.parent.0 before.next) [
              | inl old ↦ old_reached edge.parent (parent_old edge child.1 old)
              | inr new ↦ number_reached bound edge.parent (omega (arith, child.3, low)) new (omega (arith, child.3, below))
            ] in
            let at = ((overlay.fresh_exact edge).0 child.1).0 in
            record {
              name = parent.name;
              start = parent.start;
              word = parent.word ++ edge.label ∷ [];
              named = parent.named;
              walked = Walk-push between parent.start parent.word edge.parent edge.label oid parent.walked
                  (Contains-same between edge (edge_of edge.parent edge.label oid) (let is = child.2 in λ i. record { parent = edge.parent; label = edge.label; child = record { 0 = is i } }) at);
            }
      ]

  -- none is dead where nothing is cut and each made object is led to
  pub none_dead : (dead : List Oid) → dead ≡ [] → AreDead before changes dead
  none_dead dead none =
      let out : (oid : Oid) → Contains dead oid → ⊥ = λ oid at. Contains-none oid (subst (λ (l : List Oid). Contains l oid) none at) in
      record {
        between = between;
        linked = overlay.linked;
        ascend = subst (AllPairs (λ (a b : Oid). a.0 < b.0)) (sym none) (λ i j d below within. absurd (omega (arith, within)));
        vanish = λ oid at. absurd (out oid at);
        stay = λ oid live. inr (elim (live_before before changes rooted fits oid live) [
          | inr old ↦ old_reached oid old
          | inl new ↦
              let at = Contains-map (λ (object : Oid × Value). object.0) changes.made (oid, new.0) new.1 in
              number_reached (oid.0 + 1) oid (omega arith) (numbers_from before.next changes.made fits.numbered oid at)
              (numbers_below before.next changes.made fits.numbered oid at)
        ]);
      }
