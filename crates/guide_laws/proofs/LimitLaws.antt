-- The first sets of two lists, and that a guide passes at most one limit, and none where it fits.
use Rattle.std.proofs.Common.{◌≡◌, ◌⊎◌, ℕ, ◌<◌, inl, inr, List, [], ◌∷◌, ◌++◌, length, All, AllPairs, Contains, sym}
use Rattle.std.proofs.Common.{subst}
use Rattle.std.proofs.Common.{arith, length-append}
use Rattle.std.specs.List.{AllZip}
use Rattle.std.proofs.lemmas.List.Kept.{AllPairs-cons}
use Rattle.std.proofs.lemmas.List.Sums.{sum_by_push}
use Rattle.std.proofs.lemmas.List.Elements.{All-contains, Contains-push_cases}
use Rattle.lore_base.specs.TargetSets.{LabelPath, IsLedTo}
use Rattle.lore_base.specs.PathOrder.{ComesBefore, IsLeastPath}
use Rattle.lore_base.specs.GuideLimits.{KeepLimits, AreFirstSets}
use Rattle.lore_base.proofs.ListLaws.{AllPairs-head, AllPairs-tail}
use Rattle.lore_base.proofs.MemberLaws.{Contains-none, Contains-head, Contains-tail, Contains-cases}
use Rattle.list_laws.proofs.SumLaws.{distinct_no_longer, sum_by-within}
use Rattle.list_laws.proofs.MemberLaws.{All-from_members}
use Rattle.dataguide.specs.Types.{Oid, Edge}
use Rattle.dataguide.proofs.PathOrder.{before-itself, before-not_back}
use Rattle.dataguide.proofs.OneGuide.{one-least}
use Rattle.set_steps.proofs.PlaceLaws.{zip-right}
use Rattle.guide_laws.specs.Laws.{FittingPassesNone, OneLimitIsPassed}

-- ---- lists of first sets
module _ (names : List (List ℕ × Oid)) (edges : List Edge) where
  first-apart : (paths : List LabelPath) (sets : List (List Oid)) → AllZip (IsLeastPath names edges) paths sets
      → AllPairs ComesBefore paths
      → AllPairs (λ a b. (a ≡ b) → ⊥) sets
  first-apart [] [] zip ascend = λ i j d less within. absurd (omega (arith, within))
  first-apart [] (set ∷ sets) zip ascend = absurd zip
  first-apart (path ∷ paths) [] zip ascend = absurd zip
  first-apart (path ∷ paths) (set ∷ sets) zip ascend =
      AllPairs-cons (λ (a b : List Oid). (a ≡ b) → ⊥) set sets
      (All-from_members (λ (b : List Oid). (set ≡ b) → ⊥) sets (λ other there same. (
      let from = zip-right (IsLeastPath names edges) paths sets other zip.1 there in
      let one = one-least names edges path from.0 set zip.0 (subst
      (λ (s : List Oid). IsLeastPath names edges from.0 s) (sym same) from.2) in
      before-itself from.0 (subst (λ (p : LabelPath). ComesBefore p from.0) one
      (AllPairs-head ComesBefore path paths ascend from.0 from.1)))))
      (first-apart paths sets zip.1 (AllPairs-tail ComesBefore path paths ascend))

  -- the last of first sets has the last path
  last-path : (paths : List LabelPath) (sets : List (List Oid)) (next : List Oid) → AllZip (IsLeastPath names edges)
      paths (sets ++ next ∷ [])
      → AllPairs ComesBefore paths
      → (p : LabelPath) × Contains paths p × IsLeastPath names edges p next
      × ((q : LabelPath) → Contains paths q → (q ≡ p) ⊎ ComesBefore q p)
  last-path [] [] next zip ascend = absurd zip
  last-path [] (set ∷ sets) next zip ascend = absurd zip
  last-path (path ∷ []) [] next zip ascend = (
    path,
    Contains-head path [],
    zip.0,
    λ q there. (elim (Contains-cases path [] q there) [
      | inl same ↦ inl (sym same)
      | inr none ↦ absurd (Contains-none q none)
    ]),
  )
  last-path (path ∷ (other ∷ paths)) [] next zip ascend = absurd zip.1
  last-path (path ∷ paths) (set ∷ sets) next zip ascend =
      let rest = last-path paths sets next zip.1 (AllPairs-tail ComesBefore path paths ascend) in (
        rest.0,
        Contains-tail path paths rest.0 rest.1,
        rest.2,
        λ q there. (elim (Contains-cases path paths q there) [
          | inl same ↦ inr (subst (λ (r : LabelPath). ComesBefore r rest.0) same
              (AllPairs-head ComesBefore path paths ascend rest.0 rest.1))
          | inr later ↦ rest.3 q later
        ]),
      )

  module _ (sets : List (List Oid)) (first : AreFirstSets names edges sets) where
    least-of : (set : List Oid) → Contains sets set → (p : LabelPath) × Contains first.paths p
        × IsLeastPath names edges p set
    least-of set there = zip-right (IsLeastPath names edges) first.paths sets set first.least there

    led-first : (set : List Oid) → Contains sets set → IsLedTo names edges set
    led-first set there = let from = least-of set there in (from.0, from.2.leads)

  -- of two lists of first sets, a set of the one is in the other, or all of the other are before it and in the one
  within-first : (sets others : List (List Oid)) (first : AreFirstSets names edges sets)
      (second : AreFirstSets names edges others)
      (set : List Oid) → Contains sets set
      → Contains others set ⊎ ((other : List Oid) → Contains others other → Contains sets other)
  within-first sets others first second set there =
      let from = least-of sets first set there in
      elim (second.others from.0 set from.2.leads) [
        | inl found ↦ inl found
        | inr behind ↦ inr (λ other in_others. (
            let own = least-of others second other in_others in
            elim (first.others own.0 other own.2.leads) [
              | inl found ↦ found
              | inr after ↦ absurd (before-not_back own.0 from.0
                  (All-contains (λ (p : LabelPath). ComesBefore p from.0) second.paths own.0 behind own.1)
                  (All-contains (λ (p : LabelPath). ComesBefore p own.0) first.paths from.0 after from.1))
            ]))
      ]

pub fitting_passes_none : FittingPassesNone
fitting_passes_none limit names edges fits passed = elim passed [
  | inl nodes ↦ (
      let keep = fits-first nodes.sets nodes.next nodes.first in
      omega (arith, keep.few, nodes.passed, length-append nodes.sets (nodes.next ∷ [])))
  | inr cells ↦ (
      let keep = fits-first cells.sets cells.next cells.first in
      omega (arith, keep.small, cells.passed, sum_by_push length cells.sets cells.next))
]
  where
    fits-first : (sets : List (List Oid)) (next : List Oid) → AreFirstSets names edges (sets ++ next ∷ [])
        → KeepLimits limit (sets ++ next ∷ [])
    fits-first sets next first =
        fits (sets ++ next ∷ [])
        (first-apart names edges first.paths (sets ++ next ∷ []) first.least first.ascending)
        (All-from_members (IsLedTo names edges) (sets ++ next ∷ []) (λ set there. led-first names edges (sets ++ next ∷ [])
        first set there))

pub one_limit_is_passed : OneLimitIsPassed
one_limit_is_passed limit names edges one two =
    let f1 = one.sets ++ one.next ∷ [] in
    let f2 = two.sets ++ two.next ∷ [] in
    let apart1 = first-apart names edges one.first.paths f1 one.first.least one.first.ascending in
    let apart2 = first-apart names edges two.first.paths f2 two.first.least two.first.ascending in
    let long : length f2 < length f1 = omega (
      arith,
      one.passed,
      two.room,
      length-append one.sets (one.next ∷ []),
      length-append two.sets (two.next ∷ []),
    ) in
    let not_all = λ (all : (set : List Oid) → Contains f1 set → Contains f2 set).
    (let few = distinct_no_longer f1 f2 apart1 all in let no : ⊥ = omega (arith, few, long) in no) in
    let last = last-path names edges one.first.paths one.sets one.next one.first.least one.first.ascending in
    let among = All-from_members (Contains one.sets) f2
    (λ set there. (elim (within-first names edges f2 f1 two.first one.first set there) [
      | inr all ↦ absurd (not_all all)
      | inl found ↦ elim (Contains-push_cases one.sets one.next set found) [
        | inl early ↦ early
        | inr same ↦ (
            let from = least-of names edges f2 two.first set there in
            let path = one-least names edges from.0 last.0 set from.2
            (subst (λ (s : List Oid). IsLeastPath names edges last.0 s) same last.2) in
            absurd (not_all (λ other in_one. (
            let own = least-of names edges f1 one.first other in_one in
            elim (two.first.others own.0 other own.2.leads) [
              | inl there_too ↦ there_too
              | inr behind ↦ (
                  let before = subst (λ (p : LabelPath). ComesBefore p own.0) path
                  (All-contains (λ (p : LabelPath). ComesBefore p own.0) two.first.paths from.0 behind from.1) in
                  elim (last.3 own.0 own.1) [
                    | inl is ↦ absurd (before-itself last.0 (subst (λ (p : LabelPath). ComesBefore last.0 p) is before))
                    | inr earlier ↦ absurd (before-not_back own.0 last.0 earlier before)
                  ])
            ]))))
      ]
    ])) in
    let small = sum_by-within length f2 one.sets apart2 among in
    omega (arith, small, two.passed, one.kept.small, sum_by_push length two.sets two.next)
