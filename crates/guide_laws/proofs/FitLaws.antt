-- A guide fits, or the first set that passes a limit can be told.
use Rattle.std.proofs.Common.{◌≡◌, ◌⊎◌, ℕ, ◌+◌, ◌<◌, ◌≤◌, inl, inr, List, [], ◌∷◌, ◌++◌, length, All, AllPairs}
use Rattle.std.proofs.Common.{Contains}
use Rattle.std.proofs.Common.{refl, sym, ap, ◌∙◌, subst, append_assoc, arith, length-append}
use Rattle.std.specs.List.{AllZip}
use Rattle.std.proofs.lemmas.Bool.{cases_lt}
use Rattle.std.proofs.lemmas.List.{append-nil}
use Rattle.std.proofs.lemmas.List.Sums.{sum_by_push}
use Rattle.std.proofs.lemmas.List.Elements.{Contains-append_right, Contains-append_cases}
use Rattle.lore_base.specs.TargetSets.{LabelPath, LeadsTo, AreTargetSets}
use Rattle.lore_base.specs.PathOrder.{ComesBefore, IsLeastPath, AreInPathOrder}
use Rattle.lore_base.specs.GuideLimits.{cells, KeepLimits, AreFirstSets, ExceedsNodes, ExceedsCells}
use Rattle.lore_base.specs.declared.limits.TheConstants.{CELLS}
use Rattle.lore_base.proofs.ListLaws.{AllPairs-head, AllPairs-tail}
use Rattle.lore_base.proofs.MemberLaws.{Contains-none, Contains-cases}
use Rattle.lore_base.proofs.ToldLaws.{IsTold, told_same}
use Rattle.list_laws.proofs.PairLaws.{AllPairs-front}
use Rattle.list_laws.proofs.MemberLaws.{All-from_members}
use Rattle.dataguide.specs.Types.{Oid, Edge}
use Rattle.dataguide.proofs.PathOrder.{before-trans}
use Rattle.set_steps.proofs.PlaceLaws.{zip-right}
use Rattle.dataguide.proofs.CountLaws.{fit-counted}
use Rattle.guide_laws.specs.Laws.{FitsAreCounted, FitsAreTold, GuidesFitOrPass}
use Rattle.guide_laws.proofs.TargetSetLaws.{target_sets_exist}
use Rattle.guide_laws.proofs.OrderedSets.{ordered_sets_exist}

-- ---- the front of a list in order
pairs-across : {X : Type 0} (R : X → X → Type 0) (xs ys : List X) (x y : X) → AllPairs R (xs ++ ys) → Contains xs x
    → Contains ys y → R x y
pairs-across R [] ys x y pairs in_xs in_ys = absurd (Contains-none x in_xs)
pairs-across {X} R (first ∷ xs) ys x y pairs in_xs in_ys = elim (Contains-cases first xs x in_xs) [
  | inl same ↦ subst (λ (z : X). R z y) same
      (AllPairs-head R first (xs ++ ys) pairs y (Contains-append_right xs ys y in_ys))
  | inr later ↦ pairs-across R xs ys x y (AllPairs-tail R first (xs ++ ys) pairs) later in_ys
]

-- a list beside a joined one is joined too
record IsZipped {X Y : Type 0} (R : X → Y → Type 0) (xs : List X) (ys zs : List Y) : Type 0 where
  pub front : List X
  pub back : List X
  pub is : xs ≡ front ++ back
  pub fronts : AllZip R front ys
  pub backs : AllZip R back zs

zip-cut : {X Y : Type 0} (R : X → Y → Type 0) (xs : List X) (ys zs : List Y) → AllZip R xs (ys ++ zs)
    → IsZipped R xs ys zs
zip-cut R xs [] zs zip = record { front = []; back = xs; is = refl; fronts = tt; backs = zip }
zip-cut R [] (y ∷ ys) zs zip = absurd zip
zip-cut {X} R (x ∷ xs) (y ∷ ys) zs zip =
    let rest = zip-cut R xs ys zs zip.1 in
    record {
      front = x ∷ rest.front;
      back = rest.back;
      is = ap (λ (l : List X). x ∷ l) rest.is;
      fronts = (zip.0, rest.fronts);
      backs = rest.backs;
    }

module _ (names : List (List ℕ × Oid)) (edges : List Edge) (sets : List (List Oid))
    (are : AreTargetSets names edges sets) (order : AreInPathOrder names edges sets) where
  -- sets at the front of all sets in order are the first ones
  front-first : (front rest : List (List Oid)) → sets ≡ front ++ rest → AreFirstSets names edges front
  front-first front rest is = record {
    paths = cut.front;
    least = cut.fronts;
    ascending = AllPairs-front ComesBefore cut.front cut.back ascends;
    others = λ path set leads. (elim (Contains-append_cases front rest set
        (subst (λ (l : List (List Oid)). Contains l set) is ((are.exact set).1 (path, leads)))) [
          | inl there ↦ inl there
          | inr behind ↦ inr (All-from_members (λ (p : LabelPath). ComesBefore p path) cut.front
              (λ p there. later path set leads behind p there))
        ]);
  }
    where
      cut : IsZipped (IsLeastPath names edges) order.paths front rest
      cut = zip-cut (IsLeastPath names edges) order.paths front rest
          (subst (λ (l : List (List Oid)). AllZip (IsLeastPath names edges) order.paths l) is order.least)

      ascends : AllPairs ComesBefore (cut.front ++ cut.back)
      ascends = subst (λ (l : List LabelPath). AllPairs ComesBefore l) cut.is order.ascending

      later : (path : LabelPath) (set : List Oid) → LeadsTo names edges path set → Contains rest set
          → (p : LabelPath) → Contains cut.front p → ComesBefore p path
      later path set leads behind p there =
          let own = zip-right (IsLeastPath names edges) cut.back rest set cut.backs behind in
          let before = pairs-across ComesBefore cut.front cut.back p own.0 ascends there own.1 in
          elim (own.2.least path leads) [
            | inl same ↦ subst (λ (q : LabelPath). ComesBefore p q) same before
            | inr after ↦ before-trans p own.0 path before after
          ]

  -- sets that keep the limits are all, or one more passes one of them
  first-passing : (limit : ℕ) (rest front : List (List Oid)) → sets ≡ front ++ rest → KeepLimits limit front
      → KeepLimits limit sets ⊎ (ExceedsNodes limit names edges ⊎ ExceedsCells limit names edges)
  first-passing limit [] front is keep =
      inl (subst (KeepLimits limit) (sym (is ∙ append-nil front)) keep)
  first-passing limit (next ∷ rest) front is keep =
      let joined : sets ≡ (front ++ next ∷ []) ++ rest = is ∙ sym (append_assoc front (next ∷ []) rest) in
      let first = front-first (front ++ next ∷ []) rest joined in
      elim (cases_lt (length front) limit) [
        | inr full ↦ inr (inl (record { sets = front; next = next; first = first; kept = keep; passed = full }))
        | inl room ↦ elim (cases_lt CELLS (cells front + length next)) [
          | inl over ↦ inr (inr (record {
            sets = front;
            next = next;
            first = first;
            kept = keep;
            room = room;
            passed = over;
          }))
          | inr within ↦ first-passing limit rest (front ++ next ∷ []) joined (record {
            few = omega (arith, room, length-append front (next ∷ []));
            small = omega (arith, within, sum_by_push length front next);
          })
        ]
      ]

pub fits_are_counted : FitsAreCounted
fits_are_counted limit names edges sets are = fit-counted limit names edges sets are

told_keep : (limit : ℕ) (sets : List (List Oid)) → IsTold (KeepLimits limit sets)
told_keep limit sets = elim (cases_lt limit (length sets)) [
  | inl many ↦ inr (λ keep. omega (arith, many, keep.few))
  | inr few ↦ elim (cases_lt CELLS (cells sets)) [
    | inl over ↦ inr (λ keep. omega (arith, over, keep.small))
    | inr within ↦ inl (record { few = few; small = within })
  ]
]

pub fits_are_told : FitsAreTold
fits_are_told limit names edges =
    let all = target_sets_exist names edges in
    let counted = fits_are_counted limit names edges all.0 all.1 in
    told_same counted.1 counted.0 (told_keep limit all.0)

pub guides_fit_or_pass : GuidesFitOrPass
guides_fit_or_pass limit names edges table =
    let all = ordered_sets_exist names edges table in
    elim (first-passing names edges all.0 all.1 all.2 limit all.0 [] refl
    (record { few = omega arith; small = omega arith })) [
      | inl keep ↦ inl ((fits_are_counted limit names edges all.0 all.1).1 keep)
      | inr passed ↦ inr passed
    ]
