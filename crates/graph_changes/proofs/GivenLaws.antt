-- Objects that are given values, or come at their places.
use Rattle.std.proofs.Common.{◌≡◌, ◌≢◌, suc, ◌+◌, ◌<◌, ◌↔◌, ◌⊎◌, Bool, true, false, not, cond, nat_eq, nat_lt, inl, inr, List, [], ◌∷◌, ◌++◌, length, get_or, All, Contains, refl, sym, ap, ◌∙◌, subst, arith}
use Rattle.std.proofs.lemmas.Bool.{cases_lt, cases_eq}
use Rattle.std.proofs.lemmas.Bool.Decides.{nat_tests}
use Rattle.std.proofs.lemmas.List.Elements.{Contains-get_or}
use Rattle.lore_base.specs.Databases.{AreAscendingObjects, IsLive}
use Rattle.lore_base.proofs.ListLaws.{AllPairs-append, AllPairs-tail, AllPairs-head}
use Rattle.lore_base.proofs.MemberLaws.{Contains-none, Contains-head, Contains-tail, Contains-cases, Contains-same, unfiltered}
use Rattle.graph_changes.specs.Types.{Oid, Value}
use Rattle.graph_changes.specs.Puts.{with_object, with_objects}
use Rattle.graph_changes.specs.Left.{is_among, not_dead}
use Rattle.graph_changes.proofs.LeftLaws.{not_among}

-- ---- one object
pub with-past : (first given : Oid × Value) (objects : List (Oid × Value)) → first.0.0 < given.0.0 → with_object (first ∷ objects) given ≡ first ∷ with_object objects given
with-past first given objects less =
    let test : nat_lt first.0.0 given.0.0 ≡ true = grind (arith, nat_tests) in
    ap (λ (b : Bool). cond b (first ∷ with_object objects given) (cond (nat_eq first.0.0 given.0.0) (given ∷ objects) (given ∷ first ∷ objects))) test

pub with-here : (first given : Oid × Value) (objects : List (Oid × Value)) → first.0.0 ≡ given.0.0 → with_object (first ∷ objects) given ≡ given ∷ objects
with-here first given objects same =
    let test : nat_lt first.0.0 given.0.0 ≡ false = grind (arith, nat_tests) in
    let equal : nat_eq first.0.0 given.0.0 ≡ true = grind (arith, nat_tests) in
    ap (λ (b : Bool). cond b (first ∷ with_object objects given) (cond (nat_eq first.0.0 given.0.0) (given ∷ objects) (given ∷ first ∷ objects))) test
    ∙ ap (λ (b : Bool). cond b (given ∷ objects) (given ∷ first ∷ objects)) equal

pub with-front : (first given : Oid × Value) (objects : List (Oid × Value)) → given.0.0 < first.0.0 → with_object (first ∷ objects) given ≡ given ∷ first ∷ objects
with-front first given objects less =
    let test : nat_lt first.0.0 given.0.0 ≡ false = grind (arith, nat_tests) in
    let equal : nat_eq first.0.0 given.0.0 ≡ false = grind (arith, nat_tests) in
    ap (λ (b : Bool). cond b (first ∷ with_object objects given) (cond (nat_eq first.0.0 given.0.0) (given ∷ objects) (given ∷ first ∷ objects))) test
    ∙ ap (λ (b : Bool). cond b (given ∷ objects) (given ∷ first ∷ objects)) equal

same_number : (a b : Oid) → a.0 ≡ b.0 → a ≡ b
same_number a b same = ap (λ n. record { 0 = n }) same

pub objects-tail : (first : Oid × Value) (objects : List (Oid × Value)) → AreAscendingObjects (first ∷ objects) → AreAscendingObjects objects
objects-tail first objects ascend = AllPairs-tail (λ (a b : Oid × Value). a.0.0 < b.0.0) first objects ascend

pub objects-head : (first : Oid × Value) (objects : List (Oid × Value)) → AreAscendingObjects (first ∷ objects) → (o : Oid × Value) → Contains objects o → first.0.0 < o.0.0
objects-head first objects ascend o at = AllPairs-head (λ (a b : Oid × Value). a.0.0 < b.0.0) first objects ascend o at

objects-cons : (first : Oid × Value) (objects : List (Oid × Value)) → ((o : Oid × Value) → Contains objects o → first.0.0 < o.0.0) → AreAscendingObjects objects → AreAscendingObjects (first ∷ objects)
objects-cons first objects above ascend =
    AllPairs-append (λ (a b : Oid × Value). a.0.0 < b.0.0) (first ∷ []) objects (λ i j d lt len. absurd (omega (arith, len))) ascend
    (λ i j d lt_i lt_j.
    let here : i ≡ 0 = omega arith in
    rw here (above (get_or objects j d) (Contains-get_or objects j d lt_j)))

-- what there is then: the given object, and those of before that have other numbers
pub in-with : (objects : List (Oid × Value)) (given o : Oid × Value) → AreAscendingObjects objects → Contains (with_object objects given) o
    → (given ≡ o) ⊎ (Contains objects o × (o.0.0 ≢ given.0.0))
in-with [] given o ascend at = elim (Contains-cases given [] o at) [ inl same ↦ inl same | inr none ↦ absurd (Contains-none o none) ]
in-with (first ∷ objects) given o ascend at = elim (cases_lt first.0.0 given.0.0) [
  | inl less ↦ elim (Contains-cases first (with_object objects given) o (subst (λ (l : List (Oid × Value)). Contains l o) (with-past first given objects less) at)) [
    | inl same ↦ inr (Contains-same (first ∷ objects) first o same (Contains-head first objects), λ equal. omega (arith, less, equal, ap (λ (x : Oid × Value). x.0.0) same))
    | inr later ↦ elim (in-with objects given o (objects-tail first objects ascend) later) [
      | inl new ↦ inl new
      | inr old ↦ inr (Contains-tail first objects o old.0, old.1)
    ]
  ]
  | inr ge ↦ elim (cases_eq first.0.0 given.0.0) [
    | inl same ↦ elim (Contains-cases given objects o (subst (λ (l : List (Oid × Value)). Contains l o) (with-here first given objects same) at)) [
      | inl new ↦ inl new
      | inr later ↦ inr (Contains-tail first objects o later, λ equal. omega (arith, same, equal, objects-head first objects ascend o later))
    ]
    | inr other ↦
        let more : given.0.0 < first.0.0 = omega (arith, ge, other) in
        elim (Contains-cases given (first ∷ objects) o (subst (λ (l : List (Oid × Value)). Contains l o) (with-front first given objects more) at)) [
          | inl new ↦ inl new
          | inr later ↦ inr (
            later,
            λ equal. elim (Contains-cases first objects o later) [
              | inl here ↦ omega (arith, more, equal, ap (λ (x : Oid × Value). x.0.0) here)
              | inr behind ↦ omega (arith, more, equal, objects-head first objects ascend o behind)
            ],
          )
        ]
  ]
]

pub new-with : (objects : List (Oid × Value)) (given : Oid × Value) → Contains (with_object objects given) given
new-with [] given = Contains-head given []
new-with (first ∷ objects) given = elim (cases_lt first.0.0 given.0.0) [
  | inl less ↦ subst (λ (l : List (Oid × Value)). Contains l given) (sym (with-past first given objects less)) (Contains-tail first (with_object objects given) given (new-with objects given))
  | inr ge ↦ elim (cases_eq first.0.0 given.0.0) [
    | inl same ↦ subst (λ (l : List (Oid × Value)). Contains l given) (sym (with-here first given objects same)) (Contains-head given objects)
    | inr other ↦ subst (λ (l : List (Oid × Value)). Contains l given) (sym (with-front first given objects (omega (arith, ge, other)))) (Contains-head given (first ∷ objects))
  ]
]

pub kept-with : (objects : List (Oid × Value)) (given o : Oid × Value) → Contains objects o → o.0.0 ≢ given.0.0 → Contains (with_object objects given) o
kept-with [] given o at other = absurd (Contains-none o at)
kept-with (first ∷ objects) given o at other = elim (cases_lt first.0.0 given.0.0) [
  | inl less ↦ subst (λ (l : List (Oid × Value)). Contains l o) (sym (with-past first given objects less)) (elim (Contains-cases first objects o at) [
    | inl same ↦ Contains-same (first ∷ with_object objects given) first o same (Contains-head first (with_object objects given))
    | inr later ↦ Contains-tail first (with_object objects given) o (kept-with objects given o later other)
  ])
  | inr ge ↦ elim (cases_eq first.0.0 given.0.0) [
    | inl same ↦ subst (λ (l : List (Oid × Value)). Contains l o) (sym (with-here first given objects same)) (elim (Contains-cases first objects o at) [
      | inl here ↦ absurd (other (sym (ap (λ (x : Oid × Value). x.0.0) here) ∙ same))
      | inr later ↦ Contains-tail given objects o later
    ])
    | inr apart ↦ subst (λ (l : List (Oid × Value)). Contains l o) (sym (with-front first given objects (omega (arith, ge, apart)))) (Contains-tail given (first ∷ objects) o at)
  ]
]

pub ascend-with : (objects : List (Oid × Value)) (given : Oid × Value) → AreAscendingObjects objects → AreAscendingObjects (with_object objects given)
ascend-with [] given ascend = λ i j d lt len. absurd (omega (arith, len))
ascend-with (first ∷ objects) given ascend = elim (cases_lt first.0.0 given.0.0) [
  | inl less ↦ subst AreAscendingObjects (sym (with-past first given objects less))
      (objects-cons first (with_object objects given)
      (λ o at. elim (in-with objects given o (objects-tail first objects ascend) at) [
        | inl new ↦ omega (arith, less, ap (λ (x : Oid × Value). x.0.0) new)
        | inr old ↦ objects-head first objects ascend o old.0
      ])
      (ascend-with objects given (objects-tail first objects ascend)))
  | inr ge ↦ elim (cases_eq first.0.0 given.0.0) [
    | inl same ↦ subst AreAscendingObjects (sym (with-here first given objects same))
        (objects-cons given objects (λ o at. omega (arith, same, objects-head first objects ascend o at)) (objects-tail first objects ascend))
    | inr other ↦
        let more : given.0.0 < first.0.0 = omega (arith, ge, other) in
        subst AreAscendingObjects (sym (with-front first given objects more))
        (objects-cons given (first ∷ objects) (λ o at. elim (Contains-cases first objects o at) [
          | inl here ↦ omega (arith, more, ap (λ (x : Oid × Value). x.0.0) here)
          | inr behind ↦ omega (arith, more, objects-head first objects ascend o behind)
        ]) ascend)
  ]
]

-- ---- several objects
pub ascend-with_objects : (objects given : List (Oid × Value)) → AreAscendingObjects objects → AreAscendingObjects (with_objects objects given)
ascend-with_objects objects [] ascend = ascend
ascend-with_objects objects (first ∷ given) ascend = ascend-with_objects (with_object objects first) given (ascend-with objects first ascend)

pub in-with_objects : (objects given : List (Oid × Value)) (o : Oid × Value) → AreAscendingObjects objects → Contains (with_objects objects given) o
    → Contains given o ⊎ (Contains objects o × (IsLive given o.0 → ⊥))
in-with_objects objects [] o ascend at = inr (at, λ live. Contains-none _ live.1)
in-with_objects objects (first ∷ given) o ascend at = elim (in-with_objects (with_object objects first) given o (ascend-with objects first ascend) at) [
  | inl later ↦ inl (Contains-tail first given o later)
  | inr both ↦ elim (in-with objects first o ascend both.0) [
    | inl new ↦ inl (Contains-same (first ∷ given) first o new (Contains-head first given))
    | inr old ↦ inr (
      old.0,
      λ live. elim (Contains-cases first given (o.0, live.0) live.1) [
        | inl here ↦ old.1 (ap (λ (x : Oid × Value). x.0.0) (sym here))
        | inr later ↦ both.1 (live.0, later)
      ],
    )
  ]
]

pub kept-with_objects : (objects given : List (Oid × Value)) (o : Oid × Value) → Contains objects o → (IsLive given o.0 → ⊥) → Contains (with_objects objects given) o
kept-with_objects objects [] o at none = at
kept-with_objects objects (first ∷ given) o at none =
    kept-with_objects (with_object objects first) given o
    (kept-with objects first o at (λ same. none (first.1, Contains-same (first ∷ given) first (o.0, first.1) (ap (λ (x : Oid). (x, first.1)) (same_number first.0 o.0 (sym same))) (Contains-head first given))))
    (λ live. none (live.0, Contains-tail first given (o.0, live.0) live.1))

pub new-with_objects : (objects given : List (Oid × Value)) (o : Oid × Value) → AreAscendingObjects given → Contains given o → Contains (with_objects objects given) o
new-with_objects objects [] o ascend at = absurd (Contains-none o at)
new-with_objects objects (first ∷ given) o ascend at = elim (Contains-cases first given o at) [
  | inl same ↦ kept-with_objects (with_object objects first) given o (Contains-same (with_object objects first) first o same (new-with objects first))
      (λ live. omega (arith, objects-head first given ascend (o.0, live.0) live.1, ap (λ (x : Oid × Value). x.0.0) same))
  | inr later ↦ new-with_objects (with_object objects first) given o (objects-tail first given ascend) later
]

pub members-with_objects : (objects given : List (Oid × Value)) → AreAscendingObjects objects → AreAscendingObjects given → (o : Oid × Value)
    → Contains (with_objects objects given) o ↔ (Contains given o ⊎ (Contains objects o × (IsLive given o.0 → ⊥)))
members-with_objects objects given ascend ordered o = (
  in-with_objects objects given o ascend,
  λ either. elim either [ inl new ↦ new-with_objects objects given o ordered new | inr old ↦ kept-with_objects objects given o old.0 old.1 ],
)

-- one after another
pub with-more : (objects given : List (Oid × Value)) (last : Oid × Value) → with_objects objects (given ++ last ∷ []) ≡ with_object (with_objects objects given) last
with-more objects [] last = refl
with-more objects (first ∷ given) last = with-more (with_object objects first) given last

-- ---- dead objects go before or after
front-all : (given : Oid × Value) (objects : List (Oid × Value)) → ((o : Oid × Value) → Contains objects o → given.0.0 < o.0.0) → with_object objects given ≡ given ∷ objects
front-all given [] above = refl
front-all given (first ∷ objects) above = with-front first given objects (above first (Contains-head first objects))

drop-with : (dead : List Oid) (objects : List (Oid × Value)) (given : Oid × Value) → AreAscendingObjects objects → is_among dead given.0 ≡ false
    → not_dead dead (with_object objects given) ≡ with_object (not_dead dead objects) given
drop-with dead [] given ascend lives = ap (λ (b : Bool). cond (not b) (given ∷ []) []) lives
drop-with dead (first ∷ objects) given ascend lives = elim (cases_lt first.0.0 given.0.0) [
  | inl less ↦
      let later = drop-with dead objects given (objects-tail first objects ascend) lives in
      ap (not_dead dead) (with-past first given objects less)
      ∙ (elim (is_among dead first.0) as (λ b. cond (not b) (first ∷ not_dead dead (with_object objects given)) (not_dead dead (with_object objects given))
      ≡ with_object (cond (not b) (first ∷ not_dead dead objects) (not_dead dead objects)) given) [
        | true ↦ later
        | false ↦ ap (λ (l : List (Oid × Value)). first ∷ l) later ∙ sym (with-past first given (not_dead dead objects) less)
      ])
  | inr ge ↦ elim (cases_eq first.0.0 given.0.0) [
    | inl same ↦
        let first_lives : is_among dead first.0 ≡ false = ap (is_among dead) (same_number first.0 given.0 same) ∙ lives in
        ap (not_dead dead) (with-here first given objects same)
        ∙ ap (λ (b : Bool). cond (not b) (given ∷ not_dead dead objects) (not_dead dead objects)) lives
        ∙ sym (with-here first given (not_dead dead objects) same)
        ∙ ap (λ (b : Bool). with_object (cond (not b) (first ∷ not_dead dead objects) (not_dead dead objects)) given) (sym first_lives)
    | inr other ↦
        let more : given.0.0 < first.0.0 = omega (arith, ge, other) in
        ap (not_dead dead) (with-front first given objects more)
        ∙ ap (λ (b : Bool). cond (not b) (given ∷ not_dead dead (first ∷ objects)) (not_dead dead (first ∷ objects))) lives
        ∙ sym (front-all given (not_dead dead (first ∷ objects))
        (λ o at. elim (Contains-cases first objects o (unfiltered (λ (x : Oid × Value). not (is_among dead x.0)) (first ∷ objects) o at).0) [
          | inl here ↦ omega (arith, more, ap (λ (x : Oid × Value). x.0.0) here)
          | inr behind ↦ omega (arith, more, objects-head first objects ascend o behind)
        ]))
  ]
]

pub drop-with_objects : (dead : List Oid) (objects given : List (Oid × Value)) → AreAscendingObjects objects → All (λ object. ¬ Contains dead object.0) given
    → not_dead dead (with_objects objects given) ≡ with_objects (not_dead dead objects) given
drop-with_objects dead objects [] ascend live = refl
drop-with_objects dead objects (first ∷ given) ascend live =
    drop-with_objects dead (with_object objects first) given (ascend-with objects first ascend) (λ k d lt. live (suc k) d (omega arith))
    ∙ ap (λ (l : List (Oid × Value)). with_objects l given) (drop-with dead objects first ascend (not_among dead first.0 (live 0 first (omega arith))))

-- ---- how many there are then
pub length-old : (objects : List (Oid × Value)) (given : Oid × Value) → AreAscendingObjects objects → IsLive objects given.0 → length (with_object objects given) ≡ length objects
length-old [] given ascend live = absurd (Contains-none _ live.1)
length-old (first ∷ objects) given ascend live = elim (cases_lt first.0.0 given.0.0) [
  | inl less ↦
      let later : IsLive objects given.0 = elim (Contains-cases first objects (given.0, live.0) live.1) [
        | inl here ↦ absurd (omega (arith, less, ap (λ (x : Oid × Value). x.0.0) here))
        | inr behind ↦ (live.0, behind)
      ] in
      let rest = length-old objects given (objects-tail first objects ascend) later in
      ap length (with-past first given objects less) ∙ omega (arith, rest)
  | inr ge ↦ elim (cases_eq first.0.0 given.0.0) [
    | inl same ↦ ap length (with-here first given objects same)
    | inr other ↦ absurd (elim (Contains-cases first objects (given.0, live.0) live.1) [
      | inl here ↦ other (ap (λ (x : Oid × Value). x.0.0) here)
      | inr behind ↦ omega (arith, ge, other, objects-head first objects ascend (given.0, live.0) behind)
    ])
  ]
]

pub length-new : (objects : List (Oid × Value)) (given : Oid × Value) → (¬ IsLive objects given.0) → length (with_object objects given) ≡ length objects + 1
length-new [] given none = refl
length-new (first ∷ objects) given none = elim (cases_lt first.0.0 given.0.0) [
  | inl less ↦
      let rest = length-new objects given (λ live. none (live.0, Contains-tail first objects (given.0, live.0) live.1)) in
      ap length (with-past first given objects less) ∙ omega (arith, rest)
  | inr ge ↦ elim (cases_eq first.0.0 given.0.0) [
    | inl same ↦ absurd (none (first.1, Contains-same (first ∷ objects) first (given.0, first.1) (ap (λ (x : Oid). (x, first.1)) (same_number first.0 given.0 same)) (Contains-head first objects)))
    | inr other ↦ ap length (with-front first given objects (omega (arith, ge, other))) ∙ omega arith
  ]
]
