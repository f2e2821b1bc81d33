-- Kinds of objects, one named object after another.
use Rattle.std.proofs.Common.{◌≡◌, ℕ, ◌+◌, ◌<◌, inl, inr, Some, List, [], ◌∷◌, ◌++◌, length, get_or, set, replicate}
use Rattle.std.proofs.Common.{sym, ap, ◌∙◌, subst, arith, length-set, get_or-set_same, get_or-set_other}
use Rattle.std.specs.List.{AllPairs, Contains, slice_get}
use Rattle.std.specs.Prelude.{slice_index}
use Rattle.std.proofs.lemmas.List.{get_or-replicate, length-replicate}
use Rattle.std.proofs.lemmas.List.Elements.{Contains-append_left, Contains-push, Contains-push_cases}
use Rattle.std.proofs.lemmas.Option.{same_Some, slice_get_within}
use Rattle.lore_base.proofs.MemberLaws.{Contains-none}
use Rattle.list_laws.proofs.PlaceLaws.{Contains-from_place}
use Rattle.one_index.specs.Types.{Oid}
use Rattle.one_index.specs.inside.Kinds.{AreKinds, IsKindSet}
use Rattle.block_rounds.proofs.MapLaws.{same_or_not}
use Rattle.one_index.proofs.PlaceLaws.{place_once}

module _ (objects : List Oid) where
  -- no object is named
  pub AreKinds-none : (kinds : List ℕ) → kinds ≡ replicate (length objects) 0 → AreKinds objects [] kinds
  AreKinds-none kinds are = record {
    every = ap length are ∙ length-replicate (length objects) 0;
    either = λ place oid at. inr (
      λ held. Contains-none oid held,
      ap (λ (l : List ℕ). get_or l place 0) are ∙ get_or-replicate (length objects) place 0 0 (slice_get_within objects place oid at),
    );
  }

  -- one more named object
  pub AreKinds-more : AllPairs (λ a b. a.0 < b.0) objects → (named : List Oid) (oid : Oid) (old new : List ℕ)
      → IsKindSet objects oid old new → AreKinds objects named old → AreKinds objects (named ++ oid ∷ []) new
  AreKinds-more ascend named oid old new (inl put) before =
      let place = put.0 in
      let within : place < length old = omega (arith, slice_get_within objects place oid put.1, before.every) in
      record {
        every = ap length put.2 ∙ length-set old place (place + 1) ∙ before.every;
        either = λ other x at. elim (same_or_not place other) [
          | inl here ↦
              let is : oid ≡ x = same_Some oid x (sym put.1 ∙ ap (slice_get objects) here ∙ at) in
              let read : slice_index new other ≡ place + 1 =
              ap (λ (l : List ℕ). get_or l other 0) put.2 ∙ ap (λ (k : ℕ). get_or (set old place (place + 1)) k 0) (sym here)
              ∙ get_or-set_same old place (place + 1) 0 within in
              inl (subst (λ (o : Oid). Contains (named ++ oid ∷ []) o) is (Contains-push named oid), omega (arith, read, here))
          | inr apart ↦
              let read : slice_index new other ≡ slice_index old other =
              ap (λ (l : List ℕ). get_or l other 0) put.2 ∙ get_or-set_other old place other (place + 1) 0 (λ same. apart (sym same)) in
              elim (before.either other x at) [
                | inl own ↦ inl (Contains-append_left named (oid ∷ []) x own.0, read ∙ own.1)
                | inr none ↦ inr (
                  λ held. elim (Contains-push_cases named oid x held) [
                    | inl earlier ↦ none.0 earlier
                    | inr last ↦ apart (place_once objects ascend place other x (put.1 ∙ ap (λ (o : Oid). Some o) last) at)
                  ],
                  read ∙ none.1,
                )
              ]
        ];
      }
  AreKinds-more ascend named oid old new (inr still) before = record {
    every = ap length still.1 ∙ before.every;
    either = λ other x at.
        let read : slice_index new other ≡ slice_index old other = ap (λ (l : List ℕ). get_or l other 0) still.1 in
        elim (before.either other x at) [
          | inl own ↦ inl (Contains-append_left named (oid ∷ []) x own.0, read ∙ own.1)
          | inr none ↦ inr (
            λ held. elim (Contains-push_cases named oid x held) [
              | inl earlier ↦ none.0 earlier
              | inr last ↦ still.0 (subst (λ (o : Oid). Contains objects o) (sym last) (Contains-from_place objects other x at))
            ],
            read ∙ none.1,
          )
        ];
  }
