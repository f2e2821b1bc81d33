-- Loops over edges and over pairs, one step on.
use Rattle.std.proofs.Common.{◌≡◌, ◌⊎◌, ◌↔◌, ℕ, ◌+◌, ◌<◌, inl, inr, Less, List, [], ◌∷◌, ◌++◌, length, take, get_or, Contains, sym, subst}
use Rattle.std.proofs.lemmas.List.{take_more}
use Rattle.lore_base.proofs.MemberLaws.{Contains-none, Contains-same}
use Rattle.value_changes.specs.Types.{Oid, Edge}
use Rattle.value_changes.specs.declared.pairs.Pair.{Pair}
use Rattle.sorted_list.specs.SortedLists.{Ascends}
use Rattle.value_changes.specs.inside.Sets.{AreSetOf}
use Rattle.value_changes.specs.inside.Pairs.{pair_cmp, AreKept, IsMoving}
use Rattle.value_changes.proofs.SortedLaws.{in-more, below-next, set-none, set-more, set-same}

-- the edges that are not lost
pub kept-none : (lost : List Edge) → AreKept [] lost []
kept-none lost = record {
  exact = λ edge. (λ at. absurd (Contains-none edge at), λ h. absurd (Contains-none edge h.0));
}

-- where the lost edges were put in order
pub kept-sorted : (edges lost sorted kept : List Edge) → ((edge : Edge) → Contains sorted edge ↔ Contains lost edge)
    → AreKept edges sorted kept → AreKept edges lost kept
kept-sorted edges lost sorted kept members keeps = record {
  exact = λ edge. (
    λ at. (let h = (keeps.exact edge).0 at in (h.0, λ gone. h.1 ((members edge).1 gone))),
    λ h. (keeps.exact edge).1 (h.0, λ gone. h.1 ((members edge).0 gone)),
  );
}

module _ (front lost kept : List Edge) (next : Edge) (sofar : AreKept front lost kept) where
  kept-pushed : (Contains lost next → ⊥) → AreKept (front ++ next ∷ []) lost (kept ++ next ∷ [])
  kept-pushed stays = record {
    exact = λ edge. (
      λ at. elim ((in-more kept next edge).0 at) [
        | inl early ↦
            let h = (sofar.exact edge).0 early in
            ((in-more front next edge).1 (inl h.0), h.1)
        | inr same ↦ (
          (in-more front next edge).1 (inr same),
          subst (λ (e : Edge). Contains lost e → ⊥) same stays,
        )
      ],
      λ h. (in-more kept next edge).1 (elim ((in-more front next edge).0 h.0) [
        | inl early ↦ inl ((sofar.exact edge).1 (early, h.1))
        | inr same ↦ inr same
      ]),
    );
  }

  kept-skipped : Contains lost next → AreKept (front ++ next ∷ []) lost kept
  kept-skipped gone = record {
    exact = λ edge. (
      λ at. (let h = (sofar.exact edge).0 at in ((in-more front next edge).1 (inl h.0), h.1)),
      λ h. elim ((in-more front next edge).0 h.0) [
        | inl early ↦ (sofar.exact edge).1 (early, h.1)
        | inr same ↦ absurd (h.1 (Contains-same lost next edge same gone))
      ],
    );
  }

module _ (edges lost kept : List Edge) (place : ℕ) (d : Edge) (lt : place < length edges)
    (sofar : AreKept (take place edges) lost kept) where
  pub kept-more : (longer : List Edge) → longer ≡ kept ++ get_or edges place d ∷ []
      → (Contains lost (get_or edges place d) → ⊥) → AreKept (take (place + 1) edges) lost longer
  kept-more longer is stays =
      rw (take_more edges place d lt, is) (kept-pushed (take place edges) lost kept (get_or edges place d) sofar stays)

  pub kept-less : Contains lost (get_or edges place d) → AreKept (take (place + 1) edges) lost kept
  kept-less gone =
      rw (take_more edges place d lt) (kept-skipped (take place edges) lost kept (get_or edges place d) sofar gone)

-- the pairs that move
pub moving-none : (others : List Pair) (given : List Oid) → AreSetOf pair_cmp (IsMoving [] others given) []
moving-none others given =
    set-none pair_cmp (IsMoving [] others given) (λ pair moves. Contains-none pair moves.0)

-- all of them where there are no others
pub moving-all : (pairs others : List Pair) (given : List Oid) → others ≡ [] → Ascends pair_cmp pairs
    → AreSetOf pair_cmp (IsMoving pairs others given) pairs
moving-all pairs others given none ascend = rw none (record {
  ascend = ascend;
  exact = λ pair. (λ at. (at, inr (λ there. Contains-none pair there)), λ moves. moves.0);
})

module _ (front others : List Pair) (given : List Oid) (moving : List Pair) (next : Pair)
    (sofar : AreSetOf pair_cmp (IsMoving front others given) moving) where
  moving-pushed : ((pair : Pair) → Contains front pair → pair_cmp pair next ≡ Less)
      → Contains given next.object ⊎ (Contains others next → ⊥)
      → AreSetOf pair_cmp (IsMoving (front ++ next ∷ []) others given) (moving ++ next ∷ [])
  moving-pushed below moves =
      set-more pair_cmp (IsMoving front others given) (IsMoving (front ++ next ∷ []) others given) moving next sofar
      (λ pair h. below pair h.0) (λ pair. (
        λ h. elim ((in-more front next pair).0 h.0) [ inl early ↦ inl (early, h.1) | inr same ↦ inr same ],
        λ either. elim either [
          | inl h ↦ ((in-more front next pair).1 (inl h.0), h.1)
          | inr same ↦ (
            (in-more front next pair).1 (inr same),
            subst (λ (p : Pair). Contains given p.object ⊎ (Contains others p → ⊥)) same moves,
          )
        ],
      ))

  moving-skipped : (Contains given next.object → ⊥) → Contains others next
      → AreSetOf pair_cmp (IsMoving (front ++ next ∷ []) others given) moving
  moving-skipped not_given there =
      set-same pair_cmp (IsMoving front others given) (IsMoving (front ++ next ∷ []) others given) moving sofar
      (λ pair. (
        λ h. elim ((in-more front next pair).0 h.0) [
          | inl early ↦ (early, h.1)
          | inr same ↦ absurd (elim h.1 [
            | inl is_given ↦ not_given (subst (λ (p : Pair). Contains given p.object) (sym same) is_given)
            | inr away ↦ away (Contains-same others next pair same there)
          ])
        ],
        λ h. ((in-more front next pair).1 (inl h.0), h.1),
      ))

module _ (pairs others : List Pair) (given : List Oid) (moving : List Pair) (place : ℕ) (d : Pair) (lt : place < length pairs)
    (sofar : AreSetOf pair_cmp (IsMoving (take place pairs) others given) moving) where
  pub moving-more : Ascends pair_cmp pairs → (longer : List Pair) → longer ≡ moving ++ get_or pairs place d ∷ []
      → Contains given (get_or pairs place d).object ⊎ (Contains others (get_or pairs place d) → ⊥)
      → AreSetOf pair_cmp (IsMoving (take (place + 1) pairs) others given) longer
  moving-more ascend longer is moves =
      rw (take_more pairs place d lt, is)
      (moving-pushed (take place pairs) others given moving (get_or pairs place d) sofar
      (below-next pair_cmp pairs ascend place d lt) moves)

  pub moving-less : (Contains given (get_or pairs place d).object → ⊥) → Contains others (get_or pairs place d)
      → AreSetOf pair_cmp (IsMoving (take (place + 1) pairs) others given) moving
  moving-less not_given there =
      rw (take_more pairs place d lt)
      (moving-skipped (take place pairs) others given moving (get_or pairs place d) sofar not_given there)
