-- What a path of some parts and then of more leads to.
use Rattle.std.proofs.Common.{◌≡◌, ℕ, List, [], ◌∷◌, ◌++◌, subst, refl, sym, ap, ◌∙◌, append_assoc}
use Rattle.lorel_bind.specs.Types.{Oid, Edge}
use Rattle.lore_base.specs.declared.edges.Label.{Label}
use Rattle.lore_base.specs.Walks.{Walk}
use Rattle.lore_base.specs.Paths.{PathTree, seq, trees_of, SpellInTurn, Reaches}
use Rattle.lore_base.proofs.WalkLaws.{Walk-append, Walk-split}

SpellInTurn-split : (labels : List (List ℕ)) (parts more : List PathTree) (word : List Label) → SpellInTurn labels (trees_of (parts ++ more)) word
    → (front : List Label) × (rest : List Label) × (word ≡ front ++ rest) × SpellInTurn labels (trees_of parts) front × SpellInTurn labels (trees_of more) rest
SpellInTurn-split labels [] more word h = ([], word, refl, refl, h)
SpellInTurn-split labels (part ∷ parts) more word h =
    let later = SpellInTurn-split labels parts more h.1 h.4 in (
      h.0 ++ later.0,
      later.1,
      h.2 ∙ ap (λ (w : List Label). h.0 ++ w) later.2 ∙ sym (append_assoc h.0 later.0 later.1),
      (h.0, later.0, refl, h.3, later.3),
      later.4,
    )

SpellInTurn-join : (labels : List (List ℕ)) (parts more : List PathTree) (front rest : List Label) → SpellInTurn labels (trees_of parts) front
    → SpellInTurn labels (trees_of more) rest → SpellInTurn labels (trees_of (parts ++ more)) (front ++ rest)
SpellInTurn-join labels [] more front rest h k = subst (λ (w : List Label). SpellInTurn labels (trees_of more) (w ++ rest)) (sym h) k
SpellInTurn-join labels (part ∷ parts) more front rest h k = (
  h.0,
  h.1 ++ rest,
  ap (λ (w : List Label). w ++ rest) h.2 ∙ append_assoc h.0 h.1 rest,
  h.3,
  SpellInTurn-join labels parts more h.1 rest h.4 k,
)

module _ (labels : List (List ℕ)) (edges : List Edge) (parts more : List PathTree) (start oid : Oid) where
  -- there is an object where the first parts end
  pub Reaches-split : Reaches labels edges (seq (trees_of (parts ++ more))) start oid
      → (between : Oid) × Reaches labels edges (seq (trees_of parts)) start between × Reaches labels edges (seq (trees_of more)) between oid
  Reaches-split h =
      let words = SpellInTurn-split labels parts more h.0 h.1 in
      let walks = Walk-split edges start words.0 words.1 oid (subst (λ (w : List Label). Walk edges start w oid) words.2 h.2) in
      (walks.0, (words.0, words.3, walks.1), (words.1, words.4, walks.2))

  pub Reaches-join : (between : Oid) → Reaches labels edges (seq (trees_of parts)) start between
      → Reaches labels edges (seq (trees_of more)) between oid → Reaches labels edges (seq (trees_of (parts ++ more))) start oid
  Reaches-join between before after = (
    before.0 ++ after.0,
    SpellInTurn-join labels parts more before.0 after.0 before.1 after.1,
    Walk-append edges start before.0 between after.0 oid before.2 after.2,
  )
