-- What paths spell and reach, taken apart and put together.
use Rattle.std.proofs.Common.{◌≡◌, ℕ, zero, suc, List, [], ◌∷◌, ◌++◌, length, All, subst, refl, sym, ap, ◌∙◌}
use Rattle.std.specs.List.{AllZip}
use Rattle.std.proofs.lemmas.List.{append-nil}
use Rattle.std.proofs.lemmas.List.Elements.{All-nil, All-cons, All-head, All-tail}
use Rattle.lore_base.specs.Types.{Oid, Label, Edge}
use Rattle.lore_base.specs.Walks.{Walk}
use Rattle.lore_base.specs.Paths.{PathTree, seq, none, more, trees_of, Times, Spells, SpellInTurn, Reaches}
use Rattle.lore_base.specs.PathLaws.{joined, JoinsItsParts, RepeatsItsPart, RepeatsOnceOrMore, GoesOn}
use Rattle.lore_base.proofs.WalkLaws.{Walk-append, Walk-split}

-- ---- sequences
pub parts_split : (labels : List (List ℕ)) (parts : List PathTree) (word : List Label) → SpellInTurn labels (trees_of parts) word
    → (words : List (List Label)) × (word ≡ joined words) × AllZip (Spells labels) parts words
parts_split labels [] word h = ([], h, tt)
parts_split labels (part ∷ parts) word h =
    let later = parts_split labels parts h.1 h.4 in
    (h.0 ∷ later.0, h.2 ∙ ap (λ l. h.0 ++ l) later.1, (h.3, later.2))

pub parts_join : (labels : List (List ℕ)) (parts : List PathTree) (words : List (List Label)) (word : List Label)
    → word ≡ joined words → AllZip (Spells labels) parts words → SpellInTurn labels (trees_of parts) word
parts_join labels [] [] word same h = same
parts_join labels [] (first ∷ words) word same h = absurd h
parts_join labels (part ∷ parts) [] word same h = absurd h
parts_join labels (part ∷ parts) (first ∷ words) word same h =
    (first, joined words, same, h.0, parts_join labels parts words (joined words) refl h.1)

pub joins_its_parts : JoinsItsParts
joins_its_parts labels parts word =
    (λ h. parts_split labels parts word h, λ h. parts_join labels parts h.0 word h.1 h.2)

-- ---- repetitions
pub Times-split : (Passes : List Label → Type 0) (count : ℕ) (word : List Label) → Times Passes count word
    → (words : List (List Label)) × (word ≡ joined words) × All Passes words
Times-split Passes zero word h = ([], h, All-nil Passes)
Times-split Passes (suc count) word h =
    let later = Times-split Passes count h.1 h.4 in
    (h.0 ∷ later.0, h.2 ∙ ap (λ l. h.0 ++ l) later.1, All-cons Passes h.0 later.0 h.3 later.2)

pub Times-join : (Passes : List Label → Type 0) (words : List (List Label)) (word : List Label) → word ≡ joined words
    → All Passes words → Times Passes (length words) word
Times-join Passes [] word same h = same
Times-join Passes (first ∷ words) word same h =
    (first, joined words, same, All-head Passes first words h, Times-join Passes words (joined words) refl (All-tail Passes first words h))

pub repeats_its_part : RepeatsItsPart
repeats_its_part labels part word =
    (λ h. Times-split (Spells labels part) h.0 word h.1, λ h. (length h.0, Times-join (Spells labels part) h.0 word h.1 h.2))

pub repeats_once_or_more : RepeatsOnceOrMore
repeats_once_or_more labels part word = (
  λ h. (h.1.0, h.1.1, h.1.2, h.1.3, (h.0, h.1.4)),
  λ h. (h.4.0, (h.0, h.1, h.2, h.3, h.4.1)),
)

-- ---- what is reached
going_on : (labels : List (List ℕ)) (edges : List Edge) (first second : PathTree) (start between oid : Oid)
    → Reaches labels edges first start between → Reaches labels edges second between oid
    → Reaches labels edges (seq (more first (more second none))) start oid
going_on labels edges first second start between oid before after = (
  before.0 ++ after.0,
  (before.0, after.0, refl, before.1, (after.0, [], sym (append-nil after.0), after.1, refl)),
  Walk-append edges start before.0 between after.0 oid before.2 after.2,
)

-- a word of the one and then of the other
both_split : (labels : List (List ℕ)) (first second : PathTree) (word : List Label) → Spells labels (seq (more first (more second none))) word
    → (front : List Label) × (rest : List Label) × (word ≡ front ++ rest) × Spells labels first front × Spells labels second rest
both_split labels first second word h =
    let last = h.4 in
    (h.0, last.0, h.2 ∙ ap (λ l. h.0 ++ l) (last.2 ∙ ap (λ l. last.0 ++ l) last.4 ∙ append-nil last.0), h.3, last.3)

pub goes_on : GoesOn
goes_on labels edges first second start oid = (
  λ h. let parts = both_split labels first second h.0 h.1 in
      let walks = Walk-split edges start parts.0 parts.1 oid (subst (λ l. Walk edges start l oid) parts.2 h.2) in
      (walks.0, (parts.0, parts.3, walks.1), (parts.1, parts.4, walks.2)),
  λ h. going_on labels edges first second start h.0 oid h.1 h.2,
)
