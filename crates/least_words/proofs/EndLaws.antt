-- The objects that are met at the end, place by place, and the words that are told of them.
use Rattle.std.proofs.Common.{◌≡◌, ℕ, ◌<◌, ◌≤◌, cond, inl, inr, List, [], ◌∷◌, ◌++◌, length, map, All, Option, Some, None, refl, sym, ap, ◌∙◌, subst, arith}
use Rattle.std.specs.Map.{lookup}
use Rattle.std.specs.Option.{IfSome, option_map}
use Rattle.std.proofs.lemmas.Bool.Decides.{eqb_tells}
use Rattle.std.proofs.lemmas.List.Elements.{All-contains, Contains-append_left, Contains-push, Contains-push_cases}
use Rattle.std.proofs.lemmas.Map.Made.{lookup-map_values}
use Rattle.lore_base.proofs.MemberLaws.{Contains-none}
use Rattle.path_expr.specs.Machines.{IsIn}
use Rattle.least_words.specs.Types.{Oid, Origin, Place, END}
use Rattle.least_words.specs.MachineWords.{same_oid, word_to}
use Rattle.least_words.specs.inside.Groups.{AreEnds, words_of, word_at}
use Rattle.least_words.proofs.GroupLaws.{length-words_of}

pub AreEnds-none : (oid : Oid) → AreEnds [] oid None
AreEnds-none oid place among = absurd (Contains-none place among)

-- a place that isn't the object's at the end
AreEnds-skip : (places : List Place) (place : Place) (oid : Oid) (end : Option ℕ) → (place.oid ≡ oid → IsIn place.states END → ⊥)
    → AreEnds places oid end → AreEnds (places ++ place ∷ []) oid end
AreEnds-skip places place oid None other ends = λ next among is at. elim (Contains-push_cases places place next among) [
  | inl earlier ↦ ends next earlier is at
  | inr same ↦ other (ap (λ (p : Place). p.oid) same ∙ is) (subst (λ (p : Place). IsIn p.states END) (sym same) at)
]
AreEnds-skip places place oid (Some group) other ends = (ends.0, Contains-append_left places (place ∷ []) ends.0 ends.1, ends.2, ends.3, ends.4)

pub AreEnds-kept : (places : List Place) (place : Place) (ends : Oid → Option ℕ) → (IsIn place.states END → ⊥)
    → ((oid : Oid) → AreEnds places oid (ends oid)) → (oid : Oid) → AreEnds (places ++ place ∷ []) oid (ends oid)
AreEnds-kept places place ends apart are oid = AreEnds-skip places place oid (ends oid) (λ _ at. apart at) (are oid)

-- one that is
pub AreEnds-put : (places : List Place) (place : Place) (before after : Oid → Option ℕ) → IsIn place.states END
    → ((oid : Oid) → after oid ≡ cond (same_oid place.oid oid) (Some place.group) (before oid))
    → ((oid : Oid) → AreEnds places oid (before oid)) → (oid : Oid) → AreEnds (places ++ place ∷ []) oid (after oid)
AreEnds-put places place before after at updates are oid = elim (eqb_tells place.oid.0 oid.0) [
  | inl here ↦
      let same : place.oid ≡ oid = λ i. record { 0 = here.1 i } in
      subst (AreEnds (places ++ place ∷ []) oid) (sym (updates oid ∙ ap (λ b. cond b (Some place.group) (before oid)) here.0))
      (place, Contains-push places place, same, at, refl)
  | inr apart ↦
      subst (AreEnds (places ++ place ∷ []) oid) (sym (updates oid ∙ ap (λ b. cond b (Some place.group) (before oid)) apart.0))
      (AreEnds-skip places place oid (before oid) (λ same _. apart.1 (ap (λ (o : Oid). o.0) same)) (are oid))
]

-- the word that is told of an object is that of its group
pub word_to_end : (origins : List Origin) (entries : List (Oid × ℕ)) (to : Oid)
    → word_to (map (λ end. (end.0, word_at origins end.1)) entries) to ≡ option_map (word_at origins) (lookup (same_oid to) entries)
word_to_end origins entries to = lookup-map_values (word_at origins) (same_oid to) entries

-- the groups that are told have words
pub AreEnds-within : (places : List Place) (origins : List Origin) (oid : Oid) (end : Option ℕ) → All (λ place. place.group < length (words_of origins)) places
    → AreEnds places oid end → IfSome end (λ group. group ≤ length origins)
AreEnds-within places origins oid None within ends = tt
AreEnds-within places origins oid (Some group) within ends =
    let place : Place = ends.0 in
    let below : place.group < length (words_of origins) = All-contains (λ (p : Place). p.group < length (words_of origins)) places place within ends.1 in
    omega (arith, below, ends.4, length-words_of origins)
