-- Whether a text is matched by a pattern can be told.
use Rattle.std.proofs.Common.{◌≡◌, ℕ, inl, inr, List, [], ◌∷◌, ◌++◌, refl, sym, ap, subst}
use Rattle.lore_base.specs.Wildcards.{Sign, many, one, itself, StandFor}
use Rattle.lore_base.proofs.ToldLaws.{IsTold, told_bytes}

-- something holds of what is left behind some characters
abbrev Behind : (List (List ℕ) → Type 0) → List (List ℕ) → Type 0
Behind P text = (skipped : List (List ℕ)) × (rest : List (List ℕ)) × (text ≡ skipped ++ rest) × P rest

nothing_behind : (P : List (List ℕ) → Type 0) → (P [] → ⊥) → (skipped rest : List (List ℕ)) → [] ≡ skipped ++ rest → P rest → ⊥
nothing_behind P none [] rest is h = none (subst P (sym is) h)
nothing_behind P none (s ∷ skipped) rest is h = cc

nothing_later : (P : List (List ℕ) → Type 0) (c : List ℕ) (text : List (List ℕ)) → (P (c ∷ text) → ⊥) → (Behind P text → ⊥)
    → (skipped rest : List (List ℕ)) → c ∷ text ≡ skipped ++ rest → P rest → ⊥
nothing_later P c text none never [] rest is h = none (subst P (sym is) h)
nothing_later P c text none never (s ∷ skipped) rest is h = let same : text ≡ skipped ++ rest = cc in never (skipped, rest, same, h)

told_behind : (P : List (List ℕ) → Type 0) → ((text : List (List ℕ)) → IsTold (P text)) → (text : List (List ℕ)) → IsTold (Behind P text)
told_behind P told [] = elim (told []) [
  | inl here ↦ inl ([], [], refl, here)
  | inr none ↦ inr (λ h. nothing_behind P none h.0 h.1 h.2 h.3)
]
told_behind P told (c ∷ text) = elim (told (c ∷ text)) [
  | inl here ↦ inl ([], c ∷ text, refl, here)
  | inr none ↦ elim (told_behind P told text) [
    | inl later ↦ inl (c ∷ later.0, later.1, ap (λ t. c ∷ t) later.2, later.3)
    | inr never ↦ inr (λ h. nothing_later P c text none never h.0 h.1 h.2 h.3)
  ]
]

pub told_stand : (signs : List Sign) (text : List (List ℕ)) → IsTold (StandFor signs text)
told_stand [] [] = inl refl
told_stand [] (c ∷ text) = inr (λ h. cc)
told_stand (many ∷ signs) text = told_behind (StandFor signs) (told_stand signs) text
told_stand (one ∷ signs) [] = inr (λ h. let is : [] ≡ h.0 ∷ h.1 = h.2 in cc)
told_stand (one ∷ signs) (c ∷ text) = elim (told_stand signs text) [
  | inl h ↦ inl (c, text, refl, h)
  | inr none ↦ inr (λ h.
      let is : c ∷ text ≡ h.0 ∷ h.1 = h.2 in
      let rest : h.1 ≡ text = cc in
      none (subst (StandFor signs) rest h.3))
]
told_stand (itself sign ∷ signs) [] = inr (λ h. let is : [] ≡ sign ∷ h.0 = h.1 in cc)
told_stand (itself sign ∷ signs) (c ∷ text) = elim (told_bytes c sign) [
  | inr other ↦ inr (λ h. let is : c ∷ text ≡ sign ∷ h.0 = h.1 in let same : c ≡ sign = cc in other same)
  | inl same ↦ elim (told_stand signs text) [
    | inl h ↦ inl (text, ap (λ x. x ∷ text) same, h)
    | inr none ↦ inr (λ h.
        let is : c ∷ text ≡ sign ∷ h.0 = h.1 in
        let rest : h.0 ≡ text = cc in
        none (subst (StandFor signs) rest h.2))
  ]
]
