-- A search over the children of objects: objects under the one mark that they are met, and where edges lead.
use Rattle.std.specs.Prelude.{◌≡◌, ◌==◌, ℕ, ◌⊎◌, true, false, List, Contains}
use Rattle.std.proofs.Common.{inl, inr, eqb-true, refl, sym, ◌∙◌, true≢false}
use Rattle.std.proofs.lemmas.Bool.Decides.{eqb_tells}
use Rattle.object_search.specs.Types.{Oid, Label, Edge, Met}
use Rattle.lore_base.specs.Walks.{edge_of}

-- an object that is met is so under one mark, 0
abbrev pub HasMark : Met → ℕ → Type 0
HasMark met mark = (met.0 ≡ true) × (mark ≡ 0)

-- the mark is there, or it isn't
pub told_mark : (met : Met) (mark : ℕ) → HasMark met mark ⊎ (HasMark met mark → ⊥)
told_mark met mark = elim (eqb_tells mark 0) [
  | inr apart ↦ inr (λ has. apart.1 has.1)
  | inl here ↦ elim (met.0) as (λ b. met.0 ≡ b → HasMark met mark ⊎ (HasMark met mark → ⊥)) [
    | true ↦ λ is. inl (is, here.1)
    | false ↦ λ is. inr (λ has. true≢false (sym has.0 ∙ is))
  ] refl
]

abbrev pub met_at : Oid → Oid × Met
met_at oid = (oid, record { 0 = true })

-- an edge leads from one object to the other; the mark stays the same
abbrev pub HasChild : List Edge → Oid × ℕ → Oid × ℕ → Type 0
HasChild edges here there = (label : Label) × Contains edges (edge_of here.0 label there.0) × (here.1 ≡ there.1)

-- objects of one number are one object
pub same_oid : (a b : Oid) → (a.0 == b.0) ≡ true → a ≡ b
same_oid a b h = (let is = eqb-true a.0 b.0 h in λ i. record { 0 = is i })
