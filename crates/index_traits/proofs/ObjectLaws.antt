-- Objects and labels by their numbers: which are one, what can be told of them, and that an object has one value.
use Rattle.std.proofs.Common.{◌≡◌, ◌==◌, ◌⊎◌, ◌<◌, true, inl, inr, List, Contains, refl, ap, subst, arith}
use Rattle.std.specs.Cmp.{IsTotalOrder}
use Rattle.std.proofs.lemmas.Bool.Decides.{nat_tests, Decides-eqb}
use Rattle.std.proofs.lemmas.Cmp.{nat_cmp_total, on_total, then_total}
use Rattle.lore_base.proofs.ToldLaws.{IsTold, told_by, told_oid, told_same, told_some}
use Rattle.list_laws.proofs.AscentLaws.{AllPairs-once}
use Rattle.lore_base.specs.Databases.{AreAscendingObjects, IsLive}
use Rattle.index_traits.specs.Types.{Oid, Label, Value}
use Rattle.index_traits.specs.declared.entries.ValueEntry.{ValueEntry}
use Rattle.index_traits.specs.Entries.{entry_cmp}

pub same_oid : (a b : Oid) → (a.0 == b.0) ≡ true → a ≡ b
same_oid a b is = let number : a.0 ≡ b.0 = grind (arith, nat_tests) in ap (λ n. record { 0 = n }) number

pub same_label : (a b : Label) → (a.0 == b.0) ≡ true → a ≡ b
same_label a b is = let number : a.0 ≡ b.0 = grind (arith, nat_tests) in ap (λ n. record { 0 = n }) number

pub told_label : (a b : Label) → IsTold (a ≡ b)
told_label a b =
    told_same (λ (same : a.0 ≡ b.0). λ i. record { 0 = same i }) (ap (λ (label : Label). label.0))
    (told_by (a.0 == b.0) (Decides-eqb a.0 b.0))

-- an object is live or not
pub told_live : (objects : List (Oid × Value)) (oid : Oid) → IsLive objects oid ⊎ (IsLive objects oid → ⊥)
told_live objects oid =
    elim (told_some (λ (object : Oid × Value). object.0 ≡ oid) (λ object. told_oid object.0 oid) objects) [
      | inl some ↦ inl ((some.0).1, subst (λ (o : Oid). Contains objects (o, (some.0).1)) some.2 some.1)
      | inr none ↦ inr (λ live. none ((oid, live.0), live.1, refl))
    ]

-- an object has one value among ascending ones
pub one_value_of : (objects : List (Oid × Value)) → AreAscendingObjects objects → (oid : Oid) (v w : Value)
    → Contains objects (oid, v) → Contains objects (oid, w) → v ≡ w
one_value_of objects ascend oid v w at_v at_w =
    ap (λ (object : Oid × Value). object.1)
    (AllPairs-once (λ (a b : Oid × Value). a.0.0 < b.0.0) objects ascend (oid, v) (oid, w) at_v at_w
    (λ less. omega (arith, less)) (λ less. omega (arith, less)))

pub entry_cmp_total : IsTotalOrder entry_cmp
entry_cmp_total =
    then_total (on_total (λ (e : ValueEntry). e.label.0) nat_cmp_total)
    (on_total (λ (e : ValueEntry). e.object.0) nat_cmp_total)
