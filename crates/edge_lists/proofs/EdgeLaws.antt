-- Edges in the orders of their lists.
use Rattle.std.proofs.Common.{◌≡◌, ◌≢◌, ◌⊎◌, Less, Equal, Greater, refl, sym, ap, ◌∙◌, inl, inr, arith}
use Rattle.std.specs.Cmp.{IsTotalOrder}
use Rattle.std.specs.Ordering.{ordering_reverse}
use Rattle.std.specs.declared.cmp.Ordering.{Ordering}
use Rattle.std.proofs.lemmas.Bool.{cases_eq}
use Rattle.std.proofs.lemmas.Bool.Decides.{nat_tests}
use Rattle.std.proofs.lemmas.Cmp.{nat_cmp_total, on_total, then_total}
use Rattle.edge_lists.specs.Types.{Oid, Edge, Side, Out, In}
use Rattle.edge_lists.specs.Edges.{owner_of, other_end, side_cmp, Precedes}
use Rattle.near_links.proofs.NearLaws.{IsOrder}

pub side_total : (side : Side) → IsTotalOrder (side_cmp side)
side_total side = then_total (on_total (λ (e : Edge). (owner_of side e).0) nat_cmp_total) (then_total (on_total (λ (e : Edge). e.label.0) nat_cmp_total) (on_total (λ (e : Edge). (other_end side e).0) nat_cmp_total))

pub same_edge : (side : Side) (a b : Edge) → side_cmp side a b ≡ Equal → a ≡ b
same_edge Out a b h =
    let parent : a.parent.0 ≡ b.parent.0 = grind (arith, nat_tests) in
    let label : a.label.0 ≡ b.label.0 = grind (arith, nat_tests) in
    let child : a.child.0 ≡ b.child.0 = grind (arith, nat_tests) in
    λ i. record { parent = record { 0 = parent i }; label = record { 0 = label i }; child = record { 0 = child i } }
same_edge In a b h =
    let parent : a.parent.0 ≡ b.parent.0 = grind (arith, nat_tests) in
    let label : a.label.0 ≡ b.label.0 = grind (arith, nat_tests) in
    let child : a.child.0 ≡ b.child.0 = grind (arith, nat_tests) in
    λ i. record { parent = record { 0 = parent i }; label = record { 0 = label i }; child = record { 0 = child i } }

pub cmp_self : (side : Side) (a : Edge) → side_cmp side a a ≡ Equal
cmp_self Out a = grind (arith, nat_tests)
cmp_self In a = grind (arith, nat_tests)

-- how two edges lie
pub lie : (side : Side) (a b : Edge) → (side_cmp side a b ≡ Less) ⊎ ((a ≡ b) ⊎ (side_cmp side b a ≡ Less))
lie side a b = at (side_cmp side a b) refl
  where
    at : (o : Ordering) → side_cmp side a b ≡ o → (side_cmp side a b ≡ Less) ⊎ ((a ≡ b) ⊎ (side_cmp side b a ≡ Less))
    at Less is = inl is
    at Equal is = inr (inl (same_edge side a b is))
    at Greater is = inr (inr ((side_total side).antisymm b a ∙ ap ordering_reverse is))

pub less≢equal : ◌≢◌ {A = Ordering} Less Equal
less≢equal same = absurd (cc)

pub side_order : (side : Side) → IsOrder (owner_of side) (Precedes side)
side_order side = record {
  owned = λ a b less. less.0;
  never = λ a less. less≢equal (sym less.1 ∙ cmp_self side a);
  trans = λ a b c one two. (one.0 ∙ two.0, (side_total side).trans a b c one.1 two.1);
  total = λ a b same. elim (lie side a b) [
    | inl less ↦ inl (same, less)
    | inr other ↦ elim other [ inl equal ↦ inr (inl equal) | inr more ↦ inr (inr (sym same, more)) ]
  ];
}

pub same_oid : (a b : Oid) → (a ≡ b) ⊎ (a ≢ b)
same_oid a b = elim (cases_eq a.0 b.0) [
  | inl same ↦ inl (ap (λ n. record { 0 = n }) same)
  | inr other ↦ inr (λ same. other (ap (λ (o : Oid). o.0) same))
]
