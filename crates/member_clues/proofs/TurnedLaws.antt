-- Two values that compare so, the other way round.
use Rattle.std.proofs.Common.{◌≡◌, inl, inr, refl, sym, ap, ◌∙◌}
use Rattle.std.specs.Ordering.{ordering_reverse}
use Rattle.std.specs.Cmp.{bool_cmp_total}
use Rattle.std.specs.declared.cmp.Ordering.{Ordering}
use Rattle.std.specs.declared.cmp.Ordering.TheVariants as o
use Rattle.std.proofs.lemmas.Cmp.{int_cmp_total, nat_list_cmp_total}
use Rattle.lore_base.specs.Comparisons.{CompareAs, Admits, Compares}
use Rattle.lore_base.specs.declared.values.Value.TheVariants.{Whole, Chars, Flag, Complex}
use Rattle.lore_base.specs.declared.operators.Op.TheVariants.{Eq, Lt, Le, Gt, Ge, Like}
use Rattle.member_clues.specs.Types.{Value, Op}

compare_as_turned : (a b : Value) (order : Ordering) → CompareAs a b order → CompareAs b a (ordering_reverse order)
compare_as_turned (Whole a) (Whole b) order is = ap ordering_reverse is ∙ sym (int_cmp_total.antisymm b a)
compare_as_turned (Chars a) (Chars b) order is = ap ordering_reverse is ∙ sym (nat_list_cmp_total.antisymm b a)
compare_as_turned (Flag a) (Flag b) order is = ap ordering_reverse is ∙ sym (bool_cmp_total.antisymm b a)
compare_as_turned (Whole a) (Chars b) order is = (is.0, is.1, ap ordering_reverse is.2 ∙ sym (int_cmp_total.antisymm is.0 a))
compare_as_turned (Chars a) (Whole b) order is = (is.0, is.1, ap ordering_reverse is.2 ∙ sym (int_cmp_total.antisymm b is.0))
compare_as_turned (Flag a) (Chars b) order is = (is.0, is.1, ap ordering_reverse is.2 ∙ sym (bool_cmp_total.antisymm is.0 a))
compare_as_turned (Chars a) (Flag b) order is = (is.0, is.1, ap ordering_reverse is.2 ∙ sym (bool_cmp_total.antisymm b is.0))
compare_as_turned (Whole a) (Flag b) order is = absurd is
compare_as_turned (Flag a) (Whole b) order is = absurd is
compare_as_turned (Whole a) Complex order is = absurd is
compare_as_turned (Chars a) Complex order is = absurd is
compare_as_turned (Flag a) Complex order is = absurd is
compare_as_turned Complex (Whole b) order is = absurd is
compare_as_turned Complex (Chars b) order is = absurd is
compare_as_turned Complex (Flag b) order is = absurd is
compare_as_turned Complex Complex order is = absurd is

compares_turned : (op other : Op) → ((order : Ordering) → Admits op order → Admits other (ordering_reverse order)) → (op ≡ Like → ⊥) → (a b : Value)
    → Compares a op b → Compares b other a
compares_turned op other admits never a b (inl ordered) = inl (ordering_reverse ordered.0, compare_as_turned a b ordered.0 ordered.1, admits ordered.0 ordered.2)
compares_turned op other admits never a b (inr like) = absurd (never like.0)

not_greater : (order : Ordering) → (order ≡ o.Greater → ⊥) → ordering_reverse order ≡ o.Less → ⊥
not_greater o.Less never is = cc
not_greater o.Equal never is = cc
not_greater o.Greater never is = never refl

not_less : (order : Ordering) → (order ≡ o.Less → ⊥) → ordering_reverse order ≡ o.Greater → ⊥
not_less o.Less never is = never refl
not_less o.Equal never is = cc
not_less o.Greater never is = cc

pub equal_turned : (a b : Value) → Compares a Eq b → Compares b Eq a
equal_turned = compares_turned Eq Eq (λ order is. ap ordering_reverse is) (λ is. cc)

pub less_turned : (a b : Value) → Compares a Lt b → Compares b Gt a
less_turned = compares_turned Lt Gt (λ order is. ap ordering_reverse is) (λ is. cc)

pub up_to_turned : (a b : Value) → Compares a Le b → Compares b Ge a
up_to_turned = compares_turned Le Ge (λ order never. not_greater order never) (λ is. cc)

pub more_turned : (a b : Value) → Compares a Gt b → Compares b Lt a
more_turned = compares_turned Gt Lt (λ order is. ap ordering_reverse is) (λ is. cc)

pub from_turned : (a b : Value) → Compares a Ge b → Compares b Le a
from_turned = compares_turned Ge Le (λ order never. not_less order never) (λ is. cc)
