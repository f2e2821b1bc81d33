-- The value that a look-up of an object finds.
use Rattle.std.proofs.Common.{◌≡◌, Bool, true, List, Option, Some, None, Bor, refl, sym, ap, ◌∙◌, arith}
use Rattle.std.specs.Prelude.{◌==◌, unwrap_or, Contains, IfSome}
use Rattle.std.specs.Option.{option_copied}
use Rattle.std.specs.Map.{lookup, keys_of}
use Rattle.std.specs.Cmp.{IsEquivalence}
use Rattle.std.proofs.lemmas.Cmp.{nat_eq_equiv}
use Rattle.std.proofs.lemmas.List.{length-map, get_or-map}
use Rattle.std.proofs.lemmas.Map.Views.{Contains-from_lookup, IsSome-lookup_from_Contains, exact_unsigned_eq}
use Rattle.lore_base.specs.Types.{Oid, Value, Complex}
use Rattle.lore_base.specs.Printed.{value_of}

abbrev same_oid : Oid → Oid → Bool
same_oid oid other = other.0 == oid.0

same_oid-equiv : IsEquivalence same_oid
same_oid-equiv = record {
  refl = λ x. nat_eq_equiv.refl x.0;
  symm = λ x y. nat_eq_equiv.symm y.0 x.0;
  congr = λ x y z h. nat_eq_equiv.symm z.0 x.0 ∙ nat_eq_equiv.congr x.0 y.0 z.0 (nat_eq_equiv.symm x.0 y.0 ∙ h) ∙ nat_eq_equiv.symm y.0 z.0;
}

same_oid-exact : (x y : Oid) → same_oid x y ≡ true → x ≡ y
same_oid-exact x y h = ap (λ n. let oid : Oid = record { 0 = n } in oid) (sym (exact_unsigned_eq y.0 x.0 h))

key_found : (objects : List (Oid × Value)) (oid : Oid) (value : Value) → Contains objects (oid, value) → Contains (keys_of objects) oid
key_found objects oid value h =
    let within = h.1 in
    (h.0, omega (arith, length-map objects (λ e. e.0)), get_or-map (λ (e : Oid × Value). e.0) objects h.0 (oid, value) oid within ∙ ap (λ (e : Oid × Value). e.0) h.2)

-- an answer that is a value of the object, and that is its only value, is what a look-up finds
found_is : (objects : List (Oid × Value)) (oid : Oid) (found looked : Option Value) → lookup (same_oid oid) objects ≡ looked
    → IfSome found (λ value. Contains objects (oid, value)) → ((value : Value) → Contains objects (oid, value) → found ≡ Some value) → found ≡ looked
found_is objects oid found (Some value) is some only = only value (Contains-from_lookup same_oid-exact oid value objects is)
found_is objects oid None None is some only = refl
found_is objects oid (Some value) None is some only =
    let live = rw is at (IsSome-lookup_from_Contains same_oid-equiv oid objects (key_found objects oid value some)) in absurd (cc)

-- the same of a borrowed answer, with another value where there is none
pub value_of-found : (objects : List (Oid × Value)) (oid : Oid) (found : Option (Bor Value)) (otherwise : Bor Value)
    → IfSome found (λ value. Contains objects (oid, value.now)) → ((value : Value) → Contains objects (oid, value) → option_copied found ≡ Some value)
    → otherwise.now ≡ Complex → (unwrap_or found otherwise).now ≡ value_of objects oid
value_of-found objects oid None otherwise some only complex =
    complex ∙ ap (λ (o : Option Value). unwrap_or o Complex) (found_is objects oid None _ refl tt only)
value_of-found objects oid (Some value) otherwise some only complex =
    ap (λ (o : Option Value). unwrap_or o Complex) (found_is objects oid (Some value.now) _ refl some only)
