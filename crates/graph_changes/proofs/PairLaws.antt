-- Objects as records and as pairs.
use Rattle.std.proofs.Common.{◌≡◌, ℕ, ◌<◌, true, false, not, cond, None, List, [], ◌∷◌, length, get_or, map, Contains, refl, ap, subst, arith}
use Rattle.std.specs.List.{filter}
use Rattle.std.proofs.lemmas.List.{get_or-map, length-map}
use Rattle.std.proofs.lemmas.List.Elements.{Contains-get_or}
use Rattle.list_laws.proofs.MemberLaws.{Contains-from_map, Contains-map}
use Rattle.lore_base.specs.Databases as base
use Rattle.edge_lists.specs.Objects.{object_of, AreAscendingObjects, IsLive}
use Rattle.graph_changes.specs.Types.{Oid, Value, Complex, ObjectRecord}
use Rattle.graph_changes.specs.Left.{is_among, not_dead}

pub pairs-ascend : (objects : List ObjectRecord) → AreAscendingObjects objects → base.AreAscendingObjects (map object_of objects)
pairs-ascend objects ascend i j d lt len =
    let len_j : j < length objects = omega (arith, len, length-map objects object_of) in
    let r : ObjectRecord = record { oid = d.0; value = d.1; first_out = None; first_in = None } in
    rw (get_or-map object_of objects i r d (omega (arith, lt, len_j)), get_or-map object_of objects j r d len_j) (ascend i j r lt len_j)

pub live-record : (objects : List ObjectRecord) (oid : Oid) → base.IsLive (map object_of objects) oid → IsLive objects oid
live-record objects oid live =
    let from = Contains-from_map object_of objects (oid, live.0) live.1 in
    subst (λ (o : Oid). Contains (map (λ (r : ObjectRecord). r.oid) objects) o) (ap (λ (p : Oid × Value). p.0) from.2) (Contains-map (λ (r : ObjectRecord). r.oid) objects from.0 from.1)

pub live-pair : (objects : List ObjectRecord) (oid : Oid) → IsLive objects oid → base.IsLive (map object_of objects) oid
live-pair objects oid live =
    let from = Contains-from_map (λ (r : ObjectRecord). r.oid) objects oid live in
    (from.0.value, subst (λ (o : Oid). Contains (map object_of objects) (o, from.0.value)) from.2 (Contains-map object_of objects from.0 from.1))

pub dropped-pairs : (dead : List Oid) (objects : List ObjectRecord) → map object_of (filter (λ (o : ObjectRecord). not (is_among dead o.oid)) objects) ≡ not_dead dead (map object_of objects)
dropped-pairs dead [] = refl
dropped-pairs dead (first ∷ objects) =
    let rest = dropped-pairs dead objects in
    elim (is_among dead first.oid) as (λ b. map object_of (cond (not b) (first ∷ filter (λ (o : ObjectRecord). not (is_among dead o.oid)) objects) (filter (λ (o : ObjectRecord). not (is_among dead o.oid)) objects))
    ≡ cond (not b) (object_of first ∷ not_dead dead (map object_of objects)) (not_dead dead (map object_of objects))) [
      | true ↦ rest
      | false ↦ ap (λ (l : List (Oid × Value)). object_of first ∷ l) rest
    ]

-- some record of an object
pub any_object : ObjectRecord
any_object = record { oid = record { 0 = 0 }; value = Complex; first_out = None; first_in = None }

-- the object whose record stands at a place has the value that stands there
pub value-at : (objects : List ObjectRecord) (oid : Oid) (place : ℕ) (d : ObjectRecord) → place < length objects → (get_or objects place d).oid ≡ oid
    → Contains (map object_of objects) (oid, (get_or objects place d).value)
value-at objects oid place d lt is = subst (λ (o : Oid). Contains (map object_of objects) (o, (get_or objects place d).value)) is
    (Contains-map object_of objects (get_or objects place d) (Contains-get_or objects place d lt))
