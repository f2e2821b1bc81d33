-- Objects that stand with their values where their numbers stand without.
use Rattle.std.proofs.Common.{◌≡◌, ℕ, ◌<◌, List, length, map, get_or, Contains, Option, Some, sym, ap, ◌∙◌}
use Rattle.std.specs.Prelude.{slice_get}
use Rattle.std.specs.Option.{unwrap_or}
use Rattle.std.proofs.lemmas.Option.{unwrap_or-slice_get}
use Rattle.std.proofs.lemmas.List.{get_or-map, get_or_default}
use Rattle.oem_graph.specs.Types.{Oid, Value}

-- an object that is told stands at its place
pub object_at : (oids : List Oid) (i : ℕ) (oid none : Oid) → slice_get oids i ≡ Some oid → oid ≡ get_or oids i none
object_at oids i oid none told = sym (ap (λ (o : Option Oid). unwrap_or o none) told) ∙ unwrap_or-slice_get oids i none

-- an object stands with its value where it does without
pub object_here : (objects : List (Oid × Value)) (oids : List Oid) (i : ℕ) (oid none : Oid) (value : Value)
    → oids ≡ map (λ object. object.0) objects → i < length objects → oid ≡ get_or oids i none
    → oid ≡ (get_or objects i (oid, value)).0
object_here objects oids i oid none value same low here =
    here ∙ ap (λ (l : List Oid). get_or l i none) same ∙ get_or-map (λ (o : Oid × Value). o.0) objects i (oid, value) none low

-- and no object is without its value
pub object_live : (objects : List (Oid × Value)) (oids : List Oid) (i : ℕ) (oid none : Oid) (value : Value)
    → oids ≡ map (λ object. object.0) objects → i < length objects → oid ≡ get_or oids i none
    → Contains objects (oid, (get_or objects i (oid, value)).1)
object_live objects oids i oid none value same low here =
    let number = object_here objects oids i oid none value same low here in
    let at = get_or objects i (oid, value) in
    let is : (oid, at.1) ≡ at = λ k. (number k, at.1) in
    (i, low, get_or_default objects i (oid, at.1) (oid, value) low ∙ sym is)
