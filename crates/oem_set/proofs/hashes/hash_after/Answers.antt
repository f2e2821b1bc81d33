use Rattle.std.proofs.Common.{◌≡◌, ◌<◌, ℕ, List, [], ◌∷◌, ◌++◌, take, length, get_or, ◌+◌, ◌*◌, ◌%◌, ◌^◌, sym, ap, ◌∙◌}
use Rattle.std.proofs.lemmas.List.{append-nil, append_assoc, take_all, take_more}
use Rattle.std.proofs.lemmas.List.Sums.{fold_push}
use Rattle.oem_set.specs.Types.{Oid}
use Rattle.oem_set.specs.Sets.{hash_of}
use Rattle.oem_set.proofs.hashes.hash_after.Goals as goal

abbrev step : ℕ → Oid → ℕ
step hash oid = (hash * 6_364_136_223_846_793_005 % 2 ^ 64 + oid.0) % 2 ^ 64

-- an object more
hash-more : (oids : List Oid) (oid : Oid) → hash_of (oids ++ oid ∷ []) ≡ step (hash_of oids) oid
unfolding hash_of
hash-more oids oid = fold_push step 0 oids oid

-- the front of a list with an object more, behind others
front-more : (before oids : List Oid) (i : ℕ) → i < length oids
    → before ++ take (i + 1) oids ≡ (before ++ take i oids) ++ get_or oids i (record { 0 = 0 }) ∷ []
front-more before oids i within =
    ap (λ (l : List Oid). before ++ l) (take_more oids i (record { 0 = 0 }) within)
    ∙ sym (append_assoc before (take i oids) (get_or oids i (record { 0 = 0 }) ∷ []))

pub oids-init : goal.oids-init
oids-init c = λ before is. is ∙ ap hash_of (sym (append-nil before))

pub oids-preserved : goal.oids-preserved
oids-preserved c = λ before is.
    let i = c.oids.oid-index in
    let old = c.oids.invariant before is in
    let x = get_or c.args.oids.now i (record { 0 = 0 }) in
    ap (λ hash. (hash * 6_364_136_223_846_793_005 % 2 ^ 64 + c.from.result) % 2 ^ 64) old
    ∙ ap (λ number. (hash_of (before ++ take i c.args.oids.now) * 6_364_136_223_846_793_005 % 2 ^ 64 + number) % 2 ^ 64) c.from.ensures
    ∙ sym (ap hash_of (front-more before c.args.oids.now i c.oids-test.true) ∙ hash-more (before ++ take i c.args.oids.now) x)

pub returns : goal.returns
returns c = λ before is.
    c.oids.invariant before is ∙ ap (λ (l : List Oid). hash_of (before ++ l)) (take_all c.oids.oid-index c.args.oids.now c.oids-test.false)
