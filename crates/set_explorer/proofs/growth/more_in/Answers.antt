use Rattle.std.proofs.Common.{Bor, ◌≡◌, ◌≢◌, ◌++◌, Option, Some, MatchOption, ◌≤◌, ◌↔◌, ◌⊎◌, ◌+◌, ℕ, List, Contains, length, take, sym, ◌∙◌, subst, arith}
use Rattle.std.proofs.lemmas.Option.{slice_get_within}
use Rattle.std.proofs.lemmas.Slice.Eq.{strip_prefix_is}
use Rattle.oem_set.proofs.MemberSearch.{Decides-same_oid}
use Rattle.set_explorer.specs.Types.{Oid}
use Rattle.set_explorer.specs.Touched.{Meet}
use Rattle.set_explorer.proofs.GrowthLaws.{more-met, more-new, more-all, apart-met, apart-new, apart-all, rest-apart, rest-parts}
use Rattle.set_explorer.proofs.growth.more_in.Goals as goal
use Rattle.set_explorer.proofs.growth.more_in.Goals.{then-stands_at, else-stands_at+in_ok-push}

pub oids-preserved : goal.oids-preserved
oids-preserved c =
    let oids = c.args.oids.now in
    let others = c.args.others.now in
    let i = c.oids.oid-index in
    elim c.if-stands_at.branch [
      | then-stands_at w ↦ (
          let there = c.stands_at.ensures w.if-stands_at.true in
          let inside = slice_get_within others c.oids.next _ there in
          record {
            within = omega (arith, inside, w.next-is);
            apart = subst (λ (n : ℕ). ¬ Meet (take n others) c.if-stands_at.more) (sym w.next-is)
                (subst (λ (m : List Oid). ¬ Meet (take (c.oids.next + 1) others) m) (sym w.more-is)
                (apart-met oids others c.oids.more i c.oids.next c.oids.invariant.parts c.oids-test.true c.requires
                c.oids.invariant.apart there));
            parts = subst (λ (n : ℕ). (oid : Oid) → Contains (take (i + 1) oids) oid
                ↔ (Contains (take n others) oid ⊎ Contains c.if-stands_at.more oid)) (sym w.next-is)
                (subst (λ (m : List Oid). (oid : Oid) → Contains (take (i + 1) oids) oid
                ↔ (Contains (take (c.oids.next + 1) others) oid ⊎ Contains m oid)) (sym w.more-is)
                (more-met oids others c.oids.more i c.oids.next c.oids.invariant.parts c.oids-test.true there));
          })
      | else-stands_at+in_ok-push w ↦ record {
        within = subst (λ (n : ℕ). n ≤ length others) (sym w.next-is) c.oids.invariant.within;
        apart = subst (λ (n : ℕ). ¬ Meet (take n others) c.if-stands_at.more) (sym w.next-is)
            (subst (λ (m : List Oid). ¬ Meet (take c.oids.next others) m) (sym (w.more-is ∙ w.in_ok-push.ensures.ok))
            (apart-new oids others c.oids.more i c.oids.next c.oids.invariant.parts c.oids-test.true c.requires
            c.oids.invariant.apart));
        parts = subst (λ (n : ℕ). (oid : Oid) → Contains (take (i + 1) oids) oid
            ↔ (Contains (take n others) oid ⊎ Contains c.if-stands_at.more oid)) (sym w.next-is)
            (subst (λ (m : List Oid). (oid : Oid) → Contains (take (i + 1) oids) oid
            ↔ (Contains (take c.oids.next others) oid ⊎ Contains m oid)) (sym (w.more-is ∙ w.in_ok-push.ensures.ok))
            (more-new oids others c.oids.more i c.oids.next c.oids.invariant.parts c.oids-test.true));
      }
    ]

pub returns-clause-parts : goal.returns-clause-parts
returns-clause-parts c =
    more-all c.args.oids.now c.args.others.now c.oids.more c.in_ok-set-2.set c.oids.oid-index c.oids.next c.oids.invariant.parts
    c.oids-test.false (omega (arith, c.if-next-others.false)) c.in_ok-set-2.ensures.set.exact

pub returns-clause-apart : goal.returns-clause-apart
returns-clause-apart c =
    apart-all c.args.others.now c.oids.more c.in_ok-set-2.set c.oids.next c.oids.invariant.apart
    (omega (arith, c.if-next-others.false)) c.in_ok-set-2.ensures.set.exact

-- what is left behind the others, where these come first
behind : (oids others : List Oid) (found : Option (Bor (List Oid))) (rest : Bor (List Oid)) → found ≡ Some rest
    → MatchOption found ((rest : List Oid) → oids ≢ others ++ rest) (λ rest. oids ≡ others ++ rest.now)
    → oids ≡ others ++ rest.now
behind oids others found rest is either = subst (λ (r : Option (Bor (List Oid))). MatchOption r ((rest : List Oid)
    → oids ≢ others ++ rest) (λ rest. oids ≡ others ++ rest.now)) is either

pub returns-in-Some-clause-apart : goal.returns-in-Some-clause-apart
returns-in-Some-clause-apart c =
    let oids = c.args.oids.now in
    let others = c.args.others.now in
    let are = behind oids others c.strip_prefix.result c.in-Some.rest c.in-Some.is
    (strip_prefix_is Decides-same_oid oids others c.strip_prefix.result c.strip_prefix.ensures.cases) in
    subst (λ (l : List Oid). ¬ Meet others l) (sym c.in_ok-set.ensures)
    (rest-apart oids others c.in-Some.rest.now are c.requires)

pub returns-in-Some-clause-parts : goal.returns-in-Some-clause-parts
returns-in-Some-clause-parts c =
    let oids = c.args.oids.now in
    let others = c.args.others.now in
    let are = behind oids others c.strip_prefix.result c.in-Some.rest c.in-Some.is
    (strip_prefix_is Decides-same_oid oids others c.strip_prefix.result c.strip_prefix.ensures.cases) in
    subst (λ (l : List Oid). (oid : Oid) → Contains oids oid ↔ (Contains others oid ⊎ Contains l oid)) (sym c.in_ok-set.ensures)
    (rest-parts oids others c.in-Some.rest.now are c.requires)
