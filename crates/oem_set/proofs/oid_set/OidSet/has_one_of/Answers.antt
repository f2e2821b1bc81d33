use Rattle.std.proofs.Common.{List, All, Contains, subst}
use Rattle.std.proofs.lemmas.Bool.{false≢true}
use Rattle.std.proofs.lemmas.List.{take_all}
use Rattle.std.proofs.lemmas.List.Elements.{All-more, All-contains}
use Rattle.oem_set.specs.Types.{Oid}
use Rattle.oem_set.proofs.oid_set.OidSet.has_one_of.Goals as goal

pub oids-preserved : goal.oids-preserved
oids-preserved c =
    All-more (λ (oid : Oid). ¬ Contains c.args.self.now oid) c.args.oids.now c.oids.oid-index (record { 0 = 0 }) c.oids-test.true c.oids.invariant
    (λ at. false≢true (c.if-contains.ensures.1 at))

pub returns : goal.returns
returns c =
    let none = subst (λ (l : List Oid). All (λ oid. ¬ Contains c.args.self.now oid) l) (take_all c.oids.oid-index c.args.oids.now c.oids-test.false) c.oids.invariant in (
      λ no. absurd (false≢true no),
      λ both. absurd (All-contains (λ (oid : Oid). ¬ Contains c.args.self.now oid) c.args.oids.now both.0 none both.1 both.2),
    )
