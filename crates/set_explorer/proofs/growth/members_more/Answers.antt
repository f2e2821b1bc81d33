use Rattle.std.proofs.Common.{List, Contains, ◌↔◌, ◌⊎◌, IfSome, sym, ◌∙◌, subst}
use Rattle.std.proofs.lemmas.Bool.{false≢true}
use Rattle.oem_set.specs.Sets.{IsSet}
use Rattle.set_explorer.specs.Types.{Oid}
use Rattle.set_explorer.specs.Touched.{Meet}
use Rattle.set_explorer.proofs.GrowthLaws.{extended-by}
use Rattle.set_explorer.proofs.growth.members_more.Goals as goal

pub returns : goal.returns
returns g c =
    let set = c.args.set.now in
    let own = c.args.there.now.set in
    let parts = subst (λ (s : List Oid). IfSome c.in_ok-more.more (λ more. (oid : Oid) → Contains s oid
    ↔ (Contains own oid ⊎ Contains more oid))) c.as_slice.ensures.oids
    (subst (λ (o : List Oid). IfSome c.in_ok-more.more (λ more. (oid : Oid) → Contains c.as_slice.result.now oid
    ↔ (Contains o oid ⊎ Contains more oid))) c.as_slice-2.ensures.oids c.in_ok-more.ensures.parts) in
    let apart = subst (λ (o : List Oid). IfSome c.in_ok-more.more (λ more. ¬ Meet o more)) c.as_slice-2.ensures.oids
    c.in_ok-more.ensures.apart in
    extended-by c.args.change.now.dirty.now c.args.change.now.grown.now own set
    (λ m. false≢true (sym c.if-meets.false ∙ c.meets.ensures.1 m))
    (λ m. false≢true (sym c.if-meets-2.false ∙ c.meets-2.ensures.1 m)) c.in_ok-more.more c.in_ok-more.ensures.ascend apart parts

pub more_in-requires : goal.more_in-requires
more_in-requires g c = subst (λ (l : List Oid). IsSet l) (sym c.as_slice.ensures.oids) c.as_slice.ensures.set
