use Rattle.std.proofs.Common.{◌↔◌, ◌+◌, ◌++◌, [], ◌∷◌, List, Contains, get_or, take, sym, ◌∙◌, subst}
use Rattle.std.proofs.lemmas.Bool.{false≢true}
use Rattle.std.proofs.lemmas.List.{take_all, take_more}
use Rattle.lore_base.proofs.TargetLaws.{ListsInOrder-same}
use Rattle.set_explorer.specs.Types.{Oid}
use Rattle.set_explorer.proofs.GainLaws.{passes-more, passes-less}
use Rattle.set_explorer.proofs.gains.those_in.Goals as goal
use Rattle.set_explorer.proofs.gains.those_in.Goals.{then-contains+in_ok-push, else-contains}

pub oids-preserved : goal.oids-preserved
oids-preserved c =
    let set = c.args.set.now in
    let oids = c.args.oids.now in
    let i = c.oids.oid-index in
    let x = get_or oids i (record { 0 = 0 }) in
    let more = take_more oids i (record { 0 = 0 }) c.oids-test.true in
    elim c.if-contains.branch [
      | then-contains+in_ok-push w ↦ subst
          (λ (b : List Oid). (oid : Oid) → Contains b oid ↔ (Contains (take (i + 1) oids) oid × Contains set oid))
          (sym (w.both-is ∙ w.in_ok-push.ensures.ok))
          (subst (λ (f : List Oid). (oid : Oid) → Contains (c.oids.both ++ x ∷ []) oid
          ↔ (Contains f oid × Contains set oid)) (sym more)
          (passes-more (Contains set) c.oids.both (take i oids) x c.oids.invariant
          (c.contains.ensures.0 w.if-contains.true)))
      | else-contains w ↦ subst
          (λ (b : List Oid). (oid : Oid) → Contains b oid ↔ (Contains (take (i + 1) oids) oid × Contains set oid))
          (sym w.both-is)
          (subst (λ (f : List Oid). (oid : Oid) → Contains c.oids.both oid ↔ (Contains f oid × Contains set oid)) (sym more)
          (passes-less (Contains set) c.oids.both (take i oids) x c.oids.invariant
          (λ there. false≢true (sym w.if-contains.false ∙ c.contains.ensures.1 there))))
    ]

pub returns : goal.returns
returns c =
    let are = subst (λ (l : List Oid). (oid : Oid) → Contains c.oids.both oid ↔ (Contains l oid × Contains c.args.set.now oid))
    (take_all c.oids.oid-index c.args.oids.now c.oids-test.false) c.oids.invariant in
    ListsInOrder-same (Contains c.oids.both) (λ oid. Contains c.args.oids.now oid × Contains c.args.set.now oid)
    c.in_ok-set.set are c.in_ok-set.ensures.set
