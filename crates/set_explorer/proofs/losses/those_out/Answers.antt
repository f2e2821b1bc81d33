use Rattle.std.proofs.Common.{◌↔◌, ◌+◌, ◌++◌, [], ◌∷◌, List, Contains, get_or, take, sym, ◌∙◌, subst}
use Rattle.std.proofs.lemmas.Bool.{false≢true}
use Rattle.std.proofs.lemmas.List.{take_all, take_more}
use Rattle.lore_base.proofs.TargetLaws.{ListsInOrder-same}
use Rattle.set_explorer.specs.Types.{Oid}
use Rattle.set_explorer.proofs.GainLaws.{passes-more, passes-less}
use Rattle.set_explorer.proofs.losses.those_out.Goals as goal
use Rattle.set_explorer.proofs.losses.those_out.Goals.{then-not-contains+in_ok-push, else-not-contains}

pub oids-preserved : goal.oids-preserved
oids-preserved c =
    let set = c.args.set.now in
    let oids = c.args.oids.now in
    let i = c.oids.oid-index in
    let x = get_or oids i (record { 0 = 0 }) in
    let more = take_more oids i (record { 0 = 0 }) c.oids-test.true in
    elim c.if-not-contains.branch [
      | then-not-contains+in_ok-push w ↦ subst
          (λ (b : List Oid). (oid : Oid) → Contains b oid
          ↔ (Contains (take (i + 1) oids) oid × (Contains set oid → ⊥)))
          (sym (w.out-is ∙ w.in_ok-push.ensures.ok))
          (subst (λ (f : List Oid). (oid : Oid) → Contains (c.oids.out ++ x ∷ []) oid
          ↔ (Contains f oid × (Contains set oid → ⊥))) (sym more)
          (passes-more (λ (oid : Oid). Contains set oid → ⊥) c.oids.out (take i oids) x c.oids.invariant
          (λ there. false≢true (sym w.if-not-contains.true ∙ c.contains.ensures.1 there))))
      | else-not-contains w ↦ subst
          (λ (b : List Oid). (oid : Oid) → Contains b oid
          ↔ (Contains (take (i + 1) oids) oid × (Contains set oid → ⊥)))
          (sym w.out-is)
          (subst (λ (f : List Oid). (oid : Oid) → Contains c.oids.out oid
          ↔ (Contains f oid × (Contains set oid → ⊥))) (sym more)
          (passes-less (λ (oid : Oid). Contains set oid → ⊥) c.oids.out (take i oids) x c.oids.invariant
          (λ outside. outside (c.contains.ensures.0 w.if-not-contains.false))))
    ]

pub returns : goal.returns
returns c =
    let set = c.args.set.now in
    let are = subst (λ (l : List Oid). (oid : Oid) → Contains c.oids.out oid ↔ (Contains l oid × (Contains set oid → ⊥)))
    (take_all c.oids.oid-index c.args.oids.now c.oids-test.false) c.oids.invariant in
    ListsInOrder-same (Contains c.oids.out) (λ oid. Contains c.args.oids.now oid × (Contains set oid → ⊥))
    c.in_ok-set.set are c.in_ok-set.ensures.set
