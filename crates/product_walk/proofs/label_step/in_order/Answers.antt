use Rattle.std.proofs.Common.{◌≡◌, ◌++◌, List, Contains, sym, ap, ◌∙◌, subst}
use Rattle.lore_base.specs.TargetSets.{ListsInOrder}
use Rattle.product_walk.specs.Types.{Oid}
use Rattle.product_walk.proofs.label_step.in_order.Goals as goal

pub returns : goal.returns
returns c =
    let oids = c.args.oids.now in
    let taken : c.append.new.self ≡ oids = c.in_ok-append.ensures.ok ∙ ap (λ (l : List Oid). l ++ oids) c.new-set.ensures in
    let placed = c.in_ok-put_in_order.ensures.ok in
    let set = c.put_in_order.new.buf in
    subst (λ (l : List Oid). ListsInOrder (Contains l) set) taken (subst (λ (l : List Oid). ListsInOrder (Contains c.append.new.self) l) (sym placed.1) placed.2)
