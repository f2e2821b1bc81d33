use Rattle.std.proofs.Common.{refl, true≢false, sym, subst, arith}
use Rattle.lore_store.specs.Stores.{RoomyDatabase, IsLimit, database_of}
use Rattle.lore_store.proofs.LimitLaws.{none_above, is_limit, valid_limited}
use Rattle.lore_store.proofs.store.Store.set_limit.Goals as goal
use Rattle.lore_store.proofs.store.Store.set_limit.Goals.{then-limit-lt1-via-then-limit-lt1, then-limit-lt1-via-else-limit-lt1+then-limit-gt-NODES, then-limit-lt1-via-else-limit-lt1+else-limit-gt-NODES+then-limit-len}

pub returns-then-limit-lt1-clause-told : goal.returns-then-limit-lt1-clause-told
returns-then-limit-lt1-clause-told c = (
  λ told. absurd (true≢false (sym told)),
  λ limit.
      let db = database_of c.self.inside.labels c.self.inside.graph.graph c.self.inside.limit c.self.inside.mode in
      let is = subst (λ (s : RoomyDatabase). IsLimit s.db c.args.limit) (sym c.self.view_is) limit in
      elim c.then-limit-lt1.branch [
        | then-limit-lt1-via-then-limit-lt1 w ↦ absurd (omega (arith, w.if-limit-lt1.true, is.low))
        | then-limit-lt1-via-else-limit-lt1+then-limit-gt-NODES w ↦ absurd (omega (arith, w.if-limit-gt-NODES.true, is.high))
        | then-limit-lt1-via-else-limit-lt1+else-limit-gt-NODES+then-limit-len w ↦ absurd
            (none_above db c.self.inside.guide c.self.invariant.guided c.args.limit is (omega (arith, w.if-limit-len.true, w.len.ensures)))
      ],
)

pub invariant_of-self : goal.invariant_of-self
invariant_of-self c =
    let db = database_of c.self.inside.labels c.self.inside.graph.graph c.self.inside.limit c.self.inside.mode in
    let is = is_limit db c.self.inside.guide c.self.invariant.guided c.args.limit c.self.invariant.valid (omega (arith, c.if-limit-lt1.false))
    (omega (arith, c.if-limit-gt-NODES.false)) (λ above. omega (arith, above, c.len.ensures, c.if-limit-len.false)) in
    record {
      valid = valid_limited db c.self.invariant.valid c.args.limit is;
      indexes = c.self.invariant.indexes;
      guided = c.self.invariant.guided;
    }

pub returns-clause-told : goal.returns-clause-told
returns-clause-told c =
    let db = database_of c.self.inside.labels c.self.inside.graph.graph c.self.inside.limit c.self.inside.mode in
    let is = is_limit db c.self.inside.guide c.self.invariant.guided c.args.limit c.self.invariant.valid (omega (arith, c.if-limit-lt1.false))
    (omega (arith, c.if-limit-gt-NODES.false)) (λ above. omega (arith, above, c.len.ensures, c.if-limit-len.false)) in
    (λ told. subst (λ (s : RoomyDatabase). IsLimit s.db c.args.limit) c.self.view_is is, λ limit. refl)
