use Rattle.std.proofs.Common.{ℕ, ◌+◌, List, ◌∷◌, drop, get_or, Contains, refl, subst, arith}
use Rattle.std.specs.Option.{IfSome}
use Rattle.edge_lists.specs.Types.{Edge, In}
use Rattle.edge_lists.specs.Records.{LiesAt}
use Rattle.edge_lists.specs.Chains.{StandsAt, AreChained}
use Rattle.edge_lists.specs.Commits.{AreEntered, key_at, keys_at}
use Rattle.edge_lists.proofs.ChangeLaws.{live-same}
use Rattle.edge_lists.proofs.CommitLaws.{all_wait, left_from, waits_once, lies_same, all_among, entered_more}
use Rattle.edge_lists.proofs.commits.join_all.Goals as goal

pub by_child-init : goal.by_child-init
by_child-init c = record {
  entered = record {
    edges = record { edges = λ key. refl; len = refl; capacity = refl };
    objects = refl;
    ascend = c.requires.ascend;
    out = c.requires.out;
    entering = all_wait c.args.objects.now c.args.records.now c.args.keys.now c.args.by_child.now _ c.requires.count c.requires.places c.requires.entering;
  };
  last = tt;
}

pub put_in-requires-clause-live : goal.put_in-requires-clause-live
put_in-requires-clause-live c = live-same c.args.objects.now c.by_child.objects c.by_child.invariant.entered.objects _
    (c.requires.live (get_or c.args.by_child.now c.by_child.place-index 0) _ (c.requires.places.within c.by_child.place-index 0 c.by_child-test.true))

pub put_in-requires-clause-chained : goal.put_in-requires-clause-chained
put_in-requires-clause-chained c =
    let i = c.by_child.place-index in
    let keys = c.args.keys.now in
    let places = c.args.by_child.now in
    let waiting = keys_at keys (drop (i + 1) places) in
    let key = key_at keys (get_or places i 0) in
    let left = left_from keys places i c.by_child-test.true in
    let chained = subst (λ (w : List ℕ). AreChained In c.by_child.objects c.by_child.records w) left c.by_child.invariant.entered.entering in
    let among = subst (λ (w : List ℕ). (k : ℕ) (other : Edge) → Contains w k → LiesAt c.by_child.records k other → Contains c.args.come.now other) left
    (all_among c.args.records.now c.by_child.records c.args.come.now keys places c.by_child.invariant.entered.edges c.requires.count c.requires.lie c.requires.places i) in
    let last = subst (λ (w : List ℕ). IfSome c.by_child.last (λ one. StandsAt c.by_child.records w one.key one.edge)) left c.by_child.invariant.last in (
      waiting,
      chained,
      λ k other at lies less. among k other at lies,
      c.start_behind-start.ensures c.by_child.records (key ∷ waiting) last,
      waits_once c.args.records.now c.args.come.now keys places (get_or c.args.come.now 0 (record { parent = record { 0 = 0 }; label = record { 0 = 0 }; child = record { 0 = 0 } })) c.requires.order c.requires.count c.requires.lie c.requires.places i c.by_child-test.true,
    )

pub by_child-preserved : goal.by_child-preserved
by_child-preserved c =
    let i = c.by_child.place-index in
    let keys = c.args.keys.now in
    let places = c.args.by_child.now in
    let waiting = keys_at keys (drop (i + 1) places) in
    let key = key_at keys (get_or places i 0) in
    let left = left_from keys places i c.by_child-test.true in
    let among = subst (λ (w : List ℕ). (k : ℕ) (other : Edge) → Contains w k → LiesAt c.by_child.records k other → Contains c.args.come.now other) left
    (all_among c.args.records.now c.by_child.records c.args.come.now keys places c.by_child.invariant.entered.edges c.requires.count c.requires.lie c.requires.places i) in
    let last = subst (λ (w : List ℕ). IfSome c.by_child.last (λ one. StandsAt c.by_child.records w one.key one.edge)) left c.by_child.invariant.last in
    let out = waits_once c.args.records.now c.args.come.now keys places (get_or c.args.come.now 0 (record { parent = record { 0 = 0 }; label = record { 0 = 0 }; child = record { 0 = 0 } }))
    c.requires.order c.requires.count c.requires.lie c.requires.places i c.by_child-test.true in
    record {
      entered = entered_more c.args.objects.now c.by_child.objects c.put_in.new.objects c.args.records.now c.by_child.records c.put_in.new.records waiting _ key
          c.start_behind-start.result c.args.come.now
          (subst (λ (w : List ℕ). AreEntered c.args.objects.now c.args.records.now c.by_child.objects c.by_child.records w) left c.by_child.invariant.entered)
          out (λ k other at lies less. among k other at lies) (c.start_behind-start.ensures c.by_child.records (key ∷ waiting) last) c.put_in.ensures;
      last = (
        lies_same c.by_child.records c.put_in.new.records c.put_in.ensures.edges key _
            (lies_same c.args.records.now c.by_child.records c.by_child.invariant.entered.edges key _
            (c.requires.lie (get_or places i 0) _ (omega (arith, c.requires.count, c.requires.places.within i 0 c.by_child-test.true)))),
        out,
      );
    }
