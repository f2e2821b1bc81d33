use Rattle.std.proofs.Common.{◌≡◌, ℕ, ltb, true, false, length, get_or, inl, inr, sym, ap, ◌∙◌, subst, rules, arith}
use Rattle.std.specs.List.{AllWithin}
use Rattle.std.proofs.lemmas.Bool.{cases_lt, false≢true}
use Rattle.std.proofs.lemmas.List.{get_or_default}
use Rattle.std.proofs.lemmas.List.Sorted.{IsPartitionPoint-from_clause, IsPartitionedBy-ltb}
use Rattle.set_explorer.specs.Types.{Node}
use Rattle.set_explorer.specs.Nodes.{HasSet}
use Rattle.set_explorer.proofs.HashedLaws.{none-left, none-other}
use Rattle.set_explorer.proofs.nodes.find_node.Goals as goal

pub run-preserved : goal.run-preserved
run-preserved c = record {
  from = omega (arith, c.run.invariant.from);
  passed = λ k d low high. (elim (cases_lt k c.run.place) [
    | inl early ↦ c.run.invariant.passed k d low early
    | inr late ↦ (
        let here : k ≡ c.run.place = omega (arith, late, high) in
        let read : get_or c.args.by_hash.now k d ≡ get_or c.args.by_hash.now c.run.place (0, record { 0 = 0 }) =
        ap (λ (j : ℕ). get_or c.args.by_hash.now j d) here
        ∙ get_or_default c.args.by_hash.now c.run.place d (0, record { 0 = 0 }) c.run-test.true in
        λ has. false≢true
        (c.if-has_set.ensures.1 (subst (λ (e : ℕ × Node). HasSet c.args.nodes.now e.1 c.args.set.now) read has)))
  ]);
}

pub returns-then-entry-hash-clause-none : goal.returns-then-entry-hash-clause-none
returns-then-entry-hash-clause-none c =
    let entries = c.args.by_hash.now in
    let start = c.partition_point-start.result in
    let parts =
    IsPartitionPoint-from_clause (λ e. ltb e.0 c.hash64-hash.result) entries start
    c.partition_point-start.ensures.partitioned
    (IsPartitionedBy-ltb (λ e. e.0) entries c.hash64-hash.result c.requires.sorted) (λ a r q k. search rules) in
    none-other entries c.args.nodes.now c.requires c.args.set.now start c.run.place
    (subst (λ (h : ℕ). AllWithin (λ e. ltb e.0 h ≡ true) entries 0 start) c.hash64-hash.ensures parts.0)
    (subst (λ (h : ℕ). AllWithin (λ e. ltb e.0 h ≡ false) entries start (length entries)) c.hash64-hash.ensures parts.1)
    c.run.invariant.passed c.run.invariant.from (0, record { 0 = 0 }) c.run-test.true
    (λ same. c.if-entry-hash.true (same ∙ sym c.hash64-hash.ensures))

pub returns-clause-none : goal.returns-clause-none
returns-clause-none c =
    let entries = c.args.by_hash.now in
    let start = c.partition_point-start.result in
    let parts =
    IsPartitionPoint-from_clause (λ e. ltb e.0 c.hash64-hash.result) entries start
    c.partition_point-start.ensures.partitioned
    (IsPartitionedBy-ltb (λ e. e.0) entries c.hash64-hash.result c.requires.sorted) (λ a r q k. search rules) in
    none-left entries c.args.nodes.now c.requires c.args.set.now start c.run.place
    (subst (λ (h : ℕ). AllWithin (λ e. ltb e.0 h ≡ true) entries 0 start) c.hash64-hash.ensures parts.0)
    (subst (λ (h : ℕ). AllWithin (λ e. ltb e.0 h ≡ false) entries start (length entries)) c.hash64-hash.ensures parts.1)
    c.run.invariant.passed c.run.invariant.from c.run-test.false
