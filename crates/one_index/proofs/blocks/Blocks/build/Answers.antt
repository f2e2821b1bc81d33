use Rattle.std.proofs.Common.{◌≡◌, ℕ, ◌+◌, ◌<◌, ◌≤◌, List, length, All, AllPairs, sym, ap, ◌∙◌, subst, arith}
use Rattle.std.specs.List.{sum_by}
use Rattle.read_costs.specs.ReadCosts.{out_reads, in_reads}
use Rattle.block_rounds.specs.Partitions.{IsNumbered}
use Rattle.one_index.specs.Types.{Oid, Edge}
use Rattle.one_index.specs.Blocks.{named_graph_of, IsSound}
use Rattle.one_index.specs.inside.Parted.{IsParted}
use Rattle.one_index.proofs.BuildLaws.{AreBlocksOf-built, members-shown, edges-shown, few_blocks, cost_both}
use Rattle.one_index.proofs.blocks.Blocks.build.Goals as goal

pub blocks_by-requires-clause-few : goal.blocks_by-requires-clause-few
blocks_by-requires-clause-few g c =
    let numbers = c.in_ok-partition.partition.numbers.items in
    let heads = c.in_ok-partition.partition.heads.items in
    let objects = c.args.objects.now in
    let numbered =
    subst (λ (l : List Oid). IsNumbered (length l) numbers heads) c.as_slice-oids.ensures c.in_ok-partition.ensures.numbered in
    let few : length heads ≤ length objects = few_blocks numbers heads (length objects) numbered c.in_ok-partition.ensures.order in
    omega (arith, few, c.requires.few, c.len.ensures, c.in_ok-partition.partition.heads.ok.0)

pub invariant_of-result : goal.invariant_of-result
invariant_of-result g c =
    let numbers = c.in_ok-partition.partition.numbers.items in
    let heads = c.in_ok-partition.partition.heads.items in
    let objects = c.args.objects.now in
    let blocks = c.in_ok-blocks.blocks.items in
    let own : c.in_ok-own.own ≡ objects = c.in_ok-own.ensures ∙ c.as_slice-oids.ensures in
    let numbered =
    subst (λ (l : List Oid). IsNumbered (length l) numbers heads) c.as_slice-oids.ensures c.in_ok-partition.ensures.numbered in
    let few : length heads ≤ length objects = few_blocks numbers heads (length objects) numbered c.in_ok-partition.ensures.order in
    let every : length heads ≡ length blocks = omega (arith, c.in_ok-blocks.ensures.every, c.len.ensures, c.in_ok-partition.partition.heads.ok.0) in
    record {
      ascend = subst (λ (l : List Oid). AllPairs (λ a b. a.0 < b.0) l) (sym own) c.requires.sound.ascend;
      every = numbered.every ∙ ap length (sym own);
      numbered = subst (λ (n : ℕ). All (λ number. number < n) numbers) every numbered.numbered;
      exact = members-shown c.as_slice-oids.result.now c.in_ok-own.own c.as_slice.result.now numbers blocks
          (c.as_slice-oids.ensures ∙ sym own) c.as_slice.ensures.value c.in_ok-blocks.ensures.members;
      few = omega (arith, few, c.requires.few, every);
    }

pub returns-clause-blocks : goal.returns-clause-blocks
returns-clause-blocks g c =
    let numbers = c.in_ok-partition.partition.numbers.items in
    let heads = c.in_ok-partition.partition.heads.items in
    let objects = c.args.objects.now in
    let names = c.args.names.now in
    let edges : List Edge = g.A.Adjacent.edges c.args.graph.now in
    let blocks = c.in_ok-blocks.blocks.items in
    let numbered =
    subst (λ (l : List Oid). IsNumbered (length l) numbers heads) c.as_slice-oids.ensures c.in_ok-partition.ensures.numbered in
    let every : length blocks ≡ length heads = omega (arith, c.in_ok-blocks.ensures.every, c.len.ensures, c.in_ok-partition.partition.heads.ok.0) in
    let parted =
    subst (λ (l : List Oid). IsSound (named_graph_of names l edges) → IsParted (named_graph_of names l edges) numbers) c.as_slice-oids.ensures
    (c.in_ok-partition.ensures.parted edges c.requires.same) c.requires.sound in
    let members =
    members-shown c.as_slice-oids.result.now objects c.as_slice.result.now numbers blocks c.as_slice-oids.ensures c.as_slice.ensures.value
    c.in_ok-blocks.ensures.members in
    let linked =
    edges-shown edges c.as_slice-oids.result.now objects c.as_slice.result.now numbers blocks c.as_slice-oids.ensures
    c.as_slice.ensures.value c.in_ok-blocks.ensures.edges in
    AreBlocksOf-built (named_graph_of names objects edges) numbers heads blocks c.requires.sound parted numbered c.in_ok-partition.ensures.order
    every members c.in_ok-blocks.ensures.ordered linked

pub returns-clause-few : goal.returns-clause-few
returns-clause-few g c =
    let numbers = c.in_ok-partition.partition.numbers.items in
    let heads = c.in_ok-partition.partition.heads.items in
    let objects = c.args.objects.now in
    let numbered =
    subst (λ (l : List Oid). IsNumbered (length l) numbers heads) c.as_slice-oids.ensures c.in_ok-partition.ensures.numbered in
    let few : length heads ≤ length objects = few_blocks numbers heads (length objects) numbered c.in_ok-partition.ensures.order in
    omega (arith, few, c.in_ok-blocks.ensures.every, c.len.ensures, c.in_ok-partition.partition.heads.ok.0)

pub returns-clause-steps : goal.returns-clause-steps
returns-clause-steps g c =
    let edges : List Edge = g.A.Adjacent.edges c.args.graph.now in
    let objects = c.args.objects.now in
    let first : c.partition_of.new.steps ≤ c.args.steps.now + sum_by (in_reads edges) objects =
    subst (λ (l : List Oid). c.partition_of.new.steps ≤ c.args.steps.now + sum_by (in_reads edges) l) c.as_slice-oids.ensures
    (c.in_ok-partition.ensures.steps edges c.requires.same) in
    let second : c.blocks_by.new.steps ≡ c.partition_of.new.steps + sum_by (out_reads edges) objects =
    subst (λ (l : List Oid). c.blocks_by.new.steps ≡ c.partition_of.new.steps + sum_by (out_reads edges) l) c.as_slice-oids.ensures
    c.in_ok-blocks.ensures.steps in
    omega (arith, first, second, cost_both edges objects)
