-- The work of a change: what the guide, the search for what vanishes and the reads for value entries spend is within four
-- times it.
use Rattle.std.proofs.Common.{ℕ, ◌+◌, ◌*◌, ◌≤◌, inl, inr, List, zero, suc, suc-mul, arith}
use Rattle.std.specs.List.{Contains, sum_by}
use Rattle.std.proofs.lemmas.List.Elements.{All-weaker}
use Rattle.lore_base.proofs.ToldLaws.{told_oid}
use Rattle.list_laws.proofs.SumLaws.{sum_by-within}
use Rattle.lore_base.specs.Databases.{OemGraph}
use Rattle.read_costs.specs.Types.{Oid, Edge, Changes}
use Rattle.read_costs.specs.Spent.{IsSpent}
use Rattle.read_costs.specs.ReadCosts.{out_reads, in_reads, link_reads}
use Rattle.read_costs.specs.Concerned.{IsInDoubt, IsConcerned, IsTouched}
use Rattle.read_costs.specs.Work.{work_of, IsWithinWork}
use Rattle.read_costs.specs.Laws.{WorkIsWithinAll, PartsAreWithinWork}
use Rattle.read_costs.proofs.SumLaws.{sum_by-times}
use Rattle.read_costs.proofs.SpentLaws.{IsSpent-none, IsSpent-both, IsSpent-wider, IsSpent-from}

times_le : (k a b : ℕ) → a ≤ b → k * a ≤ k * b
times_le zero a b le = omega arith
times_le (suc k) a b le = let rest = times_le k a b le in omega (arith, rest, le, suc-mul k a, suc-mul k b)

abbrev pub set_reads : List Edge → List Oid → ℕ
set_reads edges set = sum_by (out_reads edges) set

module _ (before : OemGraph) (changes : Changes) (between : List Edge) (after : OemGraph) where
  in_doubt_concerned : (oid : Oid) → IsInDoubt before changes between oid → IsConcerned before changes between oid
  in_doubt_concerned oid (inl below) = inl below
  in_doubt_concerned oid (inr made) = inr (inr (inl made))

  -- the vanished are searched for, the guide explores, and the objects concerned are read once more by the edges that
  -- enter them and once more by those that leave them
  work_sum : (t0 t1 t2 t3 t4 : ℕ) → IsSpent (IsInDoubt before changes between) (λ oid. 2 * link_reads between oid) t0 t1
      → IsSpent (IsTouched before changes after) (set_reads between) t1 t2
      → IsSpent (IsConcerned before changes between) (in_reads between) t2 t3
      → IsSpent (IsConcerned before changes between) (out_reads between) t3 t4
      → IsWithinWork 4 before changes between after t0 t4
  work_sum t0 t1 t2 t3 t4 dead guide entries edges =
      let C = IsConcerned before changes between in
      let twice = λ (oid : Oid). 2 * link_reads between oid in
      let first = IsSpent-wider (IsInDoubt before changes between) C twice twice t0 t1 in_doubt_concerned (λ oid. omega arith) dead in
      let start = t0 + sum_by twice first.paid in
      let second = IsSpent-from C (in_reads between) t2 t3 start entries in
      let then = start + sum_by (in_reads between) entries.paid in
      let third = IsSpent-from C (out_reads between) t3 t4 then edges in
      let end = then + sum_by (out_reads between) edges.paid in
      let two = IsSpent-both told_oid C twice (in_reads between) t0 start then (IsSpent-from C twice t0 t1 t0 first) second in
      let three = IsSpent-both told_oid C (λ oid. 2 * link_reads between oid + in_reads between oid) (out_reads between) t0 then end two third in
      let four = IsSpent-wider C C (λ oid. (2 * link_reads between oid + in_reads between oid) + out_reads between oid) (λ oid. 4 * link_reads between oid)
      t0 end (λ oid is. is) (λ oid. omega arith) three in
      record {
        sets = guide.paid;
        sets_apart = guide.apart;
        touched = guide.among;
        oids = four.paid;
        oids_apart = four.apart;
        concerned = four.among;
        within = omega (arith, first.within, guide.within, entries.within, edges.within, four.within, sum_by-times 4 (link_reads between) four.paid);
      }

  -- a change that was prepared: vanished objects, guide, value entries
  pub work_prepared : (t0 t1 t2 t3 : ℕ) → IsSpent (IsInDoubt before changes between) (λ oid. 2 * link_reads between oid) t0 t1
      → IsSpent (IsTouched before changes after) (set_reads between) t1 t2
      → IsSpent (IsConcerned before changes between) (in_reads between) t2 t3
      → IsWithinWork 4 before changes between after t0 t3
  work_prepared t0 t1 t2 t3 dead guide entries =
      work_sum t0 t1 t2 t3 t3 dead guide entries (IsSpent-none (IsConcerned before changes between) (out_reads between) t3)

  -- the vanished are searched for, objects concerned are read by the edges that enter them, the guide explores, and objects
  -- concerned are read so once more
  pub work_told : (t0 t1 t2 t3 t4 : ℕ) → IsSpent (IsInDoubt before changes between) (λ oid. 2 * link_reads between oid) t0 t1
      → IsSpent (IsConcerned before changes between) (in_reads between) t1 t2
      → IsSpent (IsTouched before changes after) (set_reads between) t2 t3
      → IsSpent (IsConcerned before changes between) (in_reads between) t3 t4
      → IsWithinWork 4 before changes between after t0 t4
  work_told t0 t1 t2 t3 t4 dead cut guide entries =
      let C = IsConcerned before changes between in
      let twice = λ (oid : Oid). 2 * link_reads between oid in
      let first = IsSpent-wider (IsInDoubt before changes between) C twice twice t0 t1 in_doubt_concerned (λ oid. omega arith) dead in
      let start = t0 + sum_by twice first.paid in
      let second = IsSpent-from C (in_reads between) t1 t2 start cut in
      let then = start + sum_by (in_reads between) cut.paid in
      let third = IsSpent-from C (in_reads between) t3 t4 then entries in
      let end = then + sum_by (in_reads between) entries.paid in
      let two = IsSpent-both told_oid C twice (in_reads between) t0 start then (IsSpent-from C twice t0 t1 t0 first) second in
      let three = IsSpent-both told_oid C (λ oid. 2 * link_reads between oid + in_reads between oid) (in_reads between) t0 then end two third in
      let four = IsSpent-wider C C (λ oid. (2 * link_reads between oid + in_reads between oid) + in_reads between oid) (λ oid. 4 * link_reads between oid)
      t0 end (λ oid is. is) (λ oid. omega arith) three in
      record {
        sets = guide.paid;
        sets_apart = guide.apart;
        touched = guide.among;
        oids = four.paid;
        oids_apart = four.apart;
        concerned = four.among;
        within = omega (arith, first.within, cut.within, guide.within, entries.within, four.within, sum_by-times 4 (link_reads between) four.paid);
      }

  -- and one that was refused for its guide
  pub work_told_explored : (t0 t1 t2 t3 : ℕ) → IsSpent (IsInDoubt before changes between) (λ oid. 2 * link_reads between oid) t0 t1
      → IsSpent (IsConcerned before changes between) (in_reads between) t1 t2
      → IsSpent (IsTouched before changes after) (set_reads between) t2 t3 → IsWithinWork 4 before changes between after t0 t3
  work_told_explored t0 t1 t2 t3 dead cut guide =
      work_told t0 t1 t2 t3 t3 dead cut guide (IsSpent-none (IsConcerned before changes between) (in_reads between) t3)

  -- one that was refused for its guide
  pub work_explored : (t0 t1 t2 : ℕ) → IsSpent (IsInDoubt before changes between) (λ oid. 2 * link_reads between oid) t0 t1
      → IsSpent (IsTouched before changes after) (set_reads between) t1 t2 → IsWithinWork 4 before changes between after t0 t2
  work_explored t0 t1 t2 dead guide =
      work_prepared t0 t1 t2 t2 dead guide (IsSpent-none (IsConcerned before changes between) (in_reads between) t2)

  -- one that was refused for its sizes
  pub work_searched : (t0 t1 : ℕ) → IsSpent (IsInDoubt before changes between) (λ oid. 2 * link_reads between oid) t0 t1
      → IsWithinWork 4 before changes between after t0 t1
  work_searched t0 t1 dead =
      work_explored t0 t1 t1 dead (IsSpent-none (IsTouched before changes after) (set_reads between) t1)

pub parts_are_within_work : PartsAreWithinWork
parts_are_within_work before changes between after t0 t1 t2 t3 t4 dead guide entries edges =
    work_sum before changes between after t0 t1 t2 t3 t4 dead guide entries edges

pub work_is_within_all : WorkIsWithinAll
work_is_within_all times before changes between after old now spent sets all_sets oids all_oids =
    let one : sum_by (set_reads between) spent.sets ≤ sum_by (set_reads between) sets =
    sum_by-within (set_reads between) spent.sets sets spent.sets_apart
    (All-weaker (IsTouched before changes after) (Contains sets) all_sets spent.sets spent.touched) in
    let two : sum_by (link_reads between) spent.oids ≤ sum_by (link_reads between) oids =
    sum_by-within (link_reads between) spent.oids oids spent.oids_apart
    (All-weaker (IsConcerned before changes between) (Contains oids) all_oids spent.oids spent.concerned) in
    let both : work_of between spent.sets spent.oids ≤ work_of between sets oids = omega (arith, one, two) in
    let more = times_le times (work_of between spent.sets spent.oids) (work_of between sets oids) both in
    omega (arith, spent.within, more)
