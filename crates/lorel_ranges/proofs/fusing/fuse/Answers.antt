use Rattle.std.proofs.Common.{◌+◌, ◌<◌, ◌∙◌, length, List, not, subst, sym, ap, arith, rules}
use Rattle.std.proofs.lemmas.List.Elements.{filter_from_retain}
use Rattle.lorel_ranges.specs.Ranges.{AreFused}
use Rattle.lorel_ranges.specs.Views.{ranges_of}
use Rattle.lorel_ranges.specs.inside.SelectRanges.{IsMarked}
use Rattle.lorel_ranges.specs.inside.Joins.{IsPassing}
use Rattle.lorel_ranges.specs.declared.select_ranges.TextRange.{TextRange}
use Rattle.lorel_ranges.proofs.PassLaws.{passing_start, passing_keep, passing_later, passing_join, joined_length, passing_done}
use Rattle.lorel_ranges.proofs.fusing.fuse.Goals as goal
use Rattle.lorel_ranges.proofs.fusing.fuse.Goals.{in-Some+in_ok-join-in-Some, in-None}

pub numbers-init : goal.numbers-init
numbers-init c = record {
  passing = passing_start c.args.ranges.now.items c.requires.followed c.requires.ordered;
  long = search rules;
}

pub join-requires-clause-within : goal.join-requires-clause-within
join-requires-clause-within c =
    let low : c.numbers.number < length c.numbers.ranges.items = omega (arith, c.numbers-test.true, c.numbers.invariant.long) in
    (passing_later c.args.ranges.now.items c.numbers.number c.numbers.ranges.items c.index.result.now c.in-Some.later c.numbers.invariant.passing low c.index.ensures
    c.in-Some.ensures.some).1

pub join-requires-clause-before : goal.join-requires-clause-before
join-requires-clause-before c =
    let low : c.numbers.number < length c.numbers.ranges.items = omega (arith, c.numbers-test.true, c.numbers.invariant.long) in
    (passing_later c.args.ranges.now.items c.numbers.number c.numbers.ranges.items c.index.result.now c.in-Some.later c.numbers.invariant.passing low c.index.ensures
    c.in-Some.ensures.some).0

pub numbers-preserved : goal.numbers-preserved
numbers-preserved c =
    let plain = c.args.ranges.now.items in
    let ranges = c.numbers.ranges.items in
    let low : c.numbers.number < length ranges = omega (arith, c.numbers-test.true, c.numbers.invariant.long) in
    elim c.match-only_follower.branch [
      | in-Some+in_ok-join-in-Some w ↦ record {
        passing = subst (λ (v : _). IsPassing plain (c.numbers.number + 1) v.items) (sym w.ranges-is)
            (passing_join plain c.numbers.number w.in-Some.later ranges w.join.new.ranges.items c.index.result.now c.numbers.invariant.passing low c.index.ensures
            w.in-Some.ensures.some w.in-Some.ensures.unused w.in_ok-join-in-Some.ensures);
        long = ap (λ (v : _). length v.items) w.ranges-is ∙ joined_length c.numbers.number w.in-Some.later ranges w.join.new.ranges.items w.in_ok-join-in-Some.ensures
            ∙ c.numbers.invariant.long;
      }
      | in-None w ↦ record {
        passing = subst (λ (v : _). IsPassing plain (c.numbers.number + 1) v.items) (sym w.ranges-is)
            (passing_keep plain c.numbers.number ranges c.index.result.now c.numbers.invariant.passing low c.index.ensures w.in-None.ensures.none);
        long = ap (λ (v : _). length v.items) w.ranges-is ∙ c.numbers.invariant.long;
      }
    ]

pub returns : goal.returns
returns c =
    let ranges = c.numbers.ranges.items in
    let kept = filter_from_retain _ (λ (range : TextRange). not range.joined) (λ p x b q called. search rules) _ ranges c.retain.new.self.items c.retain.ensures.filtered in
    subst (λ (ls : List TextRange). AreFused (IsMarked c.args.ranges.now.items) (ranges_of c.args.ranges.now.items) (ranges_of ls)) (sym kept)
    (passing_done c.args.ranges.now.items c.numbers.number ranges c.numbers.invariant.passing (omega (arith, c.numbers-test.false, c.numbers.invariant.long)))
