use Rattle.std.proofs.Common.{ℕ, ◌<◌, Option, Some, None, [], sym, ap, ◌∙◌, subst}
use Rattle.edge_lists.specs.Types.{After}
use Rattle.edge_lists.specs.Records.{edge_in, link_in}
use Rattle.edge_lists.proofs.WalkLaws.{no_record}
use Rattle.edge_lists.proofs.ChangeLaws.{none_waits}
use Rattle.edge_lists.proofs.RunLaws.{next_lies, lists_none, lists_more, lists_all, ahead_of, fewer_ahead}
use Rattle.edge_lists.proofs.lists.push_list.Goals as goal

pub records-init : goal.records-init
records-init c = (None, lists_none c.args.side c.args.records.now c.args.owner c.args.found.now, c.head-next.ensures)

pub records-smaller : goal.records-smaller
records-smaller c =
    let w = c.records.invariant in
    let is = sym w.2 ∙ c.in-Some.is in
    let lies = ap edge_in (sym c.in-Some-get.ensures) in
    let link = c.link-after.ensures ∙ ap (link_in c.args.side After) c.in-Some-get.ensures in
    subst (λ (n : Option ℕ). ahead_of c.args.side c.args.records.now c.link-after.result < ahead_of c.args.side c.args.records.now n) (sym c.in-Some.is)
    (subst (λ (n : Option ℕ). ahead_of c.args.side c.args.records.now n < ahead_of c.args.side c.args.records.now (Some c.in-Some.key)) (sym link)
    (fewer_ahead c.args.side c.args.objects.now c.args.records.now c.args.owner c.requires.chained w.0 w.1.on c.in-Some.key is c.in-Some-get.record.now.edge lies))

pub records-preserved : goal.records-preserved
records-preserved c =
    let w = c.records.invariant in (
      Some c.in-Some.key,
      lists_more c.args.side c.args.objects.now c.args.records.now c.args.owner c.requires.chained w.0
          c.args.found.now c.records.found c.push.new.self w.1 c.in-Some.key (sym w.2 ∙ c.in-Some.is)
          c.in-Some-get.record.now.edge (ap edge_in (sym c.in-Some-get.ensures)) c.in_ok-push.ensures.ok,
      c.link-after.ensures ∙ ap (link_in c.args.side After) c.in-Some-get.ensures,
    )

pub returns-in_default-get-clause-ok : goal.returns-in_default-get-clause-ok
returns-in_default-get-clause-ok c =
    let w = c.records.invariant in
    let there = next_lies c.args.side c.args.objects.now c.args.records.now c.args.owner c.requires.chained w.0 w.1.on c.in-Some.key (sym w.2 ∙ c.in-Some.is) in
    absurd (no_record c.args.records.now [] c.in-Some.key there.0 (sym c.in_default-get.ensures) (there.1, none_waits c.in-Some.key))

pub returns-clause-ok : goal.returns-clause-ok
returns-clause-ok c =
    let w = c.records.invariant in
    lists_all c.args.side c.args.objects.now c.args.records.now c.args.owner c.requires.chained w.0
    c.args.found.now c.records.found w.1 (sym w.2 ∙ c.in_default.is)
