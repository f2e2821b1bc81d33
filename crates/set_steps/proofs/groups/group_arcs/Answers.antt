use Rattle.std.proofs.Common.{◌≡◌, List, [], ◌∷◌, ◌++◌, take, drop, map, None, sym, ap, ◌∙◌, subst, arith}
use Rattle.std.specs.List.{slice_get}
use Rattle.set_steps.specs.Types.{Oid, Label}
use Rattle.set_steps.proofs.GroupLaws.{child_of, IsGrouping, group-is, rest-ascends, group-ascends, some-first}
use Rattle.set_steps.proofs.GroupLaws.{no-first}
use Rattle.set_steps.proofs.GroupLaws.{grouping-start, grouping-more, grouping-end}
use Rattle.set_steps.proofs.groups.group_arcs.Goals as goal

pub groups-init : goal.groups-init
groups-init c = rw c.new-groups.ensures.items (grouping-start c.args.arcs.now)

pub children-requires : goal.children-requires
children-requires c =
    let len = c.group_length.ensures in
    let is =
    group-is c.groups.rest.now c.in-Some.first.now c.group_length.result c.in-Some.ensures.value len.inside len.group
    len.end in
    rw c.split_at.ensures.front
    (group-ascends c.groups.rest.now c.in-Some.first.now.0 c.group_length.result
    (rest-ascends c.args.arcs.now c.groups.rest.now c.groups.groups.items c.requires c.groups.invariant) is)

pub groups-preserved : goal.groups-preserved
groups-preserved c =
    let rest = c.groups.rest.now in
    let label = c.in-Some.first.now.0 in
    let groups = c.groups.groups.items in
    let len = c.group_length.ensures in
    let is =
    group-is rest c.in-Some.first.now c.group_length.result c.in-Some.ensures.value len.inside len.group len.end in
    let set : c.in_ok-set.set ≡ map child_of (take c.group_length.result rest) =
    c.in_ok-set.ensures ∙ ap (map child_of) c.split_at.ensures.front in
    let more =
    grouping-more rest label c.group_length.result (rest-ascends c.args.arcs.now rest groups c.requires
    c.groups.invariant) is c.args.arcs.now groups c.groups.invariant in
    rw (c.split_at.ensures.back, c.in_ok-push.ensures.items) (subst (λ (s : List Oid). IsGrouping c.args.arcs.now
    (drop c.group_length.result rest) (groups ++ (label, s) ∷ [])) (sym set) more)

pub groups-smaller : goal.groups-smaller
groups-smaller c =
    let len = c.group_length.ensures in
    let is =
    group-is c.groups.rest.now c.in-Some.first.now c.group_length.result c.in-Some.ensures.value len.inside len.group
    len.end in
    let some = some-first c.groups.rest.now c.in-Some.first.now.0 c.group_length.result
    (rest-ascends c.args.arcs.now c.groups.rest.now c.groups.groups.items c.requires c.groups.invariant) is in
    omega (arith, some, c.split_at.ensures.back_len, len.inside)

pub returns : goal.returns
returns c =
    let none : slice_get c.groups.rest.now 0 ≡ None = sym c.in_default.ensures.value in
    grouping-end c.args.arcs.now c.groups.groups.items
    (subst (λ (l : List (Label × Oid)). IsGrouping c.args.arcs.now l c.groups.groups.items)
    (no-first c.groups.rest.now none) c.groups.invariant)
