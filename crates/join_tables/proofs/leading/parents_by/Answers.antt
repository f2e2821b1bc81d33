use Rattle.std.proofs.Common.{ℤ, pos}
use Rattle.lore_base.specs.Walks.{oid_of}
use Rattle.join_tables.specs.Types.{Oid}
use Rattle.join_tables.proofs.LeadingLaws.{led_none, led_more, led_all}
use Rattle.join_tables.proofs.leading.parents_by.Goals as goal

pub children-init : goal.children-init
children-init g c = led_none (g.K.Links.edges c.args.links.now) c.args.label c.in_ok-found.found

pub children-preserved : goal.children-preserved
children-preserved g c =
    let first : ℤ × Oid = (pos 0, oid_of 0) in
    led_more (g.K.Links.edges c.args.links.now) c.args.label c.args.children.now c.children.found c.push_parents.new.found c.children.child-index first
    c.children-test.true c.in_ok-push_parents.ensures c.children.invariant

pub returns : goal.returns
returns g c = λ few.
    led_all (g.K.Links.edges c.args.links.now) c.args.label c.args.children.now c.children.found c.children.child-index c.children-test.false c.children.invariant
