use Rattle.std.proofs.Common.{◌<◌, get_or, arith}
use Rattle.lore_base.specs.Walks.{oid_of}
use Rattle.lorel_eval.proofs.MeetingLaws.{none_behind, passes_lesser}
use Rattle.lorel_eval.proofs.meeting.have_common.Goals as goal

pub places-preserved-then-left-i-2 : goal.places-preserved-then-left-i-2
places-preserved-then-left-i-2 c = λ oid in_left in_right.
    let both = c.places.invariant oid in_left in_right in
    (passes_lesser c.args.left.now c.args.right.now c.places.i c.places.j (oid_of 0) oid c.requires.right c.places-test.true c.if-j-right.true c.if-left-i-2.true both.0 both.1, both.1)

pub places-preserved : goal.places-preserved
places-preserved c = λ oid in_left in_right.
    let both = c.places.invariant oid in_left in_right in
    let less : (get_or c.args.right.now c.places.j (oid_of 0)).0 < (get_or c.args.left.now c.places.i (oid_of 0)).0 =
    omega (arith, c.if-left-i.false, c.if-left-i-2.false) in
    (both.0, passes_lesser c.args.right.now c.args.left.now c.places.j c.places.i (oid_of 0) oid c.requires.left c.if-j-right.true c.places-test.true less both.1 both.0)

pub returns-else-j-right : goal.returns-else-j-right
returns-else-j-right c = (
  λ is. cc,
  λ some. absurd (none_behind c.args.right.now c.places.j some.0 c.if-j-right.false (c.places.invariant some.0 some.1 some.2).1),
)

pub returns-after-places : goal.returns-after-places
returns-after-places c = (
  λ is. cc,
  λ some. absurd (none_behind c.args.left.now c.places.i some.0 c.places-test.false (c.places.invariant some.0 some.1 some.2).0),
)
