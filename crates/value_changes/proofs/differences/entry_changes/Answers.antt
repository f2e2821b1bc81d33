use Rattle.value_changes.proofs.StayLaws.{Reading}
use Rattle.value_changes.proofs.ChangeLaws.{entry-changes}
use Rattle.value_changes.proofs.EnteredLaws.{entered_before, touched_read}
use Rattle.value_changes.proofs.differences.entry_changes.Goals as goal

pub returns-clause-entries : goal.returns-clause-entries
returns-clause-entries g c old new objects objects_then settled settled_then changes reads =
    let lost = c.args.changes.lost.now in
    let touches = rw (c.as_slice.ensures, ← objects, ← objects_then) at c.in_ok-touched.ensures in
    let read : Reading = record {
      old = old;
      new = new;
      lost = lost;
      fresh = c.args.changes.fresh.now;
      given = c.args.changes.given.now;
      oids = c.in_ok-given.given;
      entering = c.in_ok-entering.entering;
      before = c.in_ok-old.old;
      then = c.in_ok-new.new;
      settled = settled;
      settled_then = settled_then;
      changes = changes;
      gives = rw (← objects, ← objects_then) at c.in_ok-given.ensures;
      enters = entered_before old.objects new.objects (g.K.Links.edges c.args.links.now) old.edges lost c.args.changes.fresh.now
          c.args.changes.added.now c.in_ok-given.given c.in_ok-touched.touched c.in_ok-read.read c.in_ok-entering.entering reads
          (λ edge gone. ((changes.lost_exact edge).0 gone).0) settled.children touches
          (rw c.as_slice-2.ensures at c.in_ok-read.ensures.edges) (rw c.as_slice-3.ensures at c.in_ok-entering.ensures);
      pairs = rw (c.as_slice-4.ensures, ← objects) at c.in_ok-old.ensures;
      pairs_then = rw (c.as_slice-5.ensures, ← objects_then) at c.in_ok-new.ensures;
    } in
    entry-changes read c.in_ok-leaving.leaving c.in_ok-coming.coming _ _
    (rw (c.as_slice-6.ensures, c.as_slice-7.ensures, c.as_slice-8.ensures) at c.in_ok-leaving.ensures)
    (rw (c.as_slice-9.ensures, c.as_slice-10.ensures, c.as_slice-11.ensures) at c.in_ok-coming.ensures)
    (rw (c.as_slice-12.ensures, ← objects) at c.in_ok-gone.ensures)
    (rw (c.as_slice-13.ensures, ← objects_then) at c.in_ok-come.ensures)

pub returns-clause-reads : goal.returns-clause-reads
returns-clause-reads g c ascend =
    touched_read (g.K.Links.edges c.args.links.now) c.args.changes.lost.now c.args.changes.fresh.now c.args.changes.given.now
    (g.V.ValueOf.objects c.args.before.now) (g.W.ValueOf.objects c.args.after.now) c.in_ok-given.given c.in_ok-touched.touched
    c.args.steps.now c.entering_edges.new.steps c.in_ok-given.ensures (rw c.as_slice.ensures at c.in_ok-touched.ensures)
    (rw c.as_slice-2.ensures at c.in_ok-read.ensures.steps ascend)
