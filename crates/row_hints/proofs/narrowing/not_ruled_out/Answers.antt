use Rattle.lore_base.specs.Walks.{oid_of}
use Rattle.row_hints.specs.Thinned.{FailsWith}
use Rattle.row_hints.proofs.ThinLaws.{thinned_none, thinned_at, thinned_all}
use Rattle.row_hints.proofs.narrowing.not_ruled_out.Goals as goal

pub oids-init : goal.oids-init
oids-init g c =
    let place = c.args.place.now in
    thinned_none (FailsWith (g.S.Hints.hints place.sources.now) place.known.now place.slot place.row.now) c.in_ok-kept.kept c.in_ok-kept.ensures

pub oids-preserved : goal.oids-preserved
oids-preserved g c =
    let place = c.args.place.now in
    thinned_at (FailsWith (g.S.Hints.hints place.sources.now) place.known.now place.slot place.row.now) c.args.oids.now c.oids.kept c.push_unless.new.kept
    c.oids.oid-index (oid_of 0) c.in_ok-out.out c.requires.ascending c.oids-test.true c.in_ok-push_unless.ensures c.in_ok-out.ensures c.oids.invariant

pub returns : goal.returns
returns g c =
    let place = c.args.place.now in
    thinned_all (FailsWith (g.S.Hints.hints place.sources.now) place.known.now place.slot place.row.now) c.args.oids.now c.oids.kept c.oids.oid-index
    c.oids-test.false c.oids.invariant
