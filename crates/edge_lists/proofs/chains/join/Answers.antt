use Rattle.edge_lists.proofs.ChainLaws.{joined-by}
use Rattle.edge_lists.proofs.KeyLaws.{all-fit}
use Rattle.edge_lists.proofs.chains.join.Goals as goal

pub relink-requires-clause-fits : goal.relink-requires-clause-fits
relink-requires-clause-fits c = all-fit c.args.records.now c.room-room.ensures c.args.spot.place c.requires.place

pub relink-requires-2-clause-fits : goal.relink-requires-2-clause-fits
relink-requires-2-clause-fits c = all-fit c.args.records.now c.room-room.ensures c.args.spot.next c.requires.next

pub lead-requires-clause-fits : goal.lead-requires-clause-fits
lead-requires-clause-fits c = c.room-room.ensures c.args.key c.requires.key

pub lead_back-requires-clause-fits : goal.lead_back-requires-clause-fits
lead_back-requires-clause-fits c = c.room-room.ensures c.args.key c.requires.key

pub returns : goal.returns
returns c = joined-by c.args.side c.args.key c.args.owner c.args.spot.place c.args.spot.next c.args.objects.now c.lead.new.objects
    c.args.records.now c.relink.new.records c.relink-2.new.records c.lead.new.records c.lead_back.new.records
    c.requires.follows c.relink.ensures c.relink-2.ensures c.lead.ensures c.lead_back.ensures c.requires.apart c.requires.new
