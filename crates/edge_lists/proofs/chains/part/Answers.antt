use Rattle.std.proofs.Common.{ℕ, Option, sym, subst}
use Rattle.std.specs.Option.{IfSome}
use Rattle.slab.specs.Slab.{ContainsKey}
use Rattle.edge_lists.proofs.ChainLaws.{parted-by}
use Rattle.edge_lists.proofs.KeyLaws.{all-fit}
use Rattle.edge_lists.proofs.chains.part.Goals as goal

pub lead-requires-clause-fits : goal.lead-requires-clause-fits
lead-requires-clause-fits c =
    all-fit c.args.records.now c.room-room.ensures c.link_at-next.result
    (subst (λ (l : Option ℕ). IfSome l (ContainsKey c.args.records.now)) (sym c.link_at-next.ensures) c.requires.next)

pub lead_back-requires-clause-fits : goal.lead_back-requires-clause-fits
lead_back-requires-clause-fits c =
    all-fit c.args.records.now c.room-room.ensures c.link_at-place.result
    (subst (λ (l : Option ℕ). IfSome l (ContainsKey c.args.records.now)) (sym c.link_at-place.ensures) c.requires.place)

pub returns : goal.returns
returns c = parted-by c.args.side c.args.key c.args.owner c.link_at-place.result c.link_at-next.result c.args.objects.now c.lead.new.objects
    c.args.records.now c.lead.new.records c.lead_back.new.records
    c.link_at-place.ensures c.link_at-next.ensures c.lead.ensures c.lead_back.ensures
