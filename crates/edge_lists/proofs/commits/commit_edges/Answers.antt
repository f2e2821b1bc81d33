use Rattle.edge_lists.specs.Types.{Edge}
use Rattle.edge_lists.proofs.CommitLaws.{all_live, changed_all}
use Rattle.edge_lists.proofs.commits.commit_edges.Goals as goal

pub join_all-requires-clause-live : goal.join_all-requires-clause-live
join_all-requires-clause-live c = all_live c.args.objects.now c.put_all.new.objects c.put_all.ensures.objects (λ (e : Edge). e.child) c.args.come.now c.requires.children

pub returns : goal.returns
returns c = changed_all c.args.come.now c.args.gone.now c.args.objects.now c.put_all.new.objects c.join_all.new.objects c.take_all.new.objects
    c.args.records.now c.put_all.new.records c.join_all.new.records c.take_all.new.records c.put_all.new.keys.items
    c.put_all.ensures c.join_all.ensures c.take_all.ensures
