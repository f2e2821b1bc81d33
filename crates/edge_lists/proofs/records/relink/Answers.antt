use Rattle.std.proofs.Common.{ℕ, Option, sym, ap, ◌∙◌, subst}
use Rattle.slab.specs.Slab.{with_value}
use Rattle.edge_lists.specs.Types.{EdgeRecord}
use Rattle.edge_lists.specs.Records.{with_link, IsRelinked}
use Rattle.edge_lists.proofs.RecordLaws.{relinked}
use Rattle.edge_lists.proofs.records.relink.Goals as goal

pub returns : goal.returns
returns c = subst
    (λ (r : EdgeRecord). IsRelinked c.args.records.now c.args.side c.args.way c.args.key c.args.link (with_value c.args.records.now c.args.key r))
    (sym (c.set_link.ensures ∙ ap (λ (l : Option ℕ). with_link c.args.side c.args.way l c.index_mut.result.now) c.to-packed.ensures))
    (relinked c.args.records.now c.args.side c.args.way c.args.key c.args.link c.index_mut.result.now c.index_mut.ensures.value)
