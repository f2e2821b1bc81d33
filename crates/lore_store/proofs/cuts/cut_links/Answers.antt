use Rattle.std.proofs.Common.{◌≡◌, ◌+◌, List, subst}
use Rattle.std.specs.List.{sum_by}
use Rattle.lore_base.specs.declared.edges.Oid.{Oid}
use Rattle.lore_base.specs.declared.edges.Edge.{Edge}
use Rattle.read_costs.specs.ReadCosts.{in_reads}
use Rattle.read_costs.specs.Entering.{AreEntering}
use Rattle.lore_store.specs.inside.Cuts.{AreLiving}
use Rattle.lore_store.proofs.CutLaws.{links-cut, links-none}
use Rattle.lore_store.proofs.cuts.cut_links.Goals as goal

pub returns-then-len-gt-MANY_ENTERING-clause-found : goal.returns-then-len-gt-MANY_ENTERING-clause-found
returns-then-len-gt-MANY_ENTERING-clause-found g c =
    let none = c.nothing_told.result in
    links-none (g.K.Links.edges c.args.links.now) (g.V.ValueOf.objects c.args.values.now) none.oids none.edges
    c.nothing_told.ensures.oids c.nothing_told.ensures.edges

pub returns-then-len-gt-MANY_ENTERING-clause-reads : goal.returns-then-len-gt-MANY_ENTERING-clause-reads
returns-then-len-gt-MANY_ENTERING-clause-reads g c = record {
  oids = c.in_ok-oids.oids;
  children = c.in_ok-oids.ensures;
  counted = λ ascend. subst (λ (l : List Oid). c.entering_edges.new.steps
      ≡ c.args.steps.now + sum_by (in_reads (g.K.Links.edges c.args.links.now)) l) c.as_slice.ensures.oids
      (c.in_ok-read.ensures.steps ascend);
}

pub returns-clause-found : goal.returns-clause-found
returns-clause-found g c =
    let edges = g.K.Links.edges c.args.links.now in
    let objects = g.V.ValueOf.objects c.args.values.now in
    let enters = subst (λ (l : List Oid). AreEntering edges l c.in_ok-read.read) c.as_slice.ensures.oids c.in_ok-read.ensures.edges in
    let living = subst (λ (l : List Edge). AreLiving l objects c.in_ok-edges.edges) c.as_slice-2.ensures
    c.in_ok-edges.ensures.members in
    links-cut edges objects c.in_ok-oids.oids c.in_ok-read.read c.in_ok-edges.edges enters c.in_ok-edges.ensures.ascend living

pub returns-clause-reads : goal.returns-clause-reads
returns-clause-reads g c = record {
  oids = c.in_ok-oids.oids;
  children = c.in_ok-oids.ensures;
  counted = λ ascend. subst (λ (l : List Oid). c.entering_edges.new.steps
      ≡ c.args.steps.now + sum_by (in_reads (g.K.Links.edges c.args.links.now)) l) c.as_slice.ensures.oids
      (c.in_ok-read.ensures.steps ascend);
}
