use Rattle.std.proofs.Common.{List, All, sym, ap, subst, ◌∙◌}
use Rattle.link_index.specs.declared.heads.Head.{Head}
use Rattle.link_index.specs.declared.records.LinkRecord.{LinkRecord}
use Rattle.link_index.specs.inside.LinkEdges.{edges_of}
use Rattle.link_index.specs.inside.Records.{links_of, HasLink, AreChained, AreTaken}
use Rattle.link_index.specs.inside.Heads.{SameHeads}
use Rattle.index_traits.specs.Entries.{AreAscendingLinks}
use Rattle.sorted_list.specs.SortedLists.{IsLessWith}
use Rattle.link_index.proofs.LinkLaws.{all_new, all_kept, linked-less, ascending_links}
use Rattle.link_index.proofs.RecordLaws.{with_all, same_length}
use Rattle.link_index.proofs.HeadLaws.{heads_chain}
use Rattle.link_index.proofs.CommitLaws.{all_lack, all_have, all_still, less_with, links_ascend}
use Rattle.link_index.proofs.link_index.LinkIndex.commit.Goals as goal

pub put_links-requires-clause-new : goal.put_links-requires-clause-new
put_links-requires-clause-new c =
    let kept = ap (λ i. i.links) c.self.view_is in
    let come = ap edges_of c.as_slice-come.ensures.value ∙ ap (λ p. p.come) c.plan.view_is in
    all_lack c.self.inside.records.items c.as_slice-come.result.now (all_new (links_of c.self.inside.records.items) c.as_slice-come.result.now _ _ kept come c.requires.new)

pub take_links-requires-clause-has : goal.take_links-requires-clause-has
take_links-requires-clause-has c =
    let kept = ap (λ i. i.links) c.self.view_is in
    let gone = ap edges_of c.as_slice-gone.ensures.value ∙ ap (λ p. p.gone) c.plan.view_is in
    let has = all_have c.self.inside.records.items c.as_slice-gone.result.now (all_kept (links_of c.self.inside.records.items) c.as_slice-gone.result.now _ _ kept gone c.requires.kept) in
    subst (λ (r : List LinkRecord). All (HasLink r) c.as_slice-gone.result.now) (sym c.as_mut_slice-2.ensures.value)
    (all_still c.as_slice-come.result.now _ c.self.inside.records.items _ c.put_links.ensures c.as_slice-gone.result.now has)

pub invariant_of-self : goal.invariant_of-self
invariant_of-self c =
    let r_is = with_all c.take_links.new.records c.put_links.new.records.items c.put_links.new.records.len (sym c.as_mut_slice-2.ensures.len ∙ sym c.take_links.ensures.len) in
    let h_is = with_all c.take_links.new.heads _ _ (sym c.as_mut_slice.ensures.len ∙ sym (same_length _ _ c.take_links.ensures.children)) in
    record {
      ascend = c.drop_childless.ensures.ascend;
      chained = subst (λ (r : List LinkRecord). AreChained c.drop_childless.new.heads.items r) (sym r_is)
          (heads_chain c.take_links.new.heads c.drop_childless.new.heads.items c.take_links.new.records
          (subst (λ (h : List Head). SameHeads h c.drop_childless.new.heads.items) h_is c.drop_childless.ensures.same) c.take_links.ensures.chained);
    }

pub returns-clause-ascend : goal.returns-clause-ascend
returns-clause-ascend c =
    let r_is = with_all c.take_links.new.records c.put_links.new.records.items c.put_links.new.records.len (sym c.as_mut_slice-2.ensures.len ∙ sym c.take_links.ensures.len) in
    subst (λ (r : List LinkRecord). AreAscendingLinks (edges_of (links_of r))) (sym r_is) (ascending_links (links_of c.take_links.new.records) (links_ascend c.take_links.new.records))

pub returns-clause-links : goal.returns-clause-links
returns-clause-links c =
    let kept = ap (λ i. i.links) c.self.view_is in
    let gone = ap edges_of c.as_slice-gone.ensures.value ∙ ap (λ p. p.gone) c.plan.view_is in
    let come = ap edges_of c.as_slice-come.ensures.value ∙ ap (λ p. p.come) c.plan.view_is in
    let r_is = with_all c.take_links.new.records c.put_links.new.records.items c.put_links.new.records.len (sym c.as_mut_slice-2.ensures.len ∙ sym c.take_links.ensures.len) in
    let has = all_have c.self.inside.records.items c.as_slice-gone.result.now (all_kept (links_of c.self.inside.records.items) c.as_slice-gone.result.now _ _ kept gone c.requires.kept) in
    let new = all_lack c.self.inside.records.items c.as_slice-come.result.now (all_new (links_of c.self.inside.records.items) c.as_slice-come.result.now _ _ kept come c.requires.new) in
    let taken = subst (λ (r : List LinkRecord). AreTaken c.as_slice-gone.result.now c.as_mut_slice.result.now r c.take_links.new.heads c.take_links.new.records) c.as_mut_slice-2.ensures.value c.take_links.ensures in
    let less = less_with c.as_slice-gone.result.now c.as_slice-come.result.now _ _ _ c.self.inside.records.items c.put_links.new.records.items c.take_links.new.records c.put_links.ensures taken has new in
    linked-less (links_of c.self.inside.records.items) c.as_slice-gone.result.now c.as_slice-come.result.now _ _ _ _ kept gone come
    (subst (λ (r : List LinkRecord). IsLessWith (links_of c.self.inside.records.items) c.as_slice-gone.result.now c.as_slice-come.result.now (links_of r)) (sym r_is) less)
