use Rattle.std.proofs.Common.{◌<◌, List, [], ◌∷◌, All, ap, sym, ◌∙◌, subst}
use Rattle.std.specs.Prelude.{is_ok}
use Rattle.graph_changes.specs.Types.{ObjectRecord}
use Rattle.edge_lists.specs.Objects.{IsLive}
use Rattle.graph_changes.specs.Given.{ArePutIn}
use Rattle.graph_changes.specs.inside.Gaps.{IsGap}
use Rattle.graph_changes.proofs.RecordLaws.{put-inserted, put-behind, with_all}
use Rattle.graph_changes.proofs.object_changes.put_object.Goals as goal

pub returns-then-are_below-clause-put : goal.returns-then-are_below-clause-put
returns-then-are_below-clause-put c = put-behind c.args.objects.now.items c.push_reserved.new.self.items c.args.oid c.args.value c.requires.ascend
    (subst (λ (l : List ObjectRecord). All (λ (object : ObjectRecord). object.oid.0 < c.args.oid.0) l) c.as_slice.ensures.value c.if-are_below.ensures)
    (rw c.alone.ensures at c.push_reserved.ensures.items)

pub set_value-requires-clause-live : goal.set_value-requires-clause-live
set_value-requires-clause-live c =
    subst (λ (l : List ObjectRecord). IsLive l c.args.oid) (c.as_slice-2.ensures.value ∙ sym c.as_mut_slice.ensures.value) c.in_default.ensures.live

pub returns-in_default-clause-put : goal.returns-in_default-clause-put
returns-in_default-clause-put c =
    let is = with_all c.set_value.new.objects c.args.objects.now.items c.args.objects.now.len (sym c.as_mut_slice.ensures.len ∙ sym c.set_value.ensures.len) in
    subst (λ (l : List ObjectRecord). ArePutIn ((c.args.oid, c.args.value) ∷ []) c.args.objects.now.items l) (sym is)
    (subst (λ (l : List ObjectRecord). ArePutIn ((c.args.oid, c.args.value) ∷ []) l c.set_value.new.objects) c.as_mut_slice.ensures.value c.set_value.ensures.put)

pub returns-clause-put : goal.returns-clause-put
returns-clause-put c = put-inserted c.args.objects.now.items c.insert.new.self.items c.args.oid c.args.value c.in-Some.place (is_ok c.insert.result) c.requires.ascend
    (subst (λ (l : List ObjectRecord). IsGap l c.args.oid c.in-Some.place) c.as_slice-2.ensures.value c.in-Some.ensures.gap)
    (rw c.alone-object.ensures at c.insert.ensures.items) (ap is_ok c.in-Ok.is)
