use Rattle.std.proofs.Common.{◌≡◌, ◌+◌, ◌*◌, ◌<◌, ◌≤◌, [], ◌∷◌, List, Option, IfSome, IfNone, All, length, refl, sym, ap, subst, ◌∙◌, arith, true≢false}
use Rattle.std.proofs.lemmas.Result.{IfErr-weaker}
use Rattle.oem_labels.specs.Labels.{first_uses}
use Rattle.oem_text.specs.Layouts.{texts_of}
use Rattle.lore_base.specs.ChangeCauses.{ChangeCause}
use Rattle.lore_base.specs.Verdicts.{IsToldBy}
use Rattle.lorel_trees.specs.Trees.{literal_tree}
use Rattle.updates.specs.Types.{Edge, LABELS, OBJECTS, EDGES, NEXT_NUMBER}
use Rattle.updates.specs.Faults.{refusal_of}
use Rattle.updates.specs.Effects.{Pair, targets, no_changes}
use Rattle.updates.specs.inside.RowTests.{any_atomic}
use Rattle.updates.specs.inside.Forms.{grown_order, CopyCause, copy_order}
use Rattle.updates.specs.inside.Stamps.{IsStamp, stamped_objects, stamped_edges}
use Rattle.updates.specs.declared.stamps.Stamp.{Stamp}
use Rattle.updates.proofs.TextLaws.{grown_over, grown_under}
use Rattle.updates.proofs.CopyCauseLaws.{copy_told}
use Rattle.updates.proofs.RefusalLaws.{one_copy, some_row, none_copied, stamp_inside, told_atom, told_spent, told_full, told_objects, told_edges, told_clear, told_same}
use Rattle.updates.proofs.copies.add_copies.Goals as goal

pub returns-then-is_empty-clause-err : goal.returns-then-is_empty-clause-err
returns-then-is_empty-clause-err c =
    let table = c.args.labels.now in
    let graph = c.args.graph.now.graph in
    let label = c.args.label.now in
    let tree = literal_tree c.args.literal.now in
    let rows = c.args.rows.now in
    let none = c.is_empty.ensures.0 c.if-is_empty.true in
    IfErr-weaker c.no_copy.result (λ fault. IsToldBy (ChangeCause table graph no_changes) grown_order (refusal_of fault))
    (λ fault. IsToldBy (CopyCause table graph label tree rows) copy_order (refusal_of fault))
    (λ fault told. copy_told table graph label tree rows no_changes (none_copied table graph label tree rows none) c.in-Ok.ensures.ok (refusal_of fault) told)
    c.no_copy.ensures.err

pub returns-then-any_atomic-clause-err : goal.returns-then-any_atomic-clause-err
returns-then-any_atomic-clause-err c =
    let table = c.args.labels.now in
    let graph = c.args.graph.now.graph in
    let label = c.args.label.now in
    let tree = literal_tree c.args.literal.now in
    let rows = c.args.rows.now in
    let layout = c.in-Ok.layout in
    let some = λ (none : rows ≡ []). true≢false (sym (c.is_empty.ensures.1 none) ∙ c.if-is_empty.false) in
    let atomic = sym (c.any_atomic.ensures ∙ ap (any_atomic graph.objects) c.as_slice.ensures) ∙ c.if-any_atomic.true in
    told_atom table graph label tree rows c.requires.rooted c.requires.rows some c.in-Ok.ensures.ok layout c.in-Ok.ensures.layout c.len-size.ensures.joined atomic

pub returns-then-outgrow-clause-err : goal.returns-then-outgrow-clause-err
returns-then-outgrow-clause-err c =
    let table = c.args.labels.now in
    let graph = c.args.graph.now.graph in
    let label = c.args.label.now in
    let tree = literal_tree c.args.literal.now in
    let rows = c.args.rows.now in
    let layout = c.in-Ok.layout in
    let some = λ (none : rows ≡ []). true≢false (sym (c.is_empty.ensures.1 none) ∙ c.if-is_empty.false) in
    let complex = sym (c.any_atomic.ensures ∙ ap (any_atomic graph.objects) c.as_slice.ensures) ∙ c.if-any_atomic.false in
    let spent = grown_over c.outgrow.result NEXT_NUMBER graph.next (length rows) (length layout.values) c.next-next.result c.len.result c.len-size.result c.next-next.ensures.number c.len.ensures c.len-size.ensures.count c.outgrow.ensures c.if-outgrow.true in
    told_spent table graph label tree rows c.requires.rooted c.requires.rows some c.in-Ok.ensures.ok layout c.in-Ok.ensures.layout c.len-size.ensures.joined complex spent

pub stamp_of-requires : goal.stamp_of-requires
stamp_of-requires c =
    let table = c.args.labels.now in
    let graph = c.args.graph.now.graph in
    let label = c.args.label.now in
    let tree = literal_tree c.args.literal.now in
    let rows = c.args.rows.now in
    let layout = c.in-Ok.layout in
    let some = λ (none : rows ≡ []). true≢false (sym (c.is_empty.ensures.1 none) ∙ c.if-is_empty.false) in
    let room = grown_under c.outgrow.result NEXT_NUMBER graph.next (length rows) (length layout.values) c.next-next.result c.len.result c.len-size.result c.next-next.ensures.number c.len.ensures c.len-size.ensures.count c.outgrow.ensures c.if-outgrow.false in
    one_copy (length rows) (length layout.values) NEXT_NUMBER (some_row rows some) (omega (arith, room))

pub returns-in_default-clause-err : goal.returns-in_default-clause-err
returns-in_default-clause-err c =
    let table = c.args.labels.now in
    let graph = c.args.graph.now.graph in
    let label = c.args.label.now in
    let tree = literal_tree c.args.literal.now in
    let rows = c.args.rows.now in
    let layout = c.in-Ok.layout in
    let some = λ (none : rows ≡ []). true≢false (sym (c.is_empty.ensures.1 none) ∙ c.if-is_empty.false) in
    let complex = sym (c.any_atomic.ensures ∙ ap (any_atomic graph.objects) c.as_slice.ensures) ∙ c.if-any_atomic.false in
    let room = grown_under c.outgrow.result NEXT_NUMBER graph.next (length rows) (length layout.values) c.next-next.result c.len.result c.len-size.result c.next-next.ensures.number c.len.ensures c.len-size.ensures.count c.outgrow.ensures c.if-outgrow.false in
    let full = subst (λ (found : Option Stamp). IfNone found (LABELS < length table + length (first_uses table (label ∷ texts_of layout)))) c.in_default.is c.in_ok-stamp.ensures.none in
    told_full table graph label tree rows c.requires.rooted c.requires.rows some c.in-Ok.ensures.ok layout c.in-Ok.ensures.layout c.len-size.ensures.joined complex room full

pub returns-then-outgrow-2-clause-err : goal.returns-then-outgrow-2-clause-err
returns-then-outgrow-2-clause-err c =
    let table = c.args.labels.now in
    let graph = c.args.graph.now.graph in
    let label = c.args.label.now in
    let tree = literal_tree c.args.literal.now in
    let rows = c.args.rows.now in
    let layout = c.in-Ok.layout in
    let some = λ (none : rows ≡ []). true≢false (sym (c.is_empty.ensures.1 none) ∙ c.if-is_empty.false) in
    let complex = sym (c.any_atomic.ensures ∙ ap (any_atomic graph.objects) c.as_slice.ensures) ∙ c.if-any_atomic.false in
    let room = grown_under c.outgrow.result NEXT_NUMBER graph.next (length rows) (length layout.values) c.next-next.result c.len.result c.len-size.result c.next-next.ensures.number c.len.ensures c.len-size.ensures.count c.outgrow.ensures c.if-outgrow.false in
    let stamp = c.in-Some.stamp in
    let stamped = subst (λ (found : Option Stamp). IfSome found (IsStamp table label layout)) c.in-Some.is c.in_ok-stamp.ensures.stamp in
    let few = subst (λ (found : Option Stamp). IfSome found (λ s. length table + length s.texts ≤ LABELS)) c.in-Some.is c.in_ok-stamp.ensures.few in
    let over = grown_over c.outgrow-2.result OBJECTS (length graph.objects) (length rows) (length layout.values) c.objects.result c.len.result c.len-size.result c.objects.ensures.count c.len.ensures c.len-size.ensures.count c.outgrow-2.ensures c.if-outgrow-2.true in
    told_objects table graph label tree rows c.requires.rooted c.requires.rows some c.in-Ok.ensures.ok layout c.in-Ok.ensures.layout c.len-size.ensures.joined complex room stamp stamped few over

pub returns-then-outgrow-3-clause-err : goal.returns-then-outgrow-3-clause-err
returns-then-outgrow-3-clause-err c =
    let table = c.args.labels.now in
    let graph = c.args.graph.now.graph in
    let label = c.args.label.now in
    let tree = literal_tree c.args.literal.now in
    let rows = c.args.rows.now in
    let layout = c.in-Ok.layout in
    let some = λ (none : rows ≡ []). true≢false (sym (c.is_empty.ensures.1 none) ∙ c.if-is_empty.false) in
    let complex = sym (c.any_atomic.ensures ∙ ap (any_atomic graph.objects) c.as_slice.ensures) ∙ c.if-any_atomic.false in
    let room = grown_under c.outgrow.result NEXT_NUMBER graph.next (length rows) (length layout.values) c.next-next.result c.len.result c.len-size.result c.next-next.ensures.number c.len.ensures c.len-size.ensures.count c.outgrow.ensures c.if-outgrow.false in
    let stamp = c.in-Some.stamp in
    let stamped = subst (λ (found : Option Stamp). IfSome found (IsStamp table label layout)) c.in-Some.is c.in_ok-stamp.ensures.stamp in
    let few = subst (λ (found : Option Stamp). IfSome found (λ s. length table + length s.texts ≤ LABELS)) c.in-Some.is c.in_ok-stamp.ensures.few in
    let under = grown_under c.outgrow-2.result OBJECTS (length graph.objects) (length rows) (length layout.values) c.objects.result c.len.result c.len-size.result c.objects.ensures.count c.len.ensures c.len-size.ensures.count c.outgrow-2.ensures c.if-outgrow-2.false in
    let over = grown_over c.outgrow-3.result EDGES (length graph.edges) (length rows) (length stamp.edges + 1) c.edges.result c.len.result (length c.as_slice-2.result.now + 1) c.edges.ensures.count c.len.ensures (ap (λ (l : List Edge). length l + 1) c.as_slice-2.ensures) c.outgrow-3.ensures c.if-outgrow-3.true in
    told_edges table graph label tree rows c.requires.rooted c.requires.rows some c.in-Ok.ensures.ok layout c.in-Ok.ensures.layout c.len-size.ensures.joined complex room stamp stamped few under over

pub copied_edges-requires-clause-inside : goal.copied_edges-requires-clause-inside
copied_edges-requires-clause-inside c =
    let table = c.args.labels.now in
    let graph = c.args.graph.now.graph in
    let label = c.args.label.now in
    let tree = literal_tree c.args.literal.now in
    let rows = c.args.rows.now in
    let layout = c.in-Ok.layout in
    let stamp = c.in-Some.stamp in
    let stamped = subst (λ (found : Option Stamp). IfSome found (IsStamp table label layout)) c.in-Some.is c.in_ok-stamp.ensures.stamp in
    subst (λ n. All (λ (edge : Edge). (edge.parent.0 < n) × (edge.child.0 < n)) stamp.edges) (sym c.len-size.ensures.count)
    (stamp_inside table label layout stamp c.len-size.ensures.joined stamped)

pub returns-clause-ok : goal.returns-clause-ok
returns-clause-ok c =
    let table = c.args.labels.now in
    let graph = c.args.graph.now.graph in
    let label = c.args.label.now in
    let tree = literal_tree c.args.literal.now in
    let rows = c.args.rows.now in
    let layout = c.in-Ok.layout in
    let some = λ (none : rows ≡ []). true≢false (sym (c.is_empty.ensures.1 none) ∙ c.if-is_empty.false) in
    let complex = sym (c.any_atomic.ensures ∙ ap (any_atomic graph.objects) c.as_slice.ensures) ∙ c.if-any_atomic.false in
    let room = grown_under c.outgrow.result NEXT_NUMBER graph.next (length rows) (length layout.values) c.next-next.result c.len.result c.len-size.result c.next-next.ensures.number c.len.ensures c.len-size.ensures.count c.outgrow.ensures c.if-outgrow.false in
    let stamp = c.in-Some.stamp in
    let stamped = subst (λ (found : Option Stamp). IfSome found (IsStamp table label layout)) c.in-Some.is c.in_ok-stamp.ensures.stamp in
    let few = subst (λ (found : Option Stamp). IfSome found (λ s. length table + length s.texts ≤ LABELS)) c.in-Some.is c.in_ok-stamp.ensures.few in
    let under = grown_under c.outgrow-2.result OBJECTS (length graph.objects) (length rows) (length layout.values) c.objects.result c.len.result c.len-size.result c.objects.ensures.count c.len.ensures c.len-size.ensures.count c.outgrow-2.ensures c.if-outgrow-2.false in
    let below = grown_under c.outgrow-3.result EDGES (length graph.edges) (length rows) (length stamp.edges + 1) c.edges.result c.len.result (length c.as_slice-2.result.now + 1) c.edges.ensures.count c.len.ensures (ap (λ (l : List Edge). length l + 1) c.as_slice-2.ensures) c.outgrow-3.ensures c.if-outgrow-3.false in
    told_clear table graph label tree rows c.requires.rooted c.requires.rows some c.in-Ok.ensures.ok layout c.in-Ok.ensures.layout c.len-size.ensures.joined complex room stamp stamped few under below

pub returns-clause-same : goal.returns-clause-same
returns-clause-same c =
    let table = c.args.labels.now in
    let graph = c.args.graph.now.graph in
    let label = c.args.label.now in
    let tree = literal_tree c.args.literal.now in
    let rows = c.args.rows.now in
    let layout = c.in-Ok.layout in
    let some = λ (none : rows ≡ []). true≢false (sym (c.is_empty.ensures.1 none) ∙ c.if-is_empty.false) in
    let complex = sym (c.any_atomic.ensures ∙ ap (any_atomic graph.objects) c.as_slice.ensures) ∙ c.if-any_atomic.false in
    let room = grown_under c.outgrow.result NEXT_NUMBER graph.next (length rows) (length layout.values) c.next-next.result c.len.result c.len-size.result c.next-next.ensures.number c.len.ensures c.len-size.ensures.count c.outgrow.ensures c.if-outgrow.false in
    let stamp = c.in-Some.stamp in
    let stamped = subst (λ (found : Option Stamp). IfSome found (IsStamp table label layout)) c.in-Some.is c.in_ok-stamp.ensures.stamp in
    let few = subst (λ (found : Option Stamp). IfSome found (λ s. length table + length s.texts ≤ LABELS)) c.in-Some.is c.in_ok-stamp.ensures.few in
    let made = c.in_ok-made.ensures ∙ ap (λ n. stamped_objects n layout.values (targets c.as_slice-3.result.now)) c.next-next.ensures.number ∙ ap (λ (l : List Pair). stamped_objects graph.next layout.values (targets l)) c.as_slice-3.ensures in
    let added = c.in_ok-added.ensures ∙ ap (λ n. stamped_edges n c.len-size.result stamp.label stamp.edges (targets c.as_slice-4.result.now)) c.next-next.ensures.number ∙ ap (λ n. stamped_edges graph.next n stamp.label stamp.edges (targets c.as_slice-4.result.now)) c.len-size.ensures.count ∙ ap (λ (l : List Pair). stamped_edges graph.next (length layout.values) stamp.label stamp.edges (targets l)) c.as_slice-4.ensures in
    let fresh = c.new-changes.ensures in
    told_same table graph label tree rows c.requires.rooted c.requires.rows some c.in-Ok.ensures.ok layout c.in-Ok.ensures.layout c.len-size.ensures.joined complex room stamp stamped few _ made fresh.values added fresh.removed fresh.named fresh.unnamed refl
