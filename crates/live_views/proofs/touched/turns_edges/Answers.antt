use Rattle.std.proofs.Common.{inl, inr, Bool, not, IsTrue, refl, sym, subst}
use Rattle.list_laws.proofs.MemberLaws.{none_in}
use Rattle.live_views.proofs.EdgeLaws.{some_edge}
use Rattle.live_views.proofs.touched.turns_edges.Goals as goal

pub returns-then-not-is_empty : goal.returns-then-not-is_empty
returns-then-not-is_empty c =
    let some = some_edge c.args.delta.now.edges_gone c.is_empty.result c.is_empty.ensures in (
      λ is. (let edge = some.0 is in (edge.0, inl edge.1)),
      λ _. subst (λ (empty : Bool). IsTrue (not empty)) (sym c.if-not-is_empty.true) refl,
    )

pub returns-else-not-is_empty : goal.returns-else-not-is_empty
returns-else-not-is_empty c =
    let gone = c.args.delta.now.edges_gone in
    let some = some_edge c.args.delta.now.edges_come c.is_empty-else-not-is_empty.result c.is_empty-else-not-is_empty.ensures in (
      λ is. (let edge = some.0 is in (edge.0, inr edge.1)),
      λ h. elim h.1 [
        | inl there ↦ absurd (none_in gone h.0 (c.is_empty.ensures.0 c.if-not-is_empty.false) there)
        | inr there ↦ some.1 (h.0, there)
      ],
    )
