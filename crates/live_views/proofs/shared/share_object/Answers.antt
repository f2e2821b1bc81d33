use Rattle.std.proofs.Common.{inl, inr, refl, ap, arith}
use Rattle.std.proofs.lemmas.Bool.Decides.{nat_tests}
use Rattle.live_views.specs.Types.{Oid}
use Rattle.live_views.proofs.SharedLaws.{none_left, leave_first, not_below, shared_here}
use Rattle.live_views.proofs.shared.share_object.Goals as goal

pub places-preserved-then-first-second-2 : goal.places-preserved-then-first-second-2
places-preserved-then-first-second-2 c = λ oid first second.
    let gone = c.args.gone.now in
    let come = c.args.come.now in
    let both = c.places.invariant oid first second in
    let above = not_below come c.places.j c.index-come-j.result (omega arith) c.index-come-j.is c.requires.come oid both.1 in
    elim (leave_first gone c.places.i c.index-gone-i.result (omega arith) c.index-gone-i.is oid both.0) [
      | inl same ↦ absurd (let number = ap (λ (o : Oid). o.0) same in let test = c.if-first-second-2.true in grind (arith, nat_tests))
      | inr later ↦ (later, both.1)
    ]

pub places-preserved : goal.places-preserved
places-preserved c = λ oid first second.
    let gone = c.args.gone.now in
    let come = c.args.come.now in
    let both = c.places.invariant oid first second in
    let above = not_below gone c.places.i c.index-gone-i.result (omega arith) c.index-gone-i.is c.requires.gone oid both.0 in
    elim (leave_first come c.places.j c.index-come-j.result (omega arith) c.index-come-j.is oid both.1) [
      | inl same ↦ absurd (let number = ap (λ (o : Oid). o.0) same in let test = c.if-first-second.false in let other = c.if-first-second-2.false in grind (arith, nat_tests))
      | inr later ↦ (both.0, later)
    ]

pub returns-else-j-come : goal.returns-else-j-come
returns-else-j-come c =
    (λ h. cc, λ h. absurd (none_left c.args.come.now c.places.j (omega arith) h.0 (c.places.invariant h.0 h.1 h.2).1))

pub returns-after-places : goal.returns-after-places
returns-after-places c =
    (λ h. cc, λ h. absurd (none_left c.args.gone.now c.places.i (omega arith) h.0 (c.places.invariant h.0 h.1 h.2).0))

pub returns-then-first-second : goal.returns-then-first-second
returns-then-first-second c = (
  λ is. shared_here c.args.gone.now c.args.come.now c.places.i c.places.j c.index-gone-i.result c.index-come-j.result c.places-test.true
      c.if-j-come.true c.index-gone-i.is c.index-come-j.is c.if-first-second.true,
  λ some. refl,
)
