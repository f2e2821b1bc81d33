use Rattle.std.proofs.Common.{ℕ, refl, sym, subst, List, take, get_or, ◌++◌, ◌∷◌, []}
use Rattle.std.proofs.lemmas.List.{get_or_default, take_more, take_all}
use Rattle.doem_history.specs.Types.{Edge}
use Rattle.doem_history.specs.Plans.{AreEnding}
use Rattle.doem_history.proofs.MovedLaws.{new_there, ending-none, ending-push}
use Rattle.doem_history.proofs.edge_timeline.EdgeTimeline.plan.Goals as goal

pub gone-init : goal.gone-init
gone-init c = rw c.in_ok-places.ensures.items (ending-none _)

pub gone-preserved : goal.gone-preserved
gone-preserved c =
    let first : Edge = record { parent = record { 0 = 0 }; label = record { 0 = 0 }; child = record { 0 = 0 } } in
    let edge : Edge = get_or c.args.gone.now c.gone.edge-index first in
    let seen = take c.gone.edge-index c.args.gone.now in
    let new = new_there c.args.gone.now c.gone.edge-index edge c.requires.apart c.gone-test.true (get_or_default c.args.gone.now c.gone.edge-index first edge c.gone-test.true) in
    let grown = ending-push c.args.self.now.runs seen c.gone.places.items edge c.open_place-place.result c.gone.invariant new c.open_place-place.ensures in
    subst (λ (l : List Edge). AreEnding c.args.self.now.runs l c.push.new.self.items) (sym (take_more c.args.gone.now c.gone.edge-index first c.gone-test.true))
    (subst (λ (ps : List ℕ). AreEnding c.args.self.now.runs (seen ++ edge ∷ []) ps) (sym c.in_ok-push.ensures.items) grown)

pub returns : goal.returns
returns c = record {
  ending = subst (λ (l : List Edge). AreEnding c.args.self.now.runs l c.gone.places.items) (take_all c.gone.edge-index c.args.gone.now c.gone-test.false) c.gone.invariant;
  coming = refl;
}
