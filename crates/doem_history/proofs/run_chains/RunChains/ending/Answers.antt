use Rattle.std.proofs.Common.{ℕ, ap, ◌∙◌, sym, subst, List, take, ◌++◌, ◌∷◌, []}
use Rattle.std.proofs.lemmas.List.{take_more, take_all}
use Rattle.doem_history.specs.Plans.{AreEnding, IsOpen}
use Rattle.doem_history.proofs.MovedLaws.{new_there, ending-none, ending-push}
use Rattle.doem_history.proofs.run_chains.RunChains.ending.Goals as goal

pub unreachable-requires : goal.unreachable-requires
unreachable-requires g c =
    let opened = c.requires.going c.gone.fact-index c.fact-item.result c.gone-test.true in
    c.in_default.ensures.none opened.0 (subst (λ f. IsOpen c.args.self.now.runs opened.0 f) (sym c.fact-item.is) opened.1)

pub gone-init : goal.gone-init
gone-init g c = rw c.in_ok-places.ensures.items (ending-none _)

pub gone-preserved : goal.gone-preserved
gone-preserved g c =
    let more = take_more c.args.gone.now c.gone.fact-index c.fact-item.result c.gone-test.true in
    let grown = ending-push c.args.self.now.runs (take c.gone.fact-index c.args.gone.now) c.gone.places.items c.fact-item.result c.in-Some.place c.gone.invariant
    (new_there c.args.gone.now c.gone.fact-index c.fact-item.result c.requires.apart c.gone-test.true c.fact-item.is) c.in-Some.ensures.some in
    subst (λ (l : List _). AreEnding c.args.self.now.runs l c.push.new.self.items) (sym (more ∙ ap (λ f. take c.gone.fact-index c.args.gone.now ++ f ∷ []) (sym c.fact-item.is)))
    (subst (λ (ps : List ℕ). AreEnding c.args.self.now.runs (take c.gone.fact-index c.args.gone.now ++ c.fact-item.result ∷ []) ps) (sym c.in_ok-push.ensures.items) grown)

pub returns : goal.returns
returns g c = subst (λ (l : List _). AreEnding c.args.self.now.runs l c.gone.places.items) (take_all c.gone.fact-index c.args.gone.now c.gone-test.false) c.gone.invariant
