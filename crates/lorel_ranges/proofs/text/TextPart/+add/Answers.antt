use Rattle.std.proofs.Common.{ℕ, suc, List, ◌∷◌, ◌∙◌, length, Bor, refl, sym, ap}
use Rattle.std.proofs.lemmas.Result.{on_ok_weaker}
use Rattle.lorel_trees.specs.declared.conditions.Cond.{Cond}
use Rattle.lorel_trees.specs.Trees.{rooted_tree, cond_tree}
use Rattle.lorel_ranges.specs.Places.{quantified, place_of}
use Rattle.lorel_ranges.specs.Conditions.{cond_in}
use Rattle.lorel_bound.specs.Conditions.{paths_of}
use Rattle.lorel_ranges.specs.Texts.{quantifier_variables}
use Rattle.lorel_ranges.specs.Scopes.{enclosed}
use Rattle.lorel_ranges.specs.Views.{place_tree, texts}
use Rattle.lorel_ranges.proofs.TextLaws.{cond_in-body, quantified_tree, map-quantified}
use Rattle.lorel_ranges.proofs.text.TextPart.+add.Goals as goal

pub add_cond-returns-in_ok-inner-in-Exists-clause-places : goal.add_cond-returns-in_ok-inner-in-Exists-clause-places
add_cond-returns-in_ok-inner-in-Exists-clause-places t c =
    on_ok_weaker c.add_cond-in-Exists.result
    (λ said scope known.
    let own = c.in-Exists in
    let around = c.args.quantified.now in
    let inner = c.as_slice.result.now in
    let part = c.deref-in-Exists.result.now in
    let whole = cond_in (enclosed 0 (texts around) scope) (length around) in
    let place = place_of (enclosed 0 (texts around) scope) (rooted_tree own.path) in
    let body = cond_in-body around inner own.variable scope (cond_tree part) (ap texts c.as_slice.ensures.value ∙ c.in_ok-inner-in-Exists.ensures) in
    let read = cond_in (enclosed 0 (texts inner) scope) (length inner) (cond_tree part) in
    let same = ap (λ (x : Cond). place ∷ paths_of (cond_in ((own.variable, quantified (length around)) ∷ enclosed 0 (texts around) scope) (suc (length around)) (cond_tree x))) (sym c.deref-in-Exists.ensures)
    ∙ ap (λ l. place ∷ paths_of l) (sym body) in
    map-quantified place_tree c.args.self.now.places.items c.push-in-Exists.new.self.items c.add_cond-in-Exists.new.self.places.items c.place-in-Exists.result
    place (paths_of read) (paths_of (whole (cond_tree c.args.cond.now)))
    c.in_ok-push-in-Exists.ensures.items (c.place-in-Exists.ensures scope known) (said scope known)
    (quantified_tree (λ x. paths_of (whole x)) (place ∷ paths_of read) c.args.cond.now own.variable own.path own.body own.is same same))
    c.add_cond-in-Exists.ensures.places

pub add_cond-returns-in_ok-inner-in-Exists-clause-ranged : goal.add_cond-returns-in_ok-inner-in-Exists-clause-ranged
add_cond-returns-in_ok-inner-in-Exists-clause-ranged t c =
    let own = c.in-Exists in
    let same = ap (λ (x : Cond). own.variable ∷ quantifier_variables (cond_tree x)) (sym c.deref-in-Exists.ensures) in
    on_ok_weaker c.add_cond-in-Exists.result
    (λ said. map-quantified (λ (text : Bor (List ℕ)). text.now) c.args.self.now.ranged.items c.push-in-Exists-2.new.self.items c.add_cond-in-Exists.new.self.ranged.items _ own.variable
    (quantifier_variables (cond_tree c.deref-in-Exists.result.now)) (quantifier_variables (cond_tree c.args.cond.now)) c.in_ok-push-in-Exists-2.ensures.items refl said
    (quantified_tree quantifier_variables (own.variable ∷ quantifier_variables (cond_tree c.deref-in-Exists.result.now)) c.args.cond.now own.variable own.path own.body own.is same same))
    c.add_cond-in-Exists.ensures.ranged
