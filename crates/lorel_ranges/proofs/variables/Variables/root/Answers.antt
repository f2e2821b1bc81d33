use Rattle.std.proofs.Common.{◌≡◌, ◌∙◌, sym, ap, ℕ, List, Bor, length, arith, is_some}
use Rattle.std.proofs.lemmas.List.{length-map}
use Rattle.lorel_ranges.specs.Views.{texts}
use Rattle.lorel_ranges.proofs.ScopeLaws.{innermost-within, start_quantified, start_ranged, start_named}
use Rattle.lorel_ranges.proofs.variables.Variables.root.Goals as goal

pub overflow_cast-result : goal.overflow_cast-result
overflow_cast-result c =
    let within = innermost-within (texts c.args.quantified.now) c.args.start.now c.in-Some.depth (sym c.in-Some.ensures) in
    let count : length (texts c.args.quantified.now) ≡ length c.args.quantified.now = length-map c.args.quantified.now (λ (text : Bor (List ℕ)). text.now) in
    omega (arith, within, count, c.requires)

pub returns-in-Some : goal.returns-in-Some
returns-in-Some c = λ scope known.
    start_quantified c.args.self.now (texts c.args.quantified.now) c.args.start.now scope known c.in-Some.depth c.in-Some.ensures

pub returns-in-None : goal.returns-in-None
returns-in-None c = λ scope known.
    start_ranged c.args.self.now (texts c.args.quantified.now) c.args.start.now scope known c.in-None.ensures
    (ap is_some (sym c.number.ensures) ∙ sym c.is_some.ensures ∙ c.if-is_some.true)

pub returns-in-None-2 : goal.returns-in-None-2
returns-in-None-2 c = λ scope known.
    start_named c.args.self.now (texts c.args.quantified.now) c.args.start.now scope known c.in-None-2.ensures
    (ap is_some (sym c.number.ensures) ∙ sym c.is_some.ensures ∙ c.if-is_some.false)
