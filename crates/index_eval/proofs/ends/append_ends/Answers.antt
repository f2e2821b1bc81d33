use Rattle.std.proofs.Common.{sym, ap, ◌∙◌}
use Rattle.std.proofs.lemmas.Bool.{false≢true}
use Rattle.lore_base.specs.Databases.{is_complex}
use Rattle.lore_base.proofs.ToldLaws.{complex_only}
use Rattle.index_eval.proofs.EndLaws.{takes_by, takes_without, takes_none}
use Rattle.index_eval.proofs.ends.append_ends.Goals as goal

pub returns-in_default : goal.returns-in_default
returns-in_default g c = takes_without (g.V.Values.entries c.args.values.now) c.args.comparison.now c.args.value.now c.args.ends.now c.in_default.is

pub returns-then-is_complex : goal.returns-then-is_complex
returns-then-is_complex g c =
    takes_none (g.V.Values.entries c.args.values.now) c.args.comparison.now c.args.value.now c.args.ends.now c.requires
    (complex_only c.args.value.now (sym c.is_complex.ensures ∙ c.if-is_complex.true))

pub returns : goal.returns
returns g c =
    takes_by (g.V.Values.entries c.args.values.now) c.args.comparison.now c.in-Some.label c.args.value.now c.args.ends.now c.probe.new.buf c.probe.result
    c.in-Some.is c.probe.ensures.objects

pub probe-requires-clause-value : goal.probe-requires-clause-value
probe-requires-clause-value g c = λ same. false≢true (sym c.if-is_complex.false ∙ c.is_complex.ensures ∙ ap is_complex same)
