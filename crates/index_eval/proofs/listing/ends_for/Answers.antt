use Rattle.std.proofs.Common.{sym, ap, ◌∙◌}
use Rattle.std.proofs.lemmas.Bool.{false≢true}
use Rattle.lore_base.specs.Databases.{is_complex}
use Rattle.member_clues.proofs.MadeLaws.{label_found}
use Rattle.index_eval.proofs.listing.ends_for.Goals as goal

pub candidates-requires-clause-op : goal.candidates-requires-clause-op
candidates-requires-clause-op g c = c.is_probed.ensures c.if-not-is_probed.false

pub candidates-requires-clause-value : goal.candidates-requires-clause-value
candidates-requires-clause-value g c = λ same. false≢true (sym c.if-is_complex.false ∙ c.is_complex.ensures ∙ ap is_complex same)

pub returns : goal.returns
returns g c = record {
  text = c.in-Some.text.now;
  label = c.find-label.result;
  ends_in = c.in-Some.ensures.some;
  labelled = label_found c.args.readers.now.labels.now c.in-Some.text.now c.find-label.result c.find-label.ensures.found c.find-label.ensures.none;
  probed = c.is_probed.ensures c.if-not-is_probed.false;
  lists = c.in_ok-ends.ensures;
}
