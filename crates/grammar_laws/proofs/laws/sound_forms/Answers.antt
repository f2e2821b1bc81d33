use Rattle.grammar_laws.proofs.CanonStatementLaws.{keeps_forms}
use Rattle.grammar_laws.proofs.laws.sound_forms.Goals as goal

pub returns : goal.returns
returns c = keeps_forms
