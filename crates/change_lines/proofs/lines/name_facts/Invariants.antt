use Rattle.doem_history.proofs.NameFactLaws.{AreTaken}
use Rattle.change_lines.proofs.lines.name_facts.Given as goal

abbrev pub invariant-texts : goal.invariant-texts
invariant-texts l = AreTaken l.facts.items l.names l.text-index l.place
