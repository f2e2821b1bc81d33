use Rattle.std.proofs.Common.{[], All, sym, subst}
use Rattle.std.proofs.lemmas.List.Elements.{All-nil, All-cons}
use Rattle.lorel_bound.specs.Conditions.{operand_paths}
use Rattle.lorel_eval.specs.declared.ready_conds.ReadyOperand.{ReadyOperand}
use Rattle.lorel_eval.specs.inside.Ready.{ready_path, ready_operand}
use Rattle.lorel_eval.specs.inside.Early.{StartsKnown}
use Rattle.lorel_eval.proofs.known_starts.operand_is_known.Goals as goal

pub returns-in-Atom : goal.returns-in-Atom
returns-in-Atom c = λ yes.
    subst (λ (own : ReadyOperand). All (StartsKnown c.args.known.now) (operand_paths (ready_operand own))) (sym c.in-Atom.is) (All-nil (StartsKnown c.args.known.now))

pub returns-in-At : goal.returns-in-At
returns-in-At c = λ yes.
    subst (λ (own : ReadyOperand). All (StartsKnown c.args.known.now) (operand_paths (ready_operand own))) (sym c.in-At.is)
    (All-cons (StartsKnown c.args.known.now) (ready_path c.in-At.path) [] (c.is_known.ensures yes) (All-nil (StartsKnown c.args.known.now)))
