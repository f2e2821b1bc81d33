use Rattle.std.proofs.Common.{subst}
use Rattle.std.specs.Prelude.{ℤ, IfErr}
use Rattle.std.specs.Int.{w64, cast_signed, cast_unsigned}
use Rattle.std.proofs.lemmas.Int.{to_z-of_z}
use Rattle.lore_base.specs.Verdicts.{IsToldBy}
use Rattle.lorel_trees.specs.declared.statements.Statement.{Statement}
use Rattle.lorel_trees.specs.Trees.{statement_tree, generate}
use Rattle.lorel_trees.specs.Sound.{IsSound}
use Rattle.lorel_trees.proofs.FormLaws.{sound_statement}
use Rattle.statements.specs.Statements.{Cause, cause_order}
use Rattle.statements.specs.Stops.{told}
use Rattle.statements.proofs.listing.listed.Goals as goal

pub returns-in-Load-clause-refused : goal.returns-in-Load-clause-refused
returns-in-Load-clause-refused g c = rw c.in-Load.is c.load_changes.ensures.refused

pub returns-in-Name-clause-refused : goal.returns-in-Name-clause-refused
returns-in-Name-clause-refused g c = rw c.in-Name.is c.name_changes.ensures.refused

pub returns-in-Unname-clause-refused : goal.returns-in-Unname-clause-refused
returns-in-Unname-clause-refused g c = rw c.in-Unname.is c.unname_changes.ensures.refused

-- the numbers are ones of 64 bits, and so they are passed as they are
pub returns-in-Generate-clause-refused : goal.returns-in-Generate-clause-refused
returns-in-Generate-clause-refused g c =
    let db = c.args.store.now.db in
    let seed = c.in-Generate.seed in
    let count = c.in-Generate.count in
    let result = c.generate_changes.result in
    let fits = sound_statement (generate seed count) (subst (λ (s : Statement). IsSound (statement_tree s)) c.in-Generate.is c.requires.sound) in
    rw c.in-Generate.is
    (subst (λ (n : ℤ). IfErr result (λ stop. IsToldBy (Cause db (generate n count)) cause_order (told stop))) (to_z-of_z w64 seed fits.0)
    (subst (λ (n : ℤ). IfErr result (λ stop. IsToldBy (Cause db (generate (cast_signed w64 (cast_unsigned w64 seed)) n)) cause_order (told stop)))
    (to_z-of_z w64 count fits.1) c.generate_changes.ensures.refused))
