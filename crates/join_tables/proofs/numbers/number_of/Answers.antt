use Rattle.std.proofs.Common.{FitsSigned, w64, Some, ap, ◌∙◌, subst, rules}
use Rattle.std.proofs.lemmas.Int.{to_z-of_z}
use Rattle.lore_base.specs.Comparisons.{Compares}
use Rattle.join_tables.specs.Types.{Value, Whole, Eq}
use Rattle.join_tables.proofs.NumberLaws.{whole_is, text_is, flag_never, complex_never}
use Rattle.join_tables.proofs.numbers.number_of.Goals as goal

pub returns-in-Whole : goal.returns-in-Whole
returns-in-Whole c = λ number compares.
    let fits : FitsSigned w64 c.in-Whole.number = search rules in
    ap Some (to_z-of_z w64 c.in-Whole.number fits ∙ whole_is c.in-Whole.number number (subst (λ (v : Value). Compares v Eq (Whole number)) c.in-Whole.is compares))

pub returns-in-Chars : goal.returns-in-Chars
returns-in-Chars c = λ number compares.
    text_is c.in-Chars.text c.as_whole.result c.as_whole.ensures.some c.as_whole.ensures.none number
    (subst (λ (v : Value). Compares v Eq (Whole number)) c.in-Chars.is compares)

pub returns-in-Flag : goal.returns-in-Flag
returns-in-Flag c = λ number compares. absurd (flag_never _ number (subst (λ (v : Value). Compares v Eq (Whole number)) c.in-Flag.is compares))

pub returns-in-Complex : goal.returns-in-Complex
returns-in-Complex c = λ number compares. absurd (complex_never number (subst (λ (v : Value). Compares v Eq (Whole number)) c.in-Complex.is compares))
