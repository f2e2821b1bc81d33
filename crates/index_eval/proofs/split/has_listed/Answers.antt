use Rattle.std.proofs.Common.{sym, subst, ◌∙◌, Contains}
use Rattle.std.proofs.lemmas.Bool.{false≢true}
use Rattle.std.proofs.lemmas.Option.{none-some, same_Some}
use Rattle.index_eval.proofs.split.has_listed.Goals as goal

pub returns-in_default : goal.returns-in_default
returns-in_default c = (λ no. absurd (false≢true no), λ has. absurd (none-some has.0 (sym c.in_default.is ∙ c.in_slot.ensures ∙ has.1)))

pub returns : goal.returns
returns c = (
  λ yes. (c.in-Some.oid, sym c.in-Some.ensures, c.is_among.ensures.0 yes),
  λ has. c.is_among.ensures.1 (subst (Contains c.args.listed.now.oids) (sym (same_Some c.in-Some.oid has.0 (c.in-Some.ensures ∙ has.1))) has.2),
)
