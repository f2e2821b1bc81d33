use Rattle.std.proofs.Common.{refl, sym, ◌∙◌}
use Rattle.std.proofs.lemmas.Option.{none-some}
use Rattle.lore_base.proofs.NameLaws.{bound_found, found_bound}
use Rattle.live_views.proofs.concerning.is_bound.Goals as goal

pub returns-in-Some : goal.returns-in-Some
returns-in-Some c =
    let oid = c.in-Some.field-0 in
    (λ is. (oid, found_bound c.args.names.now c.args.name.now oid (sym c.in-Some.ensures)), λ bound. refl)

pub returns-in-None : goal.returns-in-None
returns-in-None c = (
  λ is. cc,
  λ bound. absurd (none-some bound.0 (c.in-None.ensures ∙ bound_found c.args.names.now c.args.name.now bound.0 c.len.ensures.table bound.1)),
)
