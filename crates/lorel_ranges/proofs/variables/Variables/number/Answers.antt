use Rattle.std.proofs.Common.{◌∙◌, ap}
use Rattle.lorel_ranges.specs.Scopes.{linked}
use Rattle.lorel_ranges.proofs.ScopeLaws.{linked-by_reference}
use Rattle.lorel_ranges.proofs.variables.Variables.number.Goals as goal

pub returns : goal.returns
returns c =
    c.copied.ensures ∙ c.get.ensures.value ∙ linked-by_reference c.self.inside.numbers.entries c.as_bytes.result.now
    ∙ ap (λ variables. linked variables c.as_bytes.result.now) c.self.view_is ∙ ap (linked c.args.self.now) c.as_bytes.ensures
