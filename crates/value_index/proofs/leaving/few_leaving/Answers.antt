use Rattle.std.proofs.Common.{not, rules}
use Rattle.std.proofs.lemmas.Fn.{filter_same}
use Rattle.value_index.specs.inside.Leaving.{is_staying}
use Rattle.value_index.proofs.leaving.few_leaving.Goals as goal

pub returns : goal.returns
returns c =
    filter_same _ (λ object. not (is_staying c.args.come.now c.args.wholes.now c.args.chars.now c.args.flags.now object)) _
    (λ x b q k. search rules) _ _ c.retain.ensures.filtered
