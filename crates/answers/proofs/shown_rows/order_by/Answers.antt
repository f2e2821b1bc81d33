use Rattle.std.proofs.lemmas.List.Sorted.{IsPermutation-refl}
use Rattle.answers.proofs.shown_rows.order_by.Goals as goal

pub returns-in_default : goal.returns-in_default
returns-in_default g c = IsPermutation-refl c.args.rows.now.items
