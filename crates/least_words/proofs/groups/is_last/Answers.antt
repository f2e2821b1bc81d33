use Rattle.least_words.proofs.GroupLaws.{IsLast-told}
use Rattle.least_words.proofs.groups.is_last.Goals as goal

pub returns-then-last-origin : goal.returns-then-last-origin
returns-then-last-origin c = IsLast-told c.args.origins.now c.args.origin c.in-len1-up.len_at_least c.if-last-origin.true
