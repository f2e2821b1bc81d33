use Rattle.std.proofs.Common.{◌≡◌, rules}
use Rattle.std.proofs.lemmas.Fn.{always_returns_same}
use Rattle.std.specs.Prelude.{nat_le}
use Rattle.value_index.proofs.NameLaws.{end-is}
use Rattle.value_index.proofs.leaving.end_of.Goals as goal

pub returns-clause-past : goal.returns-clause-past
returns-clause-past c =
    end-is c.args.entries.now c.args.label _ c.requires c.partition_point.ensures.bound
    (c.partition_point.ensures.partitioned (λ entry. nat_le entry.label.0 c.args.label.0) (always_returns_same _ (λ a r. r ≡ nat_le a.0.now.label.0 c.args.label.0) _ (λ a r q k. search rules)))
