use Rattle.lore_base.proofs.WildcardLaws.{first-split}
use Rattle.lore_base.proofs.wildcards.split_character.Goals as goal

pub returns-clause-parts : goal.returns-clause-parts
returns-clause-parts c =
    first-split c.args.bytes.now c.in_ok-rest.rest.now c.in_ok-rest.field-0-0.now c.following-len.result c.in_ok-rest.ensures.cases.0 c.following-len.ensures.count
