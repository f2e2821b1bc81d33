use Rattle.std.proofs.Common.{List, ap, subst}
use Rattle.std.specs.Prelude.{is_ok}
use Rattle.link_index.specs.declared.heads.Head.{Head}
use Rattle.link_index.specs.inside.Heads.{IsGap}
use Rattle.link_index.proofs.HeadLaws.{inserted_child}
use Rattle.link_index.proofs.listing.insert_child.Goals as goal

pub returns-clause-listed : goal.returns-clause-listed
returns-clause-listed c = inserted_child c.args.heads.now.items c.insert.new.self.items c.args.child c.in-Some.place (is_ok c.insert.result) c.requires.ascend
    (subst (λ (heads : List Head). IsGap heads c.args.child c.in-Some.place) c.as_slice.ensures.value c.in-Some.ensures.gap)
    c.insert.ensures.items (ap is_ok c.in-Ok.is)
