use Rattle.std.proofs.Common.{refl, sym, append-nil, arith}
use Rattle.plan_ops.specs.inside.Offers.{Reject}
use Rattle.plan_ops.proofs.TurnLaws.{replaced_by}
use Rattle.plan_ops.proofs.partial_rows.drop_last.Goals as goal

pub returns : goal.returns
returns c = λ next.
    let old = c.args.partials.now.items in
    let front = c.pop.new.self.items in
    replaced_by next Reject old old front front c.pop.result c.in-Some.field-0 0 refl c.pop.ensures.items c.in-Some.is (sym (append-nil front)) refl (omega arith)
