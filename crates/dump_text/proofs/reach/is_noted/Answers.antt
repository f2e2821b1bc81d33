use Rattle.std.proofs.Common.{◌≡◌, ◌+◌, ◌-◌, arith}
use Rattle.std.proofs.lemmas.Bool.{OnTrue_from}
use Rattle.std.proofs.lemmas.Bool.Decides.{nat_tests}
use Rattle.dump_text.specs.inside.Noted.{IsNoted}
use Rattle.dump_text.proofs.reach.is_noted.Goals as goal

pub returns : goal.returns
returns c =
    let same : c.args.first.0 + (c.args.oid.0 - c.args.first.0) ≡ c.args.oid.0 = grind (arith, nat_tests, c.if-oid-first.false) in
    OnTrue_from _ (IsNoted c.args.noted.now c.args.first.0 c.args.oid.0) (λ yes. (c.args.oid.0 - c.args.first.0, yes, same))
