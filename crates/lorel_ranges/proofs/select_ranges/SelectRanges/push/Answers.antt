use Rattle.std.proofs.Common.{refl, arith}
use Rattle.lorel_ranges.proofs.MakingLaws.{pushed}
use Rattle.lorel_ranges.proofs.select_ranges.SelectRanges.push.Goals as goal

pub returns : goal.returns
returns c =
    pushed c.args.self.now _ c.add_follower.new.self.fused.items
    (record { start = c.args.start; parts = c.args.parts; place = c.args.place; used = _; followers = _; joined = _ }) c.len-number.result
    c.requires.fresh (omega arith) c.add_follower.ensures.gained refl refl refl c.in_ok-push.ensures.items c.add_follower.ensures.plain
