use Rattle.std.proofs.Common.{◌≡◌, map, take}
use Rattle.lorel_ranges.proofs.select_ranges.references.Given as goal

abbrev pub invariant-parts : goal.invariant-parts
invariant-parts l = map (λ part. part.now) l.list.items ≡ take l.part-index l.parts
