use Rattle.std.proofs.Common.{◌≡◌, map, take}
use Rattle.dump_text.proofs.reach.starts_of.Given as goal

abbrev pub invariant-names : goal.invariant-names
invariant-names l = l.starts ≡ map (λ entry. entry.1) (take l.entry-index l.fn.names)
