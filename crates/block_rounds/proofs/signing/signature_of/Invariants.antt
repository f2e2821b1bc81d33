use Rattle.std.proofs.Common.{◌≡◌, take, map, get_or}
use Rattle.block_rounds.proofs.signing.signature_of.Given as goal

abbrev pub invariant-entries : goal.invariant-entries
invariant-entries l = l.signature ≡ map (λ entry. (entry.0, get_or l.numbers entry.1 0)) (take l.entry-index l.row)
