use Rattle.std.proofs.Common.{◌≡◌, take, reverse}
use Rattle.least_words.proofs.spelling.turned.Given as goal

abbrev pub invariant-labels : goal.invariant-labels
invariant-labels l = l.word ≡ take l.place (reverse l.labels)
