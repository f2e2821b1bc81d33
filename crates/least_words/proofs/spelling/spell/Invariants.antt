use Rattle.std.proofs.Common.{◌≡◌, ◌≤◌, List, ◌++◌, Some, length, reverse}
use Rattle.std.specs.List.{slice_get}
use Rattle.least_words.specs.Types.{Label}
use Rattle.least_words.specs.inside.Groups.{words_of}
use Rattle.least_words.proofs.spelling.spell.Given as goal

abbrev pub invariant-groups : goal.invariant-groups
invariant-groups l = record {
  within : l.at ≤ length l.origins;
  spelled : (word : List Label) → slice_get (words_of l.origins) l.at ≡ Some word
      → slice_get (words_of l.origins) l.group ≡ Some (word ++ reverse l.labels.items);
}

abbrev pub decreases-groups : goal.decreases-groups
decreases-groups l = l.at
