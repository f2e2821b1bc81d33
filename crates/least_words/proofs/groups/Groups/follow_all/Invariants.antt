use Rattle.std.proofs.Common.{◌≡◌, List, Some, take}
use Rattle.std.specs.List.{slice_get}
use Rattle.indexmap.specs.IndexMap.{get}
use Rattle.least_words.specs.Types.{Label}
use Rattle.least_words.specs.MachineWords.{same_oid}
use Rattle.least_words.specs.inside.Groups.{words_of, found_of, AreBack, AreMarked, IsOrderly, Follows}
use Rattle.least_words.proofs.groups.Groups.follow_all.Given as goal

abbrev pub invariant-arcs : goal.invariant-arcs
invariant-arcs l = record {
  follows : (word : List Label) → slice_get (words_of l.fn.self.origins.items) l.group ≡ Some word
      → Follows word (take l.arc-index l.arcs) (found_of l.fn.self.places.items l.fn.self.origins.items) (found_of l.self.places.items l.self.origins.items);
  orderly : IsOrderly (found_of l.self.places.items l.self.origins.items);
  back : AreBack l.self.origins.items;
  marked : AreMarked (get same_oid l.self.marked) l.self.places.items;
}
