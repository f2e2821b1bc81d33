use Rattle.std.proofs.Common.{◌≡◌, ◌+◌, ◌-◌, ◌≤◌, ◌^◌, length, take}
use Rattle.std.specs.List.{sum_by}
use Rattle.indexmap.specs.IndexMap.{get}
use Rattle.path_expr.specs.Machines.{Moving, IsIn}
use Rattle.least_words.specs.MachineWords.{same_oid}
use Rattle.least_words.specs.inside.Arcs.{LeadsBy, reads_at}
use Rattle.least_words.specs.inside.Groups.{found_of, AreBack, AreMarked}
use Rattle.least_words.specs.inside.Searches.{IsSearched}
use Rattle.least_words.proofs.search.find_all.Given as goal

abbrev pub invariant-places : goal.invariant-places
invariant-places g l =
    let edges = g.A.Adjacent.edges l.graph in
    let moving : Moving = record { labels = g.T.LabelTest.texts l.labels; machine = l.automaton } in
    record {
      searched : IsSearched (LeadsBy (g.T.LabelTest.texts l.labels) l.automaton edges)
          (λ there. (l.fn.from ≡ there.0) × IsIn l.automaton.start there.1) (found_of l.groups.places.items l.groups.origins.items) l.next;
      back : AreBack l.groups.origins.items;
      marked : AreMarked (get same_oid l.groups.marked) l.groups.places.items;
      steps : l.steps ≡ l.fn.steps + sum_by (reads_at edges) (take l.next l.groups.places.items);
      same : l.mover ≡ moving;
      within : l.next ≤ length l.groups.places.items;
    }

abbrev pub decreases-places : goal.decreases-places
decreases-places g l = 2 ^ 64 - l.next
