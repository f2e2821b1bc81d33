use Rattle.std.proofs.Common.{◌-◌, ◌≤◌, ◌^◌, length, take}
use Rattle.std.specs.List.{AllZip}
use Rattle.set_explorer.specs.Nodes.{sets_of, IsEntry}
use Rattle.set_explorer.specs.Touched.{ReadsTouched}
use Rattle.lore_base.specs.GuideLimits.{KeepLimits}
use Rattle.set_explorer.specs.inside.Trails.{IsSearched}
use Rattle.set_explorer.specs.inside.Founds.{IsFound, found_nodes, found_sets}
use Rattle.set_explorer.proofs.exploring.explore_sets.Given as goal

abbrev pub invariant-nodes : goal.invariant-nodes
invariant-nodes g l =
    let edges = g.A.Adjacent.edges l.change.after.now in
    let kept = l.change.guide.nodes.now in
    record {
      found : IsFound kept l.found;
      fit : KeepLimits l.limit (found_sets kept l.found);
      searched : IsSearched l.names edges (found_nodes kept l.found) l.next;
      reads : ReadsTouched (sets_of kept) l.change.dirty.now l.change.grown.now edges
          (take l.next (found_sets kept l.found)) l.fn.steps l.steps;
      entries : AllZip (IsEntry (found_nodes kept l.found)) l.names l.entries.items;
      passed : l.next ≤ length l.found.nodes.items;
    }

abbrev pub decreases-nodes : goal.decreases-nodes
decreases-nodes g l = 2 ^ 64 - l.next
