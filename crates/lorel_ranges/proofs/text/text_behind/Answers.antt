use Rattle.std.proofs.Common.{[], sym, ◌∙◌}
use Rattle.std.proofs.lemmas.List.{length-map}
use Rattle.lorel_trees.specs.Trees.{item_tree, select_tree}
use Rattle.lorel_ranges.specs.Places.{scope_of}
use Rattle.lorel_ranges.proofs.text.text_behind.Goals as goal

pub returns-in-Ok : goal.returns-in-Ok
returns-in-Ok c =
    let scope = scope_of [] (select_tree c.args.query.now).tail.ranges in
    let is = c.requires.from.scope in record {
      from = c.requires.from;
      items = c.in-Ok.ensures.items scope is;
      count = c.len.ensures ∙ sym (length-map c.args.query.now.items item_tree);
      conditions = c.in-Ok.ensures.places scope is;
      ranged = c.in-Ok.ensures.ranged;
    }
