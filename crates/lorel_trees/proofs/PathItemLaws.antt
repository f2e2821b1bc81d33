-- Selects whose items are paths alone.
use Rattle.std.proofs.Common.{◌≡◌, List, [], ◌∷◌, map, All, refl, ap}
use Rattle.std.proofs.lemmas.List.Elements.{All-nil, All-cons, All-head, All-tail}
use Rattle.lorel_trees.specs.Grammar as g
use Rattle.lorel_trees.specs.Selects.{tree_item, tree_select, select_of_paths, tree_paths}
use Rattle.lorel_trees.specs.Formed.{IsObjectItem}

object_items : (paths : List g.Path) → All IsObjectItem (map tree_item (map g.object paths))
object_items [] = All-nil IsObjectItem
object_items (first ∷ others) =
    All-cons IsObjectItem (tree_item (g.object first)) (map tree_item (map g.object others)) tt (object_items others)

-- the items of a select of paths alone
pub paths_items : (query : g.Paths) → All IsObjectItem (tree_paths query).items
paths_items (g.paths first others end) = object_items (first ∷ others)

object_paths : (items : List g.Item) → All IsObjectItem (map tree_item items) → (paths : List g.Path) × (map g.object paths ≡ items)
object_paths [] all = ([], refl)
object_paths (g.object path ∷ others) all =
    let (paths, is) = object_paths others (All-tail IsObjectItem (tree_item (g.object path)) (map tree_item others) all) in
    (path ∷ paths, ap (λ (items : List g.Item). g.object path ∷ items) is)
object_paths (g.path_of name ∷ others) all = absurd (All-head IsObjectItem (tree_item (g.path_of name)) (map tree_item others) all)

-- a select whose items are so is one of paths alone
pub paths_of : (query : g.Select) → All IsObjectItem (tree_select query).items → (inner : g.Paths) × (select_of_paths inner ≡ query)
paths_of (g.query (g.object path) others end) all =
    let (paths, is) = object_paths others (All-tail IsObjectItem (tree_item (g.object path)) (map tree_item others) all) in
    (g.paths path paths end, ap (λ (items : List g.Item). g.query (g.object path) items end) is)
paths_of (g.query (g.path_of name) others end) all = absurd (All-head IsObjectItem (tree_item (g.path_of name)) (map tree_item others) all)
