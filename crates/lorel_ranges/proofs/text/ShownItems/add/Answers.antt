use Rattle.std.proofs.Common.{◌∙◌, refl, ap}
use Rattle.lorel_trees.specs.Trees.{object, path_of, rooted_tree, item_tree}
use Rattle.lorel_ranges.proofs.TextLaws.{ReadsItems-same, ReadsItems-object, ReadsItems-word, ReadsItems-unknown}
use Rattle.lorel_ranges.proofs.text.ShownItems.add.Goals as goal

pub returns-in_ok-push-in-Object-2 : goal.returns-in_ok-push-in-Object-2
returns-in_ok-push-in-Object-2 c = λ scope known earlier in_scope alike read.
    let old = c.args.self.now in
    let path = rooted_tree c.in-Object.path in
    ReadsItems-same scope known earlier old _ read (item_tree c.args.item.now) (object path) (ap item_tree c.in-Object.is)
    (ReadsItems-object scope known earlier old _ read path c.place-place.result (c.place-place.ensures scope in_scope)
    c.in_ok-push-in-Object.ensures.items c.in_ok-push-in-Object-2.ensures.items refl)

pub returns-in_ok-push-in-Some : goal.returns-in_ok-push-in-Some
returns-in_ok-push-in-Some c = λ scope known earlier in_scope alike read.
    let old = c.args.self.now in
    let variable = c.in-PathOf.variable in
    ReadsItems-same scope known earlier old _ read (item_tree c.args.item.now) (path_of variable) (ap item_tree c.in-PathOf.is)
    (ReadsItems-word scope known earlier old _ read variable c.in-Some.place (c.in-Some.ensures ∙ alike variable) refl
    c.in_ok-push-in-Some.ensures.items refl)

pub returns-in-None : goal.returns-in-None
returns-in-None c = λ scope known earlier in_scope alike read.
    let old = c.args.self.now in
    let variable = c.in-PathOf.variable in
    ReadsItems-same scope known earlier old _ read (item_tree c.args.item.now) (path_of variable) (ap item_tree c.in-PathOf.is)
    (ReadsItems-unknown scope known earlier old _ read variable (c.in-None.ensures ∙ alike variable) refl refl refl)
