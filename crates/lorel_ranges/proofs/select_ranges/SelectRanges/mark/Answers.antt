use Rattle.std.proofs.Common.{◌≡◌, List, refl, sym, subst}
use Rattle.std.specs.List.{Contains}
use Rattle.lorel_ranges.specs.Places.{Place}
use Rattle.lorel_ranges.specs.Views.{place_tree, place_trees}
use Rattle.lorel_ranges.proofs.MarkLaws.{marked_at, marked_none}
use Rattle.lorel_ranges.proofs.select_ranges.SelectRanges.mark.Goals as goal

pub returns-in-Some : goal.returns-in-Some
returns-in-Some c =
    marked_at c.args.self.now _ c.in-Some.number c.index_mut.result.now _ (place_tree c.args.place) c.requires.linked c.in-Some.ensures.some
    c.index_mut.ensures.value refl refl refl refl refl refl

pub returns-in_default : goal.returns-in_default
returns-in_default c =
    marked_none c.args.self.now (λ (other : Place). other ≡ place_tree c.args.place) c.requires.linked
    (λ place same at. c.in_default.ensures.none (subst (λ (p : Place). Contains (place_trees c.args.self.now.plain) p) same
    (subst (λ (all : List Place). Contains all place) (sym c.requires.linked.same) at)))
