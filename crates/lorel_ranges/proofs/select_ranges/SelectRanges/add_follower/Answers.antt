use Rattle.std.proofs.Common.{◌≡◌, List, Some, refl, sym, subst}
use Rattle.std.specs.List.{Contains, slice_get}
use Rattle.lorel_ranges.specs.Places.{Place}
use Rattle.lorel_ranges.specs.Views.{place_tree}
use Rattle.lorel_ranges.proofs.FollowLaws.{gains_nowhere, gains_there}
use Rattle.lorel_ranges.proofs.select_ranges.SelectRanges.add_follower.Goals as goal

pub returns-in-Some-clause-gained : goal.returns-in-Some-clause-gained
returns-in-Some-clause-gained c =
    gains_there (place_tree c.args.start) c.args.number c.args.self.now.fused.items c.in-Some.earlier c.index_mut.result.now c.index.result.now _
    c.requires.linked.once
    (subst (λ (all : List Place). slice_get all c.in-Some.earlier ≡ Some (place_tree c.args.start)) c.requires.linked.same c.in-Some.ensures.some)
    c.index_mut.ensures.value c.index.ensures refl refl refl c.and.ensures

pub returns-in_default-clause-gained : goal.returns-in_default-clause-gained
returns-in_default-clause-gained c =
    gains_nowhere (place_tree c.args.start) c.args.number c.args.self.now.fused.items
    (λ at. c.in_default.ensures.none (subst (λ (all : List Place). Contains all (place_tree c.args.start)) (sym c.requires.linked.same) at))
