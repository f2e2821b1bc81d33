use Rattle.std.proofs.Common.{List, sym, subst}
use Rattle.std.specs.List.{Contains}
use Rattle.lorel_ranges.specs.Places.{Place}
use Rattle.lorel_ranges.specs.Views.{place_tree, ranges_of}
use Rattle.lorel_ranges.specs.inside.SelectRanges.{IsNeededAt}
use Rattle.lorel_ranges.proofs.MarkLaws.{marked_word, marked_none, unneeded}
use Rattle.lorel_ranges.proofs.select_ranges.SelectRanges.mark_word.Goals as goal

pub returns-in-Some : goal.returns-in-Some
returns-in-Some c =
    marked_word c.args.self.now c.mark.new.self c.mark-in-Some.new.self c.in-Some.number c.index.result.now (place_tree c.args.place) c.requires.linked
    c.in-Some.ensures.some c.index.ensures c.mark.ensures c.mark-in-Some.ensures

pub returns-in_default : goal.returns-in_default
returns-in_default c =
    let ranges = ranges_of c.args.self.now.fused.items in
    marked_none c.args.self.now (IsNeededAt ranges (place_tree c.args.place)) c.requires.linked
    (λ place needed at. unneeded ranges (place_tree c.args.place) place
    (λ there. c.in_default.ensures.none (subst (λ (all : List Place). Contains all (place_tree c.args.place)) (sym c.requires.linked.same) there)) needed)
