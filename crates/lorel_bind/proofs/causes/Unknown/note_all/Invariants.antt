use Rattle.std.proofs.Common.{List, ◌++◌, take}
use Rattle.lorel_ranges.specs.Places.{Place}
use Rattle.lorel_ranges.specs.Views.{place_trees, texts}
use Rattle.lorel_bind.specs.inside.Causes.{HasMet}
use Rattle.lorel_bind.proofs.causes.Unknown.note_all.Given as goal

abbrev pub invariant-places : goal.invariant-places
invariant-places l = (earlier : List Place) → HasMet l.names (texts l.ranged.keys) earlier l.fn.self
    → HasMet l.names (texts l.ranged.keys) (earlier ++ place_trees (take l.place-index l.places)) l.self
