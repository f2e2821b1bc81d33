use Rattle.std.proofs.Common.{take}
use Rattle.oem_text.specs.inside.Views.{bodies_of}
use Rattle.oem_text.specs.inside.Places.{AreMarks}
use Rattle.oem_text.proofs.places.marked_places.Given as goal

abbrev pub invariant-literals : goal.invariant-literals
invariant-literals l = AreMarks (take l.place (bodies_of l.literals)) l.marks
