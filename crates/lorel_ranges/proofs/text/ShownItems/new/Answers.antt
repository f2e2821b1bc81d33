use Rattle.std.proofs.Common.{refl}
use Rattle.lorel_ranges.proofs.TextLaws.{ReadsItems-none}
use Rattle.lorel_ranges.proofs.text.ShownItems.new.Goals as goal

pub returns : goal.returns
returns c = λ scope known. ReadsItems-none scope known _ c.new.ensures.items c.new-2.ensures.items refl
