use Rattle.std.proofs.Common.{◌≡◌, map, take}
use Rattle.lore_base.specs.Printed.{object_text}
use Rattle.guide_query.proofs.samples.object_lines.Given as goal

abbrev pub invariant-oids : goal.invariant-oids
invariant-oids g l = l.lines ≡ map (object_text (g.V.ValueOf.objects l.values)) (take l.oid-index l.oids)
