use Rattle.std.proofs.Common.{◌≡◌, ◌≤◌, take}
use Rattle.std.specs.List.{flat_map, between}
use Rattle.lore_base.specs.Quotes.{escape}
use Rattle.lore_base.specs.Pieces.{Takes}
use Rattle.oem_atom.proofs.printing.put_escaped.Given as goal

abbrev pub invariant-bytes : goal.invariant-bytes
invariant-bytes g l = record {
  ordered : l.start ≤ l.place;
  plain : flat_map (escape l.fn.quote) (between l.start l.place l.text) ≡ between l.start l.place l.text;
  taken : Takes (g.O.Out.state l.fn.out) (flat_map (escape l.fn.quote) (take l.start l.text)) (g.O.Out.state l.out);
}
