-- Overlays: the edges that there are once changes are made, beside those that they bring and take away.
use Rattle.std.specs.Prelude.{List}
use Rattle.edge_layers.specs.Types.{Edge}
use Rattle.edge_layers.specs.Layers.{layered}

-- the edges then; those of before that aren't among them; and those among them that weren't before
pub record OverlayEdges : Type 0 where
  pub edges : List Edge
  pub lost : List Edge
  pub fresh : List Edge

-- the edges of before without the lost ones and with the fresh ones
abbrev pub overlaid : List Edge → List Edge → List Edge → OverlayEdges
overlaid edges lost fresh = record { edges = layered edges lost fresh; lost = lost; fresh = fresh }
