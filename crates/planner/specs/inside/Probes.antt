-- The probes of the program as plain data, and which paths end in a plain label.
use Rattle.std.specs.Prelude.{◌≡◌, ℕ, List, [], ◌∷◌, ◌++◌}
use Rattle.lore_base.specs.Paths.{PathTree, path_tree, step}
use Rattle.lorel_bound.specs.Plans as plans
use Rattle.planner.specs.Types.{Plain}
use Rattle.planner.specs.declared.probes.Probe.{Probe}
pub use Rattle.planner.specs.Ends.{EndsIn}

-- what the program's probe asks for
abbrev pub probe_tree : Probe → plans.Probe
probe_tree probe = record {
  slot = probe.slot;
  rest = path_tree probe.rest.now;
  label = probe.label.now;
  op = probe.op;
  value = probe.value.now;
}

-- the last of these parts is the plain label with the text
abbrev pub PartsEndIn : List PathTree → List ℕ → Type 0
PartsEndIn parts label = (front : List PathTree) × (parts ≡ front ++ step (Plain label) ∷ [])
