-- The derivations of the worked statements.
use Rattle.std.proofs.Common.{refl, lit≤, pos, [], ◌∷◌}
use Rattle.lorel_trees.specs.Types.{Auto, Bottom, Complex, Guided, Top}
use Rattle.lore_base.specs.Walks.{oid_of}
use Rattle.lorel_trees.specs.Grammar as g
use Rattle.grammar_laws.specs.Worked.{whole, chars}
use Rattle.grammar_laws.specs.WorkedSettings.{WorkedSettings}
use Rattle.grammar_laws.proofs.Derivations.{name, label, quoted}
use Rattle.grammar_laws.proofs.worked.worked_settings.Goals as goal

-- guide
abbrev by_guide : g.Statement
by_guide =
    g.guide

-- browse Guide.restaurant
abbrev by_browsed : g.Statement
by_browsed =
    g.browse (g.walked (name "Guide" refl) (label "restaurant" ∷ []))

-- browse D.'a b'
abbrev by_browsed_quoted : g.Statement
by_browsed_quoted =
    g.browse (g.walked (name "D" refl) (quoted "a b" ∷ []))

-- sample Guide.restaurant.name 1
abbrev by_sampled : g.Statement
by_sampled =
    g.sample (g.walked (name "Guide" refl) (label "restaurant" ∷ label "name" ∷ [])) (pos 1)

-- set nodes 3
abbrev by_node_limit : g.Statement
by_node_limit =
    g.set_nodes (pos 3)

-- set plan auto
abbrev by_plan_auto : g.Statement
by_plan_auto =
    g.set_plan Auto

-- set plan top
abbrev by_plan_top : g.Statement
by_plan_top =
    g.set_plan Top

-- set plan bottom
abbrev by_plan_bottom : g.Statement
by_plan_bottom =
    g.set_plan Bottom

-- set plan guide
abbrev by_plan_guide : g.Statement
by_plan_guide =
    g.set_plan Guided

-- dump
abbrev by_dumped : g.Statement
by_dumped =
    g.dump

-- restore oem 1 next 4 nodes 4096 plan auto label next label v name G &1 object &1 {} object &2 {} object &3 5 edge &1 next &2 edge &2 next &1 edge &2 v &3 end
abbrev by_restored : g.Statement
by_restored =
    g.restore (g.dump_text (pos 1) (pos 4) (pos 4096) Auto (label "next" ∷ label "v" ∷ []) ((
      name "G" refl,
      oid_of 1,
    ) ∷ []) ((oid_of 1, Complex) ∷ (oid_of 2, Complex) ∷ (oid_of 3, whole 5) ∷ []) ((
      oid_of 1,
      label
          "next",
      oid_of 2,
    ) ∷ (oid_of 2, label "next", oid_of 1) ∷ (oid_of 2, label "v", oid_of 3) ∷ []))

-- restore oem 1 next 2 nodes 4096 plan guide label name name name &1 object &1 {} end
abbrev by_words_as_entries : g.Statement
by_words_as_entries =
    g.restore (g.dump_text (pos 1) (pos 2) (pos 4096) Guided (label "name" ∷ []) ((name "name" refl, oid_of 1)
    ∷ []) ((oid_of 1, Complex) ∷ []) [])

-- restore oem 1 next 3 nodes 8 plan top label 'a b' name D &1 object &1 {} object &2 "Chef Chu" edge &1 'a b' &2 end
abbrev by_texts_and_quoted_labels : g.Statement
by_texts_and_quoted_labels =
    g.restore (g.dump_text (pos 1) (pos 3) (pos 8) Top (quoted "a b" ∷ []) ((name "D" refl, oid_of 1) ∷ [])
    ((oid_of 1, Complex) ∷ (oid_of 2, chars "Chef Chu") ∷ []) ((oid_of 1, quoted "a b", oid_of 2) ∷ []))

-- generate 7 1000
abbrev by_generated : g.Statement
by_generated =
    g.generate (pos 7) (pos 1000)

all : WorkedSettings
all = record {
  guide = record { by = by_guide; deep = lit≤ tt; spelled = refl; tree = refl };
  browsed = record { by = by_browsed; deep = lit≤ tt; spelled = refl; tree = refl };
  browsed_quoted = record { by = by_browsed_quoted; deep = lit≤ tt; spelled = refl; tree = refl };
  sampled = record { by = by_sampled; deep = lit≤ tt; spelled = refl; tree = refl };
  node_limit = record { by = by_node_limit; deep = lit≤ tt; spelled = refl; tree = refl };
  plan_auto = record { by = by_plan_auto; deep = lit≤ tt; spelled = refl; tree = refl };
  plan_top = record { by = by_plan_top; deep = lit≤ tt; spelled = refl; tree = refl };
  plan_bottom = record { by = by_plan_bottom; deep = lit≤ tt; spelled = refl; tree = refl };
  plan_guide = record { by = by_plan_guide; deep = lit≤ tt; spelled = refl; tree = refl };
  dumped = record { by = by_dumped; deep = lit≤ tt; spelled = refl; tree = refl };
  restored = record { by = by_restored; deep = lit≤ tt; spelled = refl; tree = refl };
  words_as_entries = record { by = by_words_as_entries; deep = lit≤ tt; spelled = refl; tree = refl };
  texts_and_quoted_labels = record { by = by_texts_and_quoted_labels; deep = lit≤ tt; spelled = refl; tree = refl };
  generated = record { by = by_generated; deep = lit≤ tt; spelled = refl; tree = refl };
}

pub returns : goal.returns
returns c = all
