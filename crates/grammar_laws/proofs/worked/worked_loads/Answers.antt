-- The derivations of the worked statements.
use Rattle.std.proofs.Common.{refl, lit≤, [], ◌∷◌, Some, None}
use Rattle.lorel_trees.specs.Grammar as g
use Rattle.grammar_laws.specs.WorkedLoads.{WorkedLoads}
use Rattle.grammar_laws.proofs.Derivations.{name, label, quoted, number, negative, text, braces}
use Rattle.grammar_laws.proofs.worked.worked_loads.Goals as goal

-- load Guide := { restaurant { name "Chef Chu", price 12 }, restaurant { name "Saigon", price "9" } }
abbrev by_restaurants : g.Statement
by_restaurants =
    g.load (name "Guide" refl) (braces None (g.member (label "restaurant") (braces None (g.member (label
    "name") (g.atom None (text "Chef Chu")) ∷ g.member (label "price") (g.atom None (number 12)) ∷ [])) ∷
    g.member (label "restaurant") (braces None (g.member (label "name") (g.atom None (text "Saigon")) ∷
    g.member (label "price") (g.atom None (text "9")) ∷ [])) ∷ []))

-- load G := &1 { next &2 { next &1, v 5 } }
abbrev by_ring : g.Statement
by_ring =
    g.load (name "G" refl) (braces (Some 1) (g.member (label "next") (braces (Some 2) (g.member (label "next")
    (g.local 1) ∷ g.member (label "v") (g.atom None (number 5)) ∷ [])) ∷ []))

-- load A := { x &7 "t", y &7 }
abbrev by_shared : g.Statement
by_shared =
    g.load (name "A" refl) (braces None (g.member (label "x") (g.atom (Some 7) (text "t")) ∷ g.member (label
    "y") (g.local 7) ∷ []))

-- load D := { 'a b' 1, 'it\'s' "x\ty" }
abbrev by_quoted_labels : g.Statement
by_quoted_labels =
    g.load (name "D" refl) (braces None (g.member (quoted "a b") (g.atom None (number 1)) ∷ g.member (quoted
    "it's") (g.atom None (text "x\ty")) ∷ []))

-- load D := { a {} }
abbrev by_empty_braces : g.Statement
by_empty_braces =
    g.load (name "D" refl) (braces None (g.member (label "a") (braces None []) ∷ []))

-- load D := { v -5 }
abbrev by_negative_number : g.Statement
by_negative_number =
    g.load (name "D" refl) (braces None (g.member (label "v") (g.atom None (negative 5)) ∷ []))

-- load load := 1
abbrev by_name_of_a_form : g.Statement
by_name_of_a_form =
    g.load (name "load" refl) (g.atom None (number 1))

all : WorkedLoads
all = record {
  restaurants = record { by = by_restaurants; deep = lit≤ tt; spelled = refl; tree = refl };
  ring = record { by = by_ring; deep = lit≤ tt; spelled = refl; tree = refl };
  shared = record { by = by_shared; deep = lit≤ tt; spelled = refl; tree = refl };
  quoted_labels = record { by = by_quoted_labels; deep = lit≤ tt; spelled = refl; tree = refl };
  empty_braces = record { by = by_empty_braces; deep = lit≤ tt; spelled = refl; tree = refl };
  negative_number = record { by = by_negative_number; deep = lit≤ tt; spelled = refl; tree = refl };
  name_of_a_form = record { by = by_name_of_a_form; deep = lit≤ tt; spelled = refl; tree = refl };
}

pub returns : goal.returns
returns c = all
