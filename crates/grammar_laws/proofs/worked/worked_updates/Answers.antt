-- The derivations of the worked statements.
use Rattle.std.proofs.Common.{refl, lit≤, [], ◌∷◌, Some, None}
use Rattle.lorel_trees.specs.Types.{Complex, Eq, Ge, Le}
use Rattle.lorel_trees.specs.Grammar as g
use Rattle.grammar_laws.specs.Worked.{whole, minus}
use Rattle.grammar_laws.specs.WorkedUpdates.{WorkedUpdates}
use Rattle.grammar_laws.proofs.Derivations.{name, label, quoted, step, path, number, text, braces, only, no_tail}
use Rattle.grammar_laws.proofs.worked.worked_updates.Goals as goal

-- name R := Guide.restaurant
abbrev by_named : g.Statement
by_named =
    g.bind (name "R" refl) (path "Guide" refl (step "restaurant" ∷ []))

-- name name := name
abbrev by_name_of_a_form : g.Statement
by_name_of_a_form =
    g.bind (name "name" refl) (path "name" refl [])

-- unname Guide
abbrev by_unnamed : g.Statement
by_unnamed =
    g.unname (name "Guide" refl)

-- update Guide.restaurant.price := 8 where Guide.restaurant.name = "Saigon"
abbrev by_assigned : g.Statement
by_assigned =
    g.assign (path "Guide" refl (step "restaurant" ∷ step "price" ∷ [])) (whole 8) (g.tail [] (Some (only
    (g.compare (g.reached (path "Guide" refl (step "restaurant" ∷ step "name" ∷ []))) Eq (g.constant (text
    "Saigon"))))))

-- update G.v := -5
abbrev by_negative_number : g.Statement
by_negative_number =
    g.assign (path "G" refl (step "v" ∷ [])) (minus 5) no_tail

-- update Guide.restaurant.tag += { k 1 }
abbrev by_added : g.Statement
by_added =
    g.add (path "Guide" refl (step "restaurant" ∷ [])) (label "tag") (g.fresh (braces None (g.member (label
    "k") (g.atom None (number 1)) ∷ []))) no_tail

-- update X.b += Y from N.a X, N.a Y
abbrev by_linked : g.Statement
by_linked =
    g.add (path "X" refl []) (label "b") (g.link (path "Y" refl [])) (g.tail (g.variable (path "N" refl (step
    "a" ∷ [])) (name "X" refl) ∷ g.variable (path "N" refl (step "a" ∷ [])) (name "Y" refl) ∷ []) None)

-- update G.next.next -= G
abbrev by_removed : g.Statement
by_removed =
    g.remove (path "G" refl (step "next" ∷ [])) (label "next") (path "G" refl []) no_tail

-- update D.'a b'.'c d' += D
abbrev by_quoted_label : g.Statement
by_quoted_label =
    g.add (path "D" refl (g.once (g.label (quoted "a b")) ∷ [])) (quoted "c d") (g.link (path "D" refl []))
    no_tail

-- update G.next+ := {} from G.v where exists Y in G.v : Y >= 1 or G.v <= 9
abbrev by_emptied : g.Statement
by_emptied =
    g.assign (path "G" refl (g.plus (g.label (label "next")) ∷ [])) Complex (g.tail (g.bare (path "G" refl
    (step "v" ∷ [])) ∷ []) (Some (g.conjs (g.unaries (g.exists (name "Y" refl) (path "G" refl (step "v" ∷ []))
    (g.compare (g.reached (path "Y" refl [])) Ge (g.constant (number 1)))) g.no_unaries) (g.or (g.unaries
    (g.compare (g.reached (path "G" refl (step "v" ∷ []))) Le (g.constant (number 9))) g.no_unaries)
    g.no_conjs))))

all : WorkedUpdates
all = record {
  named = record { by = by_named; deep = lit≤ tt; spelled = refl; tree = refl };
  name_of_a_form = record { by = by_name_of_a_form; deep = lit≤ tt; spelled = refl; tree = refl };
  unnamed = record { by = by_unnamed; deep = lit≤ tt; spelled = refl; tree = refl };
  assigned = record { by = by_assigned; deep = lit≤ tt; spelled = refl; tree = refl };
  negative_number = record { by = by_negative_number; deep = lit≤ tt; spelled = refl; tree = refl };
  added = record { by = by_added; deep = lit≤ tt; spelled = refl; tree = refl };
  linked = record { by = by_linked; deep = lit≤ tt; spelled = refl; tree = refl };
  removed = record { by = by_removed; deep = lit≤ tt; spelled = refl; tree = refl };
  quoted_label = record { by = by_quoted_label; deep = lit≤ tt; spelled = refl; tree = refl };
  emptied = record { by = by_emptied; deep = lit≤ tt; spelled = refl; tree = refl };
}

pub returns : goal.returns
returns c = all
