-- The derivations of the worked statements.
use Rattle.std.proofs.Common.{refl, lit≤, codes, [], ◌∷◌, Some}
use Rattle.lorel_trees.specs.Types.{Eq, Gt}
use Rattle.lorel_trees.specs.Grammar as g
use Rattle.grammar_laws.specs.WorkedPaths.{WorkedPaths}
use Rattle.grammar_laws.proofs.Derivations.{name, label, quoted, step, path, sequence, choice, number, only, no_tail}
use Rattle.grammar_laws.proofs.worked.worked_paths.Goals as goal

-- select A(.x|.y)
abbrev by_choice_of_two : g.Statement
by_choice_of_two =
    g.select (g.query (g.object (path "A" refl (g.once (g.group (choice (sequence (step "x") []) (sequence
    (step "y") [] ∷ []))) ∷ []))) [] no_tail)

-- select A(.x.y)
abbrev by_two_in_a_group : g.Statement
by_two_in_a_group =
    g.select (g.query (g.object (path "A" refl (g.once (g.group (choice (sequence (step "x") (step "y" ∷ []))
    [])) ∷ []))) [] no_tail)

-- select G.next*
abbrev by_starred : g.Statement
by_starred =
    g.select (g.query (g.object (path "G" refl (g.star (g.label (label "next")) ∷ []))) [] no_tail)

-- select G.#.v
abbrev by_any_word : g.Statement
by_any_word =
    g.select (g.query (g.object (path "G" refl (g.once g.hash ∷ step "v" ∷ []))) [] no_tail)

-- select D.'a b'
abbrev by_quoted_label : g.Statement
by_quoted_label =
    g.select (g.query (g.object (path "D" refl (g.once (g.label (quoted "a b")) ∷ []))) [] no_tail)

-- select G.'next'
abbrev by_quoted_identifier : g.Statement
by_quoted_identifier =
    g.select (g.query (g.object (path "G" refl (g.once (g.label (quoted "next")) ∷ []))) [] no_tail)

-- select Guide.restaurant.name where Guide.restaurant(.address)?.zip% = 92310
abbrev by_optional : g.Statement
by_optional =
    g.select (g.query (g.object (path "Guide" refl (step "restaurant" ∷ step "name" ∷ []))) [] (g.tail []
    (Some (only (g.compare (g.reached (path "Guide" refl (step "restaurant" ∷ g.question (g.group (choice
    (sequence (step "address") []) [])) ∷ g.once (g.pattern (codes "zip%")) ∷ []))) Eq (g.constant (number
    92310)))))))

-- select path-of(P) from G.#@P X where X = 5
abbrev by_path_word : g.Statement
by_path_word =
    g.select (g.query (g.path_of (name "P" refl)) [] (g.tail (g.word_variable (path "G" refl (g.once g.hash ∷
    [])) (name "P" refl) (name "X" refl) ∷ []) (Some (only (g.compare (g.reached (path "X" refl [])) Eq
    (g.constant (number 5)))))))

-- select X.name, Z.name from Guide.restaurant X, X.nearby Z where Z.price > 30
abbrev by_two_items : g.Statement
by_two_items =
    g.select (g.query (g.object (path "X" refl (step "name" ∷ []))) (g.object (path "Z" refl (step "name" ∷
    [])) ∷ []) (g.tail (g.variable (path "Guide" refl (step "restaurant" ∷ [])) (name "X" refl) ∷ g.variable
    (path "X" refl (step "nearby" ∷ [])) (name "Z" refl) ∷ []) (Some (only (g.compare (g.reached (path "Z"
    refl (step "price" ∷ []))) Gt (g.constant (number 30)))))))

all : WorkedPaths
all = record {
  choice_of_two = record { by = by_choice_of_two; deep = lit≤ tt; spelled = refl; tree = refl };
  two_in_a_group = record { by = by_two_in_a_group; deep = lit≤ tt; spelled = refl; tree = refl };
  starred = record { by = by_starred; deep = lit≤ tt; spelled = refl; tree = refl };
  any_word = record { by = by_any_word; deep = lit≤ tt; spelled = refl; tree = refl };
  quoted_label = record { by = by_quoted_label; deep = lit≤ tt; spelled = refl; tree = refl };
  quoted_identifier = record { by = by_quoted_identifier; deep = lit≤ tt; spelled = refl; tree = refl };
  optional = record { by = by_optional; deep = lit≤ tt; spelled = refl; tree = refl };
  path_word = record { by = by_path_word; deep = lit≤ tt; spelled = refl; tree = refl };
  two_items = record { by = by_two_items; deep = lit≤ tt; spelled = refl; tree = refl };
}

pub returns : goal.returns
returns c = all
