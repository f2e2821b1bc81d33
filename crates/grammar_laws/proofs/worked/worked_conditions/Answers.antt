-- The derivations of the worked statements.
use Rattle.std.proofs.Common.{refl, lit≤, [], ◌∷◌, Some}
use Rattle.lorel_trees.specs.Types.{Eq, Gt, Like, Lt, Ne}
use Rattle.lorel_trees.specs.Grammar as g
use Rattle.grammar_laws.specs.WorkedConditions.{WorkedConditions}
use Rattle.grammar_laws.proofs.Derivations.{name, step, path, number, text, only}
use Rattle.grammar_laws.proofs.worked.worked_conditions.Goals as goal

-- select Guide.restaurant.name where Guide.restaurant.price < 10
abbrev by_cheaper : g.Statement
by_cheaper =
    g.select (g.query (g.object (path "Guide" refl (step "restaurant" ∷ step "name" ∷ []))) [] (g.tail []
    (Some (only (g.compare (g.reached (path "Guide" refl (step "restaurant" ∷ step "price" ∷ []))) Lt
    (g.constant (number 10)))))))

-- select Guide.restaurant where not (Guide.restaurant.name > 5)
abbrev by_negated : g.Statement
by_negated =
    g.select (g.query (g.object (path "Guide" refl (step "restaurant" ∷ []))) [] (g.tail [] (Some (only (g.not
    (g.parens (only (g.compare (g.reached (path "Guide" refl (step "restaurant" ∷ step "name" ∷ []))) Gt
    (g.constant (number 5))))))))))

-- select X.name from Guide.restaurant X where for all Y in X.owner.name : Y = "Kim"
abbrev by_every_owner : g.Statement
by_every_owner =
    g.select (g.query (g.object (path "X" refl (step "name" ∷ []))) [] (g.tail (g.variable (path "Guide" refl
    (step "restaurant" ∷ [])) (name "X" refl) ∷ []) (Some (only (g.for_all (name "Y" refl) (path "X" refl
    (step "owner" ∷ step "name" ∷ [])) (g.compare (g.reached (path "Y" refl [])) Eq (g.constant (text
    "Kim"))))))))

-- select X from G.# X where X == G
abbrev by_same_object : g.Statement
by_same_object =
    g.select (g.query (g.object (path "X" refl [])) [] (g.tail (g.variable (path "G" refl (g.once g.hash ∷
    [])) (name "X" refl) ∷ []) (Some (only (g.same (path "X" refl []) (path "G" refl []))))))

-- explain select X from Guide.restaurant X where X.price > 10 and X.name = "Saigon"
abbrev by_explained : g.Statement
by_explained =
    g.explain (g.query (g.object (path "X" refl [])) [] (g.tail (g.variable (path "Guide" refl (step
    "restaurant" ∷ [])) (name "X" refl) ∷ []) (Some (g.conjs (g.unaries (g.compare (g.reached (path "X" refl
    (step "price" ∷ []))) Gt (g.constant (number 10))) (g.and (g.compare (g.reached (path "X" refl (step
    "name" ∷ []))) Eq (g.constant (text "Saigon"))) g.no_unaries)) g.no_conjs))))

-- select A where "cheap" != 5
abbrev by_unequal : g.Statement
by_unequal =
    g.select (g.query (g.object (path "A" refl [])) [] (g.tail [] (Some (only (g.compare (g.constant (text
    "cheap")) Ne (g.constant (number 5)))))))

-- select A where 94301 like "94%"
abbrev by_alike : g.Statement
by_alike =
    g.select (g.query (g.object (path "A" refl [])) [] (g.tail [] (Some (only (g.compare (g.constant (number
    94301)) Like (g.constant (text "94%")))))))

-- select X from G.a X where X.b = X.c
abbrev by_two_paths : g.Statement
by_two_paths =
    g.select (g.query (g.object (path "X" refl [])) [] (g.tail (g.variable (path "G" refl (step "a" ∷ []))
    (name "X" refl) ∷ []) (Some (only (g.compare (g.reached (path "X" refl (step "b" ∷ []))) Eq (g.reached
    (path "X" refl (step "c" ∷ []))))))))

-- select A where A.x = 1 or A.y = 2 and A.z = 3
abbrev by_or_over_and : g.Statement
by_or_over_and =
    g.select (g.query (g.object (path "A" refl [])) [] (g.tail [] (Some (g.conjs (g.unaries (g.compare
    (g.reached (path "A" refl (step "x" ∷ []))) Eq (g.constant (number 1))) g.no_unaries) (g.or (g.unaries
    (g.compare (g.reached (path "A" refl (step "y" ∷ []))) Eq (g.constant (number 2))) (g.and (g.compare
    (g.reached (path "A" refl (step "z" ∷ []))) Eq (g.constant (number 3))) g.no_unaries)) g.no_conjs)))))

-- select A where (A.x = 1 or A.y = 2) or A.z = 3
abbrev by_or_in_or : g.Statement
by_or_in_or =
    g.select (g.query (g.object (path "A" refl [])) [] (g.tail [] (Some (g.conjs (g.unaries (g.parens (g.conjs
    (g.unaries (g.compare (g.reached (path "A" refl (step "x" ∷ []))) Eq (g.constant (number 1)))
    g.no_unaries) (g.or (g.unaries (g.compare (g.reached (path "A" refl (step "y" ∷ []))) Eq (g.constant
    (number 2))) g.no_unaries) g.no_conjs))) g.no_unaries) (g.or (g.unaries (g.compare (g.reached (path "A"
    refl (step "z" ∷ []))) Eq (g.constant (number 3))) g.no_unaries) g.no_conjs)))))

-- select A where (A.x = 1 or A.y = 2) and A.z = 3
abbrev by_or_in_and : g.Statement
by_or_in_and =
    g.select (g.query (g.object (path "A" refl [])) [] (g.tail [] (Some (g.conjs (g.unaries (g.parens (g.conjs
    (g.unaries (g.compare (g.reached (path "A" refl (step "x" ∷ []))) Eq (g.constant (number 1)))
    g.no_unaries) (g.or (g.unaries (g.compare (g.reached (path "A" refl (step "y" ∷ []))) Eq (g.constant
    (number 2))) g.no_unaries) g.no_conjs))) (g.and (g.compare (g.reached (path "A" refl (step "z" ∷ []))) Eq
    (g.constant (number 3))) g.no_unaries)) g.no_conjs))))

all : WorkedConditions
all = record {
  cheaper = record { by = by_cheaper; deep = lit≤ tt; spelled = refl; tree = refl };
  negated = record { by = by_negated; deep = lit≤ tt; spelled = refl; tree = refl };
  every_owner = record { by = by_every_owner; deep = lit≤ tt; spelled = refl; tree = refl };
  same_object = record { by = by_same_object; deep = lit≤ tt; spelled = refl; tree = refl };
  explained = record { by = by_explained; deep = lit≤ tt; spelled = refl; tree = refl };
  unequal = record { by = by_unequal; deep = lit≤ tt; spelled = refl; tree = refl };
  alike = record { by = by_alike; deep = lit≤ tt; spelled = refl; tree = refl };
  two_paths = record { by = by_two_paths; deep = lit≤ tt; spelled = refl; tree = refl };
  or_over_and = record { by = by_or_over_and; deep = lit≤ tt; spelled = refl; tree = refl };
  or_in_or = record { by = by_or_in_or; deep = lit≤ tt; spelled = refl; tree = refl };
  or_in_and = record { by = by_or_in_and; deep = lit≤ tt; spelled = refl; tree = refl };
}

pub returns : goal.returns
returns c = all
