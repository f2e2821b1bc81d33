-- Selects by their conditions: worked statements with their trees and tokens.
use Rattle.std.specs.Prelude.{[], ◌∷◌, codes, Some}
use Rattle.lorel_trees.specs.Types.{Eq, Gt, Like, Lt, Ne}
use Rattle.lore_base.specs.Paths as p
use Rattle.lorel_tokens.specs.declared.token_types.Sign.TheVariants as s
use Rattle.lorel_trees.specs.Trees as t
use Rattle.lorel_trees.specs.Tokens.{HasTokens}
use Rattle.grammar_laws.specs.Worked.{word, sign, number, text, step, path, whole, chars, ranging, such_that, query}

pub record WorkedConditions : Type 0 where
  -- select Guide.restaurant.name where Guide.restaurant.price < 10
  pub cheaper : HasTokens
      (t.select (query (t.object (path "Guide" (step "restaurant" ∷ step "name" ∷ [])) ∷ []) (such_that
      (t.compare (t.at (path "Guide" (step "restaurant" ∷ step "price" ∷ []))) Lt (t.constant (whole 10))))))
      (word "select" ∷ word "Guide" ∷ sign s.Dot ∷ word "restaurant" ∷ sign s.Dot ∷ word "name" ∷ word "where"
      ∷ word "Guide" ∷ sign s.Dot ∷ word "restaurant" ∷ sign s.Dot ∷ word "price" ∷ sign s.Less ∷ number 10 ∷
      [])
  -- select Guide.restaurant where not (Guide.restaurant.name > 5)
  pub negated : HasTokens
      (t.select (query (t.object (path "Guide" (step "restaurant" ∷ [])) ∷ []) (such_that (t.not (t.compare
      (t.at (path "Guide" (step "restaurant" ∷ step "name" ∷ []))) Gt (t.constant (whole 5)))))))
      (word "select" ∷ word "Guide" ∷ sign s.Dot ∷ word "restaurant" ∷ word "where" ∷ word "not" ∷ sign
      s.LeftParen ∷ word "Guide" ∷ sign s.Dot ∷ word "restaurant" ∷ sign s.Dot ∷ word "name" ∷ sign s.Greater
      ∷ number 5 ∷ sign s.RightParen ∷ [])
  -- select X.name from Guide.restaurant X where for all Y in X.owner.name : Y = "Kim"
  pub every_owner : HasTokens
      (t.select (query (t.object (path "X" (step "name" ∷ [])) ∷ []) (record {
        ranges = ranging (path "Guide"
            (step "restaurant" ∷ [])) "X" ∷ [];
        cond = Some (t.for_all (codes "Y") (path "X" (step "owner" ∷ step
            "name" ∷ [])) (t.compare (t.at (path "Y" [])) Eq (t.constant (chars "Kim"))));
      })))
      (word "select" ∷ word "X" ∷ sign s.Dot ∷ word "name" ∷ word "from" ∷ word "Guide" ∷ sign s.Dot ∷ word
      "restaurant" ∷ word "X" ∷ word "where" ∷ word "for" ∷ word "all" ∷ word "Y" ∷ word "in" ∷ word "X" ∷
      sign s.Dot ∷ word "owner" ∷ sign s.Dot ∷ word "name" ∷ sign s.Colon ∷ word "Y" ∷ sign s.Equal ∷ text
      "Kim" ∷ [])
  -- select X from G.# X where X == G
  pub same_object : HasTokens
      (t.select (query (t.object (path "X" []) ∷ []) (record {
        ranges = ranging (path "G" (p.any ∷ [])) "X" ∷
            [];
        cond = Some (t.same (path "X" []) (path "G" []));
      })))
      (word "select" ∷ word "X" ∷ word "from" ∷ word "G" ∷ sign s.Dot ∷ sign s.Hash ∷ word "X" ∷ word "where"
      ∷ word "X" ∷ sign s.SameAs ∷ word "G" ∷ [])
  -- explain select X from Guide.restaurant X where X.price > 10 and X.name = "Saigon"
  pub explained : HasTokens
      (t.explain (query (t.object (path "X" []) ∷ []) (record {
        ranges = ranging (path "Guide" (step
            "restaurant" ∷ [])) "X" ∷ [];
        cond = Some (t.and (t.conds_from (t.compare (t.at (path "X" (step "price"
            ∷ []))) Gt (t.constant (whole 10)) ∷ t.compare (t.at (path "X" (step "name" ∷ []))) Eq (t.constant
            (chars "Saigon")) ∷ [])));
      })))
      (word "explain" ∷ word "select" ∷ word "X" ∷ word "from" ∷ word "Guide" ∷ sign s.Dot ∷ word "restaurant"
      ∷ word "X" ∷ word "where" ∷ word "X" ∷ sign s.Dot ∷ word "price" ∷ sign s.Greater ∷ number 10 ∷ word
      "and" ∷ word "X" ∷ sign s.Dot ∷ word "name" ∷ sign s.Equal ∷ text "Saigon" ∷ [])
  -- select A where "cheap" != 5
  pub unequal : HasTokens
      (t.select (query (t.object (path "A" []) ∷ []) (such_that (t.compare (t.constant (chars "cheap")) Ne
      (t.constant (whole 5))))))
      (word "select" ∷ word "A" ∷ word "where" ∷ text "cheap" ∷ sign s.NotEqual ∷ number 5 ∷ [])
  -- select A where 94301 like "94%"
  pub alike : HasTokens
      (t.select (query (t.object (path "A" []) ∷ []) (such_that (t.compare (t.constant (whole 94301)) Like
      (t.constant (chars "94%"))))))
      (word "select" ∷ word "A" ∷ word "where" ∷ number 94301 ∷ word "like" ∷ text "94%" ∷ [])
  -- select X from G.a X where X.b = X.c
  pub two_paths : HasTokens
      (t.select (query (t.object (path "X" []) ∷ []) (record {
        ranges = ranging (path "G" (step "a" ∷ [])) "X"
            ∷ [];
        cond = Some (t.compare (t.at (path "X" (step "b" ∷ []))) Eq (t.at (path "X" (step "c" ∷ []))));
      })))
      (word "select" ∷ word "X" ∷ word "from" ∷ word "G" ∷ sign s.Dot ∷ word "a" ∷ word "X" ∷ word "where" ∷
      word "X" ∷ sign s.Dot ∷ word "b" ∷ sign s.Equal ∷ word "X" ∷ sign s.Dot ∷ word "c" ∷ [])
  -- select A where A.x = 1 or A.y = 2 and A.z = 3
  pub or_over_and : HasTokens
      (t.select (query (t.object (path "A" []) ∷ []) (such_that (t.or (t.conds_from (t.compare (t.at (path "A"
      (step "x" ∷ []))) Eq (t.constant (whole 1)) ∷ t.and (t.conds_from (t.compare (t.at (path "A" (step "y" ∷
      []))) Eq (t.constant (whole 2)) ∷ t.compare (t.at (path "A" (step "z" ∷ []))) Eq (t.constant (whole 3))
      ∷ [])) ∷ []))))))
      (word "select" ∷ word "A" ∷ word "where" ∷ word "A" ∷ sign s.Dot ∷ word "x" ∷ sign s.Equal ∷ number 1 ∷
      word "or" ∷ word "A" ∷ sign s.Dot ∷ word "y" ∷ sign s.Equal ∷ number 2 ∷ word "and" ∷ word "A" ∷ sign
      s.Dot ∷ word "z" ∷ sign s.Equal ∷ number 3 ∷ [])
  -- select A where (A.x = 1 or A.y = 2) or A.z = 3
  pub or_in_or : HasTokens
      (t.select (query (t.object (path "A" []) ∷ []) (such_that (t.or (t.conds_from (t.or (t.conds_from
      (t.compare (t.at (path "A" (step "x" ∷ []))) Eq (t.constant (whole 1)) ∷ t.compare (t.at (path "A" (step
      "y" ∷ []))) Eq (t.constant (whole 2)) ∷ [])) ∷ t.compare (t.at (path "A" (step "z" ∷ []))) Eq
      (t.constant (whole 3)) ∷ []))))))
      (word "select" ∷ word "A" ∷ word "where" ∷ sign s.LeftParen ∷ word "A" ∷ sign s.Dot ∷ word "x" ∷ sign
      s.Equal ∷ number 1 ∷ word "or" ∷ word "A" ∷ sign s.Dot ∷ word "y" ∷ sign s.Equal ∷ number 2 ∷ sign
      s.RightParen ∷ word "or" ∷ word "A" ∷ sign s.Dot ∷ word "z" ∷ sign s.Equal ∷ number 3 ∷ [])
  -- select A where (A.x = 1 or A.y = 2) and A.z = 3
  pub or_in_and : HasTokens
      (t.select (query (t.object (path "A" []) ∷ []) (such_that (t.and (t.conds_from (t.or (t.conds_from
      (t.compare (t.at (path "A" (step "x" ∷ []))) Eq (t.constant (whole 1)) ∷ t.compare (t.at (path "A" (step
      "y" ∷ []))) Eq (t.constant (whole 2)) ∷ [])) ∷ t.compare (t.at (path "A" (step "z" ∷ []))) Eq
      (t.constant (whole 3)) ∷ []))))))
      (word "select" ∷ word "A" ∷ word "where" ∷ sign s.LeftParen ∷ word "A" ∷ sign s.Dot ∷ word "x" ∷ sign
      s.Equal ∷ number 1 ∷ word "or" ∷ word "A" ∷ sign s.Dot ∷ word "y" ∷ sign s.Equal ∷ number 2 ∷ sign
      s.RightParen ∷ word "and" ∷ word "A" ∷ sign s.Dot ∷ word "z" ∷ sign s.Equal ∷ number 3 ∷ [])
