-- Selects by their paths and variables: worked statements with their trees and tokens.
use Rattle.std.specs.Prelude.{[], ◌∷◌, codes, Some}
use Rattle.lorel_trees.specs.Types.{Eq, Gt}
use Rattle.lore_base.specs.Paths as p
use Rattle.lorel_tokens.specs.declared.token_types.Kind.TheVariants as k
use Rattle.lorel_tokens.specs.declared.token_types.Sign.TheVariants as s
use Rattle.lorel_trees.specs.Trees as t
use Rattle.lorel_trees.specs.Tokens.{HasTokens}
use Rattle.grammar_laws.specs.Worked.{word, sign, number, quoted, wild, step, matching, sequence, choice, path, whole, ranging, no_tail, such_that, query}

pub record WorkedPaths : Type 0 where
  -- select A(.x|.y)
  pub choice_of_two : HasTokens
      (t.select (query (t.object (path "A" (choice (sequence (step "x" ∷ []) ∷ sequence (step "y" ∷ []) ∷ [])
      ∷ [])) ∷ []) no_tail))
      (word "select" ∷ word "A" ∷ sign s.LeftParen ∷ sign s.Dot ∷ word "x" ∷ sign s.Bar ∷ sign s.Dot ∷ word
      "y" ∷ sign s.RightParen ∷ [])
  -- select A(.x.y)
  pub two_in_a_group : HasTokens
      (t.select (query (t.object (path "A" (choice (sequence (step "x" ∷ step "y" ∷ []) ∷ []) ∷ [])) ∷ [])
      no_tail))
      (word "select" ∷ word "A" ∷ sign s.LeftParen ∷ sign s.Dot ∷ word "x" ∷ sign s.Dot ∷ word "y" ∷ sign
      s.RightParen ∷ [])
  -- select G.next*
  pub starred : HasTokens
      (t.select (query (t.object (path "G" (p.star (step "next") ∷ [])) ∷ []) no_tail))
      (word "select" ∷ word "G" ∷ sign s.Dot ∷ word "next" ∷ sign s.Star ∷ [])
  -- select G.#.v
  pub any_word : HasTokens
      (t.select (query (t.object (path "G" (p.any ∷ step "v" ∷ [])) ∷ []) no_tail))
      (word "select" ∷ word "G" ∷ sign s.Dot ∷ sign s.Hash ∷ sign s.Dot ∷ word "v" ∷ [])
  -- select D.'a b'
  pub quoted_label : HasTokens
      (t.select (query (t.object (path "D" (step "a b" ∷ [])) ∷ []) no_tail))
      (word "select" ∷ word "D" ∷ sign s.Dot ∷ quoted "a b" ∷ [])
  -- select G.'next'
  pub quoted_identifier : HasTokens
      (t.select (query (t.object (path "G" (step "next" ∷ [])) ∷ []) no_tail))
      (word "select" ∷ word "G" ∷ sign s.Dot ∷ quoted "next" ∷ [])
  -- select Guide.restaurant.name where Guide.restaurant(.address)?.zip% = 92310
  pub optional : HasTokens
      (t.select (query (t.object (path "Guide" (step "restaurant" ∷ step "name" ∷ [])) ∷ []) (such_that
      (t.compare (t.at (path "Guide" (step "restaurant" ∷ p.opt (choice (sequence (step "address" ∷ []) ∷ []))
      ∷ matching "zip%" ∷ []))) Eq (t.constant (whole 92310))))))
      (word "select" ∷ word "Guide" ∷ sign s.Dot ∷ word "restaurant" ∷ sign s.Dot ∷ word "name" ∷ word "where"
      ∷ word "Guide" ∷ sign s.Dot ∷ word "restaurant" ∷ sign s.LeftParen ∷ sign s.Dot ∷ word "address" ∷ sign
      s.RightParen ∷ sign s.Question ∷ sign s.Dot ∷ wild "zip%" ∷ sign s.Equal ∷ number 92310 ∷ [])
  -- select path-of(P) from G.#@P X where X = 5
  pub path_word : HasTokens
      (t.select (query (t.path_of (codes "P") ∷ []) (record {
        ranges = record {
          path = path "G" (p.any ∷ []);
          word = Some (codes "P");
          variable = Some (codes "X");
        } ∷ [];
        cond = Some (t.compare (t.at (path "X" []))
            Eq (t.constant (whole 5)));
      })))
      (word "select" ∷ k.PathOf ∷ sign s.LeftParen ∷ word "P" ∷ sign s.RightParen ∷ word "from" ∷ word "G" ∷
      sign s.Dot ∷ sign s.Hash ∷ sign s.At ∷ word "P" ∷ word "X" ∷ word "where" ∷ word "X" ∷ sign s.Equal ∷
      number 5 ∷ [])
  -- select X.name, Z.name from Guide.restaurant X, X.nearby Z where Z.price > 30
  pub two_items : HasTokens
      (t.select (query (t.object (path "X" (step "name" ∷ [])) ∷ t.object (path "Z" (step "name" ∷ [])) ∷ [])
      (record {
        ranges = ranging (path "Guide" (step "restaurant" ∷ [])) "X" ∷ ranging (path "X" (step
            "nearby" ∷ [])) "Z" ∷ [];
        cond = Some (t.compare (t.at (path "Z" (step "price" ∷ []))) Gt (t.constant
            (whole 30)));
      })))
      (word "select" ∷ word "X" ∷ sign s.Dot ∷ word "name" ∷ sign s.Comma ∷ word "Z" ∷ sign s.Dot ∷ word
      "name" ∷ word "from" ∷ word "Guide" ∷ sign s.Dot ∷ word "restaurant" ∷ word "X" ∷ sign s.Comma ∷ word
      "X" ∷ sign s.Dot ∷ word "nearby" ∷ word "Z" ∷ word "where" ∷ word "Z" ∷ sign s.Dot ∷ word "price" ∷ sign
      s.Greater ∷ number 30 ∷ [])
