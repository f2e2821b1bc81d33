-- History, moments and kept selects: worked statements with their trees and tokens.
use Rattle.std.specs.Prelude.{true, false, [], ◌∷◌, codes, pos, neg_ℤ, Some}
use Rattle.lorel_trees.specs.Types.{Gt}
use Rattle.lorel_tokens.specs.declared.token_types.Kind.TheVariants as k
use Rattle.lorel_tokens.specs.declared.token_types.Sign.TheVariants as s
use Rattle.lorel_trees.specs.Trees as t
use Rattle.lorel_trees.specs.Tokens.{HasTokens}
use Rattle.grammar_laws.specs.Worked.{word, sign, number, negative, step, path, whole, ranging, no_tail, query}

pub record WorkedHistory : Type 0 where
  -- history on
  pub history_on : HasTokens
      (t.history true)
      (word "history" ∷ word "on" ∷ [])
  -- history off
  pub history_off : HasTokens
      (t.history false)
      (word "history" ∷ word "off" ∷ [])
  -- at 3 select G.a
  pub earlier : HasTokens
      (t.select_at (pos 3) (query (t.object (path "G" (step "a" ∷ [])) ∷ []) no_tail))
      (word "at" ∷ number 3 ∷ word "select" ∷ word "G" ∷ sign s.Dot ∷ word "a" ∷ [])
  -- changes 2 -5
  pub changed : HasTokens
      (t.changes (pos 2) (neg_ℤ (pos 5)))
      (word "changes" ∷ number 2 ∷ negative 5 ∷ [])
  -- blocks
  pub all_blocks : HasTokens
      (t.blocks)
      (word "blocks" ∷ [])
  -- blocks select blocks.a, path-of(P)
  pub blocks_of_some : HasTokens
      (t.blocks_of (query (t.object (path "blocks" (step "a" ∷ [])) ∷ t.path_of (codes "P") ∷ []) no_tail))
      (word "blocks" ∷ word "select" ∷ word "blocks" ∷ sign s.Dot ∷ word "a" ∷ sign s.Comma ∷ k.PathOf ∷ sign
      s.LeftParen ∷ word "P" ∷ sign s.RightParen ∷ [])
  -- watch W := select G.a, X from G.b X where X > 1
  pub watched : HasTokens
      (t.watch (codes "W") (query (t.object (path "G" (step "a" ∷ [])) ∷ t.object (path "X" []) ∷ []) (record {
        ranges = ranging (path "G" (step "b" ∷ [])) "X" ∷ [];
        cond = Some (t.compare (t.at (path "X" [])) Gt (t.constant (whole 1)));
      })))
      (word "watch" ∷ word "W" ∷ sign s.Assign ∷ word "select" ∷ word "G" ∷ sign s.Dot ∷ word "a" ∷ sign
      s.Comma ∷ word "X" ∷ word "from" ∷ word "G" ∷ sign s.Dot ∷ word "b" ∷ word "X" ∷ word "where" ∷ word "X"
      ∷ sign s.Greater ∷ number 1 ∷ [])
  -- watch history := select at
  pub words_of_forms : HasTokens
      (t.watch (codes "history") (query (t.object (path "at" []) ∷ []) no_tail))
      (word "watch" ∷ word "history" ∷ sign s.Assign ∷ word "select" ∷ word "at" ∷ [])
  -- unwatch W
  pub unwatched : HasTokens
      (t.unwatch (codes "W"))
      (word "unwatch" ∷ word "W" ∷ [])
  -- show off
  pub shown : HasTokens
      (t.show (codes "off"))
      (word "show" ∷ word "off" ∷ [])
