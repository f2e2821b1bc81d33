-- Literals as they load objects: worked statements with their trees and tokens.
use Rattle.std.specs.Prelude.{[], ◌∷◌, codes, Some, None}
use Rattle.lorel_tokens.specs.declared.token_types.Kind.TheVariants as k
use Rattle.lorel_tokens.specs.declared.token_types.Sign.TheVariants as s
use Rattle.lorel_trees.specs.Trees as t
use Rattle.lorel_trees.specs.Tokens.{HasTokens}
use Rattle.grammar_laws.specs.Worked.{word, sign, number, negative, text, quoted, whole, minus, chars}

pub record WorkedLoads : Type 0 where
  -- load Guide := { restaurant { name "Chef Chu", price 12 }, restaurant { name "Saigon", price "9" } }
  pub restaurants : HasTokens
      (t.load (codes "Guide") (t.node None (t.more (codes "restaurant") (t.node None (t.more (codes "name")
      (t.atom None (chars "Chef Chu")) (t.more (codes "price") (t.atom None (whole 12)) t.none))) (t.more
      (codes "restaurant") (t.node None (t.more (codes "name") (t.atom None (chars "Saigon")) (t.more (codes
      "price") (t.atom None (chars "9")) t.none))) t.none))))
      (word "load" ∷ word "Guide" ∷ sign s.Assign ∷ sign s.LeftBrace ∷ word "restaurant" ∷ sign s.LeftBrace ∷
      word "name" ∷ text "Chef Chu" ∷ sign s.Comma ∷ word "price" ∷ number 12 ∷ sign s.RightBrace ∷ sign
      s.Comma ∷ word "restaurant" ∷ sign s.LeftBrace ∷ word "name" ∷ text "Saigon" ∷ sign s.Comma ∷ word
      "price" ∷ text "9" ∷ sign s.RightBrace ∷ sign s.RightBrace ∷ [])
  -- load G := &1 { next &2 { next &1, v 5 } }
  pub ring : HasTokens
      (t.load (codes "G") (t.node (Some 1) (t.more (codes "next") (t.node (Some 2) (t.more (codes "next")
      (t.local 1) (t.more (codes "v") (t.atom None (whole 5)) t.none))) t.none)))
      (word "load" ∷ word "G" ∷ sign s.Assign ∷ k.Local 1 ∷ sign s.LeftBrace ∷ word "next" ∷ k.Local 2 ∷ sign
      s.LeftBrace ∷ word "next" ∷ k.Local 1 ∷ sign s.Comma ∷ word "v" ∷ number 5 ∷ sign s.RightBrace ∷ sign
      s.RightBrace ∷ [])
  -- load A := { x &7 "t", y &7 }
  pub shared : HasTokens
      (t.load (codes "A") (t.node None (t.more (codes "x") (t.atom (Some 7) (chars "t")) (t.more (codes "y")
      (t.local 7) t.none))))
      (word "load" ∷ word "A" ∷ sign s.Assign ∷ sign s.LeftBrace ∷ word "x" ∷ k.Local 7 ∷ text "t" ∷ sign
      s.Comma ∷ word "y" ∷ k.Local 7 ∷ sign s.RightBrace ∷ [])
  -- load D := { 'a b' 1, 'it\'s' "x\ty" }
  pub quoted_labels : HasTokens
      (t.load (codes "D") (t.node None (t.more (codes "a b") (t.atom None (whole 1)) (t.more (codes "it's")
      (t.atom None (chars "x\ty")) t.none))))
      (word "load" ∷ word "D" ∷ sign s.Assign ∷ sign s.LeftBrace ∷ quoted "a b" ∷ number 1 ∷ sign s.Comma ∷
      quoted "it's" ∷ text "x\ty" ∷ sign s.RightBrace ∷ [])
  -- load D := { a {} }
  pub empty_braces : HasTokens
      (t.load (codes "D") (t.node None (t.more (codes "a") (t.node None t.none) t.none)))
      (word "load" ∷ word "D" ∷ sign s.Assign ∷ sign s.LeftBrace ∷ word "a" ∷ sign s.LeftBrace ∷ sign
      s.RightBrace ∷ sign s.RightBrace ∷ [])
  -- load D := { v -5 }
  pub negative_number : HasTokens
      (t.load (codes "D") (t.node None (t.more (codes "v") (t.atom None (minus 5)) t.none)))
      (word "load" ∷ word "D" ∷ sign s.Assign ∷ sign s.LeftBrace ∷ word "v" ∷ negative 5 ∷ sign s.RightBrace ∷
      [])
  -- load load := 1
  pub name_of_a_form : HasTokens
      (t.load (codes "load") (t.atom None (whole 1)))
      (word "load" ∷ word "load" ∷ sign s.Assign ∷ number 1 ∷ [])
