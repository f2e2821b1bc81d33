-- Names and updates: worked statements with their trees and tokens.
use Rattle.std.specs.Prelude.{[], ◌∷◌, codes, Some, None}
use Rattle.lorel_trees.specs.Types.{Complex, Eq, Ge, Le}
use Rattle.lore_base.specs.Paths as p
use Rattle.lorel_tokens.specs.declared.token_types.Sign.TheVariants as s
use Rattle.lorel_trees.specs.Trees as t
use Rattle.lorel_trees.specs.Tokens.{HasTokens}
use Rattle.grammar_laws.specs.Worked.{word, sign, number, negative, text, quoted, step, path, whole, minus, chars, along, ranging, no_tail, such_that}

pub record WorkedUpdates : Type 0 where
  -- name R := Guide.restaurant
  pub named : HasTokens
      (t.bind (codes "R") (path "Guide" (step "restaurant" ∷ [])))
      (word "name" ∷ word "R" ∷ sign s.Assign ∷ word "Guide" ∷ sign s.Dot ∷ word "restaurant" ∷ [])
  -- name name := name
  pub name_of_a_form : HasTokens
      (t.bind (codes "name") (path "name" []))
      (word "name" ∷ word "name" ∷ sign s.Assign ∷ word "name" ∷ [])
  -- unname Guide
  pub unnamed : HasTokens
      (t.unname (codes "Guide"))
      (word "unname" ∷ word "Guide" ∷ [])
  -- update Guide.restaurant.price := 8 where Guide.restaurant.name = "Saigon"
  pub assigned : HasTokens
      (t.assign (path "Guide" (step "restaurant" ∷ step "price" ∷ [])) (whole 8) (such_that (t.compare (t.at
      (path "Guide" (step "restaurant" ∷ step "name" ∷ []))) Eq (t.constant (chars "Saigon")))))
      (word "update" ∷ word "Guide" ∷ sign s.Dot ∷ word "restaurant" ∷ sign s.Dot ∷ word "price" ∷ sign
      s.Assign ∷ number 8 ∷ word "where" ∷ word "Guide" ∷ sign s.Dot ∷ word "restaurant" ∷ sign s.Dot ∷ word
      "name" ∷ sign s.Equal ∷ text "Saigon" ∷ [])
  -- update G.v := -5
  pub negative_number : HasTokens
      (t.assign (path "G" (step "v" ∷ [])) (minus 5) no_tail)
      (word "update" ∷ word "G" ∷ sign s.Dot ∷ word "v" ∷ sign s.Assign ∷ negative 5 ∷ [])
  -- update Guide.restaurant.tag += { k 1 }
  pub added : HasTokens
      (t.add_new (path "Guide" (step "restaurant" ∷ [])) (codes "tag") (t.node None (t.more (codes "k")
      (t.atom None (whole 1)) t.none)) no_tail)
      (word "update" ∷ word "Guide" ∷ sign s.Dot ∷ word "restaurant" ∷ sign s.Dot ∷ word "tag" ∷ sign
      s.PlusAssign ∷ sign s.LeftBrace ∷ word "k" ∷ number 1 ∷ sign s.RightBrace ∷ [])
  -- update X.b += Y from N.a X, N.a Y
  pub linked : HasTokens
      (t.add_link (path "X" []) (codes "b") (path "Y" []) (record {
        ranges = ranging (path "N" (step "a" ∷
            [])) "X" ∷ ranging (path "N" (step "a" ∷ [])) "Y" ∷ [];
        cond = None;
      }))
      (word "update" ∷ word "X" ∷ sign s.Dot ∷ word "b" ∷ sign s.PlusAssign ∷ word "Y" ∷ word "from" ∷ word
      "N" ∷ sign s.Dot ∷ word "a" ∷ word "X" ∷ sign s.Comma ∷ word "N" ∷ sign s.Dot ∷ word "a" ∷ word "Y" ∷
      [])
  -- update G.next.next -= G
  pub removed : HasTokens
      (t.remove (path "G" (step "next" ∷ [])) (codes "next") (path "G" []) no_tail)
      (word "update" ∷ word "G" ∷ sign s.Dot ∷ word "next" ∷ sign s.Dot ∷ word "next" ∷ sign s.MinusAssign ∷
      word "G" ∷ [])
  -- update D.'a b'.'c d' += D
  pub quoted_label : HasTokens
      (t.add_link (path "D" (step "a b" ∷ [])) (codes "c d") (path "D" []) no_tail)
      (word "update" ∷ word "D" ∷ sign s.Dot ∷ quoted "a b" ∷ sign s.Dot ∷ quoted "c d" ∷ sign s.PlusAssign ∷
      word "D" ∷ [])
  -- update G.next+ := {} from G.v where exists Y in G.v : Y >= 1 or G.v <= 9
  pub emptied : HasTokens
      (t.assign (path "G" (p.plus (step "next") ∷ [])) Complex (record {
        ranges = along (path "G" (step "v" ∷
            [])) ∷ [];
        cond = Some (t.or (t.conds_from (t.exists (codes "Y") (path "G" (step "v" ∷ [])) (t.compare
            (t.at (path "Y" [])) Ge (t.constant (whole 1))) ∷ t.compare (t.at (path "G" (step "v" ∷ []))) Le
            (t.constant (whole 9)) ∷ [])));
      }))
      (word "update" ∷ word "G" ∷ sign s.Dot ∷ word "next" ∷ sign s.Plus ∷ sign s.Assign ∷ sign s.LeftBrace ∷
      sign s.RightBrace ∷ word "from" ∷ word "G" ∷ sign s.Dot ∷ word "v" ∷ word "where" ∷ word "exists" ∷ word
      "Y" ∷ word "in" ∷ word "G" ∷ sign s.Dot ∷ word "v" ∷ sign s.Colon ∷ word "Y" ∷ sign s.GreaterEqual ∷
      number 1 ∷ word "or" ∷ word "G" ∷ sign s.Dot ∷ word "v" ∷ sign s.LessEqual ∷ number 9 ∷ [])
