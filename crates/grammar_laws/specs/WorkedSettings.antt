-- Statements about the whole database: worked statements with their trees and tokens.
use Rattle.std.specs.Prelude.{[], ◌∷◌, codes, pos}
use Rattle.lorel_trees.specs.Types.{Auto, Bottom, Complex, Guided, Top}
use Rattle.lore_base.specs.Walks.{oid_of}
use Rattle.lorel_tokens.specs.declared.token_types.Kind.TheVariants as k
use Rattle.lorel_tokens.specs.declared.token_types.Sign.TheVariants as s
use Rattle.lorel_trees.specs.Trees as t
use Rattle.lorel_trees.specs.Tokens.{HasTokens}
use Rattle.grammar_laws.specs.Worked.{word, sign, number, text, quoted, whole, chars}

pub record WorkedSettings : Type 0 where
  -- guide
  pub guide : HasTokens
      (t.guide)
      (word "guide" ∷ [])
  -- browse Guide.restaurant
  pub browsed : HasTokens
      (t.browse (codes "Guide") (codes "restaurant" ∷ []))
      (word "browse" ∷ word "Guide" ∷ sign s.Dot ∷ word "restaurant" ∷ [])
  -- browse D.'a b'
  pub browsed_quoted : HasTokens
      (t.browse (codes "D") (codes "a b" ∷ []))
      (word "browse" ∷ word "D" ∷ sign s.Dot ∷ quoted "a b" ∷ [])
  -- sample Guide.restaurant.name 1
  pub sampled : HasTokens
      (t.sample (codes "Guide") (codes "restaurant" ∷ codes "name" ∷ []) (pos 1))
      (word "sample" ∷ word "Guide" ∷ sign s.Dot ∷ word "restaurant" ∷ sign s.Dot ∷ word "name" ∷ number 1 ∷
      [])
  -- set nodes 3
  pub node_limit : HasTokens
      (t.set_nodes (pos 3))
      (word "set" ∷ word "nodes" ∷ number 3 ∷ [])
  -- set plan auto
  pub plan_auto : HasTokens
      (t.set_plan Auto)
      (word "set" ∷ word "plan" ∷ word "auto" ∷ [])
  -- set plan top
  pub plan_top : HasTokens
      (t.set_plan Top)
      (word "set" ∷ word "plan" ∷ word "top" ∷ [])
  -- set plan bottom
  pub plan_bottom : HasTokens
      (t.set_plan Bottom)
      (word "set" ∷ word "plan" ∷ word "bottom" ∷ [])
  -- set plan guide
  pub plan_guide : HasTokens
      (t.set_plan Guided)
      (word "set" ∷ word "plan" ∷ word "guide" ∷ [])
  -- dump
  pub dumped : HasTokens
      (t.dump)
      (word "dump" ∷ [])
  -- restore oem 1 next 4 nodes 4096 plan auto label next label v name G &1 object &1 {} object &2 {} object
  --   &3 5 edge &1 next &2 edge &2 next &1 edge &2 v &3 end
  pub restored : HasTokens
      (t.restore (record {
        version = pos 1;
        next = pos 4;
        nodes = pos 4096;
        mode = Auto;
        labels = codes "next"
            ∷ codes "v" ∷ [];
        names = (codes "G", oid_of 1) ∷ [];
        objects = (oid_of 1, Complex) ∷ (
          oid_of 2,
          Complex,
        ) ∷ (oid_of 3, whole 5) ∷ [];
        edges = (oid_of 1, codes "next", oid_of 2) ∷ (
          oid_of 2,
          codes
              "next",
          oid_of 1,
        ) ∷ (oid_of 2, codes "v", oid_of 3) ∷ [];
      }))
      (word "restore" ∷ word "oem" ∷ number 1 ∷ word "next" ∷ number 4 ∷ word "nodes" ∷ number 4096 ∷ word
      "plan" ∷ word "auto" ∷ word "label" ∷ word "next" ∷ word "label" ∷ word "v" ∷ word "name" ∷ word "G" ∷
      k.Local 1 ∷ word "object" ∷ k.Local 1 ∷ sign s.LeftBrace ∷ sign s.RightBrace ∷ word "object" ∷ k.Local 2
      ∷ sign s.LeftBrace ∷ sign s.RightBrace ∷ word "object" ∷ k.Local 3 ∷ number 5 ∷ word "edge" ∷ k.Local 1
      ∷ word "next" ∷ k.Local 2 ∷ word "edge" ∷ k.Local 2 ∷ word "next" ∷ k.Local 1 ∷ word "edge" ∷ k.Local 2
      ∷ word "v" ∷ k.Local 3 ∷ word "end" ∷ [])
  -- restore oem 1 next 2 nodes 4096 plan guide label name name name &1 object &1 {} end
  pub words_as_entries : HasTokens
      (t.restore (record {
        version = pos 1;
        next = pos 2;
        nodes = pos 4096;
        mode = Guided;
        labels = codes
            "name" ∷ [];
        names = (codes "name", oid_of 1) ∷ [];
        objects = (oid_of 1, Complex) ∷ [];
        edges = [];
      }))
      (word "restore" ∷ word "oem" ∷ number 1 ∷ word "next" ∷ number 2 ∷ word "nodes" ∷ number 4096 ∷ word
      "plan" ∷ word "guide" ∷ word "label" ∷ word "name" ∷ word "name" ∷ word "name" ∷ k.Local 1 ∷ word
      "object" ∷ k.Local 1 ∷ sign s.LeftBrace ∷ sign s.RightBrace ∷ word "end" ∷ [])
  -- restore oem 1 next 3 nodes 8 plan top label 'a b' name D &1 object &1 {} object &2 "Chef Chu" edge &1
  --   'a b' &2 end
  pub texts_and_quoted_labels : HasTokens
      (t.restore (record {
        version = pos 1;
        next = pos 3;
        nodes = pos 8;
        mode = Top;
        labels = codes "a b" ∷
            [];
        names = (codes "D", oid_of 1) ∷ [];
        objects = (oid_of 1, Complex) ∷ (oid_of 2, chars "Chef Chu") ∷
            [];
        edges = (oid_of 1, codes "a b", oid_of 2) ∷ [];
      }))
      (word "restore" ∷ word "oem" ∷ number 1 ∷ word "next" ∷ number 3 ∷ word "nodes" ∷ number 8 ∷ word "plan"
      ∷ word "top" ∷ word "label" ∷ quoted "a b" ∷ word "name" ∷ word "D" ∷ k.Local 1 ∷ word "object" ∷
      k.Local 1 ∷ sign s.LeftBrace ∷ sign s.RightBrace ∷ word "object" ∷ k.Local 2 ∷ text "Chef Chu" ∷ word
      "edge" ∷ k.Local 1 ∷ quoted "a b" ∷ k.Local 2 ∷ word "end" ∷ [])
  -- generate 7 1000
  pub generated : HasTokens
      (t.generate (pos 7) (pos 1000))
      (word "generate" ∷ number 7 ∷ number 1000 ∷ [])
