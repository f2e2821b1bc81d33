-- Flags: worked statements with their trees and tokens.
use Rattle.std.specs.Prelude.{true, false, [], ◌∷◌, codes, pos, Some, None}
use Rattle.lorel_trees.specs.Types.{Eq, Ne}
use Rattle.lore_base.specs.Walks.{oid_of}
use Rattle.lorel_tokens.specs.declared.token_types.Kind.TheVariants as k
use Rattle.lorel_tokens.specs.declared.token_types.Sign.TheVariants as s
use Rattle.lorel_trees.specs.Types.{Auto}
use Rattle.lorel_trees.specs.Trees as t
use Rattle.lorel_trees.specs.Tokens.{HasTokens}
use Rattle.grammar_laws.specs.Worked.{word, sign, number, text, step, path, flag, chars, no_tail, such_that, query}

pub record WorkedFlags : Type 0 where
  -- load A := true
  pub alone : HasTokens
      (t.load (codes "A") (t.atom None (flag true)))
      (word "load" ∷ word "A" ∷ sign s.Assign ∷ word "true" ∷ [])
  -- load A := { open false, x &3 true }
  pub members : HasTokens
      (t.load (codes "A") (t.node None (t.more (codes "open") (t.atom None (flag false)) (t.more (codes "x")
      (t.atom (Some 3) (flag true)) t.none))))
      (word "load" ∷ word "A" ∷ sign s.Assign ∷ sign s.LeftBrace ∷ word "open" ∷ word "false" ∷ sign s.Comma ∷
      word "x" ∷ k.Local 3 ∷ word "true" ∷ sign s.RightBrace ∷ [])
  -- load A := { true true, false "true" }
  pub labels : HasTokens
      (t.load (codes "A") (t.node None (t.more (codes "true") (t.atom None (flag true)) (t.more (codes
      "false") (t.atom None (chars "true")) t.none))))
      (word "load" ∷ word "A" ∷ sign s.Assign ∷ sign s.LeftBrace ∷ word "true" ∷ word "true" ∷ sign s.Comma ∷
      word "false" ∷ text "true" ∷ sign s.RightBrace ∷ [])
  -- update A.open := false
  pub assigned : HasTokens
      (t.assign (path "A" (step "open" ∷ [])) (flag false) no_tail)
      (word "update" ∷ word "A" ∷ sign s.Dot ∷ word "open" ∷ sign s.Assign ∷ word "false" ∷ [])
  -- update A.true += true
  pub added : HasTokens
      (t.add_new (path "A" []) (codes "true") (t.atom None (flag true)) no_tail)
      (word "update" ∷ word "A" ∷ sign s.Dot ∷ word "true" ∷ sign s.PlusAssign ∷ word "true" ∷ [])
  -- select A where A.open = true or false != A.open
  pub compared : HasTokens
      (t.select (query (t.object (path "A" []) ∷ []) (such_that (t.or (t.cond (t.compare (t.at (path "A" (step
      "open" ∷ []))) Eq (t.constant (flag true))) (t.cond (t.compare (t.constant (flag false)) Ne (t.at (path
      "A" (step "open" ∷ [])))) t.no_cond))))))
      (word "select" ∷ word "A" ∷ word "where" ∷ word "A" ∷ sign s.Dot ∷ word "open" ∷ sign s.Equal ∷ word
      "true" ∷ word "or" ∷ word "false" ∷ sign s.NotEqual ∷ word "A" ∷ sign s.Dot ∷ word "open" ∷ [])
  -- restore oem 2 next 2 nodes 1 plan auto name A &1 object &1 true end
  pub restored : HasTokens
      (t.restore (record {
        version = pos 2;
        next = pos 2;
        nodes = pos 1;
        mode = Auto;
        labels = [];
        names = (codes "A", oid_of 1) ∷ [];
        objects = (oid_of 1, flag true) ∷ [];
        edges = [];
      }))
      (word "restore" ∷ word "oem" ∷ number 2 ∷ word "next" ∷ number 2 ∷ word "nodes" ∷ number 1 ∷ word "plan"
      ∷ word "auto" ∷ word "name" ∷ word "A" ∷ k.Local 1 ∷ word "object" ∷ k.Local 1 ∷ word "true" ∷ word
      "end" ∷ [])
