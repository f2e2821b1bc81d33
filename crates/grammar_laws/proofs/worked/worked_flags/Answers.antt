-- The derivations of the worked statements.
use Rattle.std.proofs.Common.{refl, lit≤, true, false, pos, [], ◌∷◌, Some, None}
use Rattle.lorel_trees.specs.Types.{Auto, Eq, Flag, Ne}
use Rattle.lore_base.specs.Walks.{oid_of}
use Rattle.lorel_trees.specs.Grammar as g
use Rattle.grammar_laws.specs.WorkedFlags.{WorkedFlags}
use Rattle.grammar_laws.proofs.Derivations.{name, label, step, path, flag, text, braces, no_tail}
use Rattle.grammar_laws.proofs.worked.worked_flags.Goals as goal

-- load A := true
abbrev by_alone : g.Statement
by_alone =
    g.load (name "A" refl) (g.atom None (flag true))

-- load A := { open false, x &3 true }
abbrev by_members : g.Statement
by_members =
    g.load (name "A" refl) (braces None (g.member (label "open") (g.atom None (flag false)) ∷ g.member (label
    "x") (g.atom (Some 3) (flag true)) ∷ []))

-- load A := { true true, false "true" }
abbrev by_labels : g.Statement
by_labels =
    g.load (name "A" refl) (braces None (g.member (label "true") (g.atom None (flag true)) ∷ g.member (label
    "false") (g.atom None (text "true")) ∷ []))

-- update A.open := false
abbrev by_assigned : g.Statement
by_assigned =
    g.assign (path "A" refl (step "open" ∷ [])) (Flag false) no_tail

-- update A.true += true
abbrev by_added : g.Statement
by_added =
    g.add (path "A" refl []) (label "true") (g.fresh (g.atom None (flag true))) no_tail

-- select A where A.open = true or false != A.open
abbrev by_compared : g.Statement
by_compared =
    g.select (g.query (g.object (path "A" refl [])) [] (g.tail [] (Some (g.conjs (g.unaries (g.compare
    (g.reached (path "A" refl (step "open" ∷ []))) Eq (g.constant (flag true))) g.no_unaries) (g.or (g.unaries
    (g.compare (g.constant (flag false)) Ne (g.reached (path "A" refl (step "open" ∷ [])))) g.no_unaries)
    g.no_conjs)))))

-- restore oem 2 next 2 nodes 1 plan auto name A &1 object &1 true end
abbrev by_restored : g.Statement
by_restored =
    g.restore (g.dump_text (pos 2) (pos 2) (pos 1) Auto [] ((name "A" refl, oid_of 1) ∷ []) ((
      oid_of 1,
      Flag
          true,
    ) ∷ []) [])

all : WorkedFlags
all = record {
  alone = record { by = by_alone; deep = lit≤ tt; spelled = refl; tree = refl };
  members = record { by = by_members; deep = lit≤ tt; spelled = refl; tree = refl };
  labels = record { by = by_labels; deep = lit≤ tt; spelled = refl; tree = refl };
  assigned = record { by = by_assigned; deep = lit≤ tt; spelled = refl; tree = refl };
  added = record { by = by_added; deep = lit≤ tt; spelled = refl; tree = refl };
  compared = record { by = by_compared; deep = lit≤ tt; spelled = refl; tree = refl };
  restored = record { by = by_restored; deep = lit≤ tt; spelled = refl; tree = refl };
}

pub returns : goal.returns
returns c = all
