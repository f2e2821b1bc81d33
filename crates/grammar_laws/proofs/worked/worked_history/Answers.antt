-- The derivations of the worked statements.
use Rattle.std.proofs.Common.{refl, lit≤, true, false, pos, neg_ℤ, [], ◌∷◌, Some}
use Rattle.lorel_trees.specs.Types.{Gt}
use Rattle.lorel_trees.specs.Grammar as g
use Rattle.grammar_laws.specs.WorkedHistory.{WorkedHistory}
use Rattle.grammar_laws.proofs.Derivations.{name, step, path, number, only, no_tail}
use Rattle.grammar_laws.proofs.worked.worked_history.Goals as goal

-- history on
abbrev by_history_on : g.Statement
by_history_on =
    g.history true

-- history off
abbrev by_history_off : g.Statement
by_history_off =
    g.history false

-- at 3 select G.a
abbrev by_earlier : g.Statement
by_earlier =
    g.select_at (pos 3) (g.query (g.object (path "G" refl (step "a" ∷ []))) [] no_tail)

-- changes 2 -5
abbrev by_changed : g.Statement
by_changed =
    g.changes (pos 2) (neg_ℤ (pos 5))

-- blocks
abbrev by_all_blocks : g.Statement
by_all_blocks =
    g.blocks

-- blocks select blocks.a, path-of(P)
abbrev by_blocks_of_some : g.Statement
by_blocks_of_some =
    g.blocks_of (g.query (g.object (path "blocks" refl (step "a" ∷ []))) (g.path_of (name "P" refl) ∷ [])
    no_tail)

-- watch W := select G.a, X from G.b X where X > 1
abbrev by_watched : g.Statement
by_watched =
    g.watch (name "W" refl) (g.paths (path "G" refl (step "a" ∷ [])) (path "X" refl [] ∷ []) (g.tail
    (g.variable (path "G" refl (step "b" ∷ [])) (name "X" refl) ∷ []) (Some (only (g.compare (g.reached (path
    "X" refl [])) Gt (g.constant (number 1)))))))

-- watch history := select at
abbrev by_words_of_forms : g.Statement
by_words_of_forms =
    g.watch (name "history" refl) (g.paths (path "at" refl []) [] no_tail)

-- unwatch W
abbrev by_unwatched : g.Statement
by_unwatched =
    g.unwatch (name "W" refl)

-- show off
abbrev by_shown : g.Statement
by_shown =
    g.show (name "off" refl)

all : WorkedHistory
all = record {
  history_on = record { by = by_history_on; deep = lit≤ tt; spelled = refl; tree = refl };
  history_off = record { by = by_history_off; deep = lit≤ tt; spelled = refl; tree = refl };
  earlier = record { by = by_earlier; deep = lit≤ tt; spelled = refl; tree = refl };
  changed = record { by = by_changed; deep = lit≤ tt; spelled = refl; tree = refl };
  all_blocks = record { by = by_all_blocks; deep = lit≤ tt; spelled = refl; tree = refl };
  blocks_of_some = record { by = by_blocks_of_some; deep = lit≤ tt; spelled = refl; tree = refl };
  watched = record { by = by_watched; deep = lit≤ tt; spelled = refl; tree = refl };
  words_of_forms = record { by = by_words_of_forms; deep = lit≤ tt; spelled = refl; tree = refl };
  unwatched = record { by = by_unwatched; deep = lit≤ tt; spelled = refl; tree = refl };
  shown = record { by = by_shown; deep = lit≤ tt; spelled = refl; tree = refl };
}

pub returns : goal.returns
returns c = all
