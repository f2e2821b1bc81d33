-- Canonical derivations of tails, selects, dump texts and statements.
use Rattle.std.proofs.Common.{List, [], ◌∷◌, All, codes, map, option_map, refl, ap, sym, ◌∙◌, Option, Some, None, subst, arith}
use Rattle.lorel_trees.specs.Types.{Oid, Kind}
use Rattle.lorel_tokens.specs.declared.token_types.Kind.TheVariants as k
use Rattle.lorel_tokens.specs.declared.token_types.Sign.TheVariants as s
use Rattle.lorel_trees.specs.Trees as t
use Rattle.lorel_trees.specs.Grammar as g
use Rattle.lorel_trees.specs.Repetitions.{spell_each, nest_each}
use Rattle.lorel_trees.specs.Paths.{spell_label, text_of_label, spell_path, tree_path}
use Rattle.lorel_trees.specs.Literals.{spell_value, spell_literal, tree_literal}
use Rattle.lorel_trees.specs.Selects.{spell_range, tree_range, nest_range, spell_from, spell_where, nest_where, spell_tail, tree_tail, nest_tail, spell_item, tree_item, nest_item, spell_select, tree_select, nest_select, select_of_paths, spell_paths, tree_paths, nest_paths}
use Rattle.lorel_trees.specs.Conditions.{tree_cond}
use Rattle.lorel_trees.specs.Statements.{spell_mode, spell_oid, spell_dump_name, entry_of_name, spell_dump_edge, entry_of_edge, spell_dump_names, spell_dump_objects, spell_dump_edges, spell_dump_text, tree_dump_text, spell_statement, tree_statement, nest_statement}
use Rattle.lorel_ast.specs.Printing.{print_label, print_rooted, print_literal, print_range, print_from, print_where, print_tail, print_item, print_more_items, print_select, print_dump_labels, print_dump_name, print_dump_names, print_dump_edge, print_dump, print_statement}
use Rattle.lorel_trees.specs.Tokens.{HasTokens}
use Rattle.lorel_trees.specs.Formed.{IsObjectItem}
use Rattle.lorel_trees.proofs.PathItemLaws.{paths_items, paths_of}
use Rattle.grammar_laws.specs.PrintingLaws.{HasCanonical, PrintsBack}
use Rattle.grammar_laws.specs.Laws.{KeepsForms}
use Rattle.lorel_trees.proofs.FormLaws.{formed_all, sound_statement, sound_literal, sound_dump}
use Rattle.grammar_laws.proofs.PrintFormLaws.{statement_printed}
use Rattle.grammar_laws.proofs.CanonPathLaws.{Canon, flat, canon_label, canon_each, canon_labels, canon_path, canon_literal}
use Rattle.grammar_laws.proofs.CanonCondLaws.{canon_cond}

-- from items and conditions
canon_range : (range : g.Range) → Canon spell_range tree_range nest_range print_range (tree_range range) (nest_range range)
canon_range (g.bare path) =
    let one = canon_path path in
    record { by = g.bare one.by; spelled = one.spelled; same = cc (one.same); deep = one.deep }
canon_range (g.variable path (g.free text unreserved)) =
    let one = canon_path path in
    record { by = g.variable one.by (g.free text unreserved); spelled = λ rest. one.spelled (k.Word text ∷ rest); same = cc (one.same); deep = one.deep }
canon_range (g.word_variable path (g.free word free) (g.free text unreserved)) =
    let one = canon_path path in
    record {
      by = g.word_variable one.by (g.free word free) (g.free text unreserved);
      spelled = λ rest. one.spelled (k.Symbol s.At ∷ k.Word word ∷ k.Word text ∷ rest);
      same = cc (one.same);
      deep = one.deep;
    }

canon_from : (ranges : List g.Range) → Canon spell_from (map tree_range) (nest_each nest_range) print_from (map tree_range ranges) (nest_each nest_range ranges)
canon_from [] = record { by = []; spelled = λ rest. refl; same = refl; deep = omega arith }
canon_from (first ∷ others) =
    let one = canon_range first in
    let more = canon_each spell_range tree_range nest_range print_range (k.Symbol s.Comma) canon_range others in
    record {
      by = one.by ∷ more.by;
      spelled = λ rest. ap (λ kinds. k.Word (codes "from") ∷ kinds) (one.spelled (spell_each (k.Symbol s.Comma) spell_range more.by rest)
          ∙ ap (print_range (tree_range first)) (more.spelled rest));
      same = cc (one.same, more.same);
      deep = let x = one.deep in let y = more.deep in omega arith;
    }

canon_where : (cond : Option g.Cond) → Canon spell_where (option_map tree_cond) nest_where print_where (option_map tree_cond cond) (nest_where cond)
canon_where None = record { by = None; spelled = λ rest. refl; same = refl; deep = omega arith }
canon_where (Some cond) =
    let one = canon_cond cond in
    record { by = Some one.by; spelled = λ rest. ap (λ kinds. k.Word (codes "where") ∷ kinds) (one.spelled rest); same = ap (λ tree. Some tree) one.same; deep = one.deep }

canon_tail : (end : g.Tail) → Canon spell_tail tree_tail nest_tail print_tail (tree_tail end) (nest_tail end)
canon_tail (g.tail ranges cond) =
    let one = canon_from ranges in
    let two = canon_where cond in
    record {
      by = g.tail one.by two.by;
      spelled = λ rest. one.spelled (spell_where two.by rest) ∙ ap (print_from (map tree_range ranges)) (two.spelled rest);
      same = cc (one.same, two.same);
      deep = let x = one.deep in let y = two.deep in omega arith;
    }

-- selects
canon_item : (item : g.Item) → Canon spell_item tree_item nest_item print_item (tree_item item) (nest_item item)
canon_item (g.object path) = let one = canon_path path in record { by = g.object one.by; spelled = one.spelled; same = ap t.object one.same; deep = one.deep }
canon_item (g.path_of (g.free text unreserved)) = record { by = g.path_of (g.free text unreserved); spelled = λ rest. refl; same = refl; deep = omega arith }

canon_select : (query : g.Select) → Canon spell_select tree_select nest_select print_select (tree_select query) (nest_select query)
canon_select (g.query first others end) =
    let one = canon_item first in
    let more = canon_each spell_item tree_item nest_item print_item (k.Symbol s.Comma) canon_item others in
    let last = canon_tail end in
    record {
      by = g.query one.by more.by last.by;
      spelled = λ rest. ap (λ kinds. k.Word (codes "select") ∷ kinds) (one.spelled (spell_each (k.Symbol s.Comma) spell_item more.by (spell_tail last.by rest))
          ∙ ap (print_item (tree_item first)) (more.spelled (spell_tail last.by rest) ∙ ap (print_more_items (map tree_item others)) (last.spelled rest)));
      same = cc (one.same, more.same, last.same);
      deep = let x = one.deep in let y = more.deep in let z = last.deep in omega arith;
    }

-- the canonical select has items that are paths alone where the select has
canon_paths : (inner : g.Paths) → Canon spell_paths tree_paths nest_paths print_select (tree_paths inner) (nest_paths inner)
canon_paths inner =
    let one = canon_select (select_of_paths inner) in
    let Has : t.SelectTree → Type 0 = λ tree. All IsObjectItem tree.items in
    let (paths, is) = paths_of one.by (subst Has (sym one.same) (paths_items inner)) in
    record {
      by = paths;
      spelled = λ rest. ap (λ (query : g.Select). spell_select query rest) is ∙ one.spelled rest;
      same = ap tree_select is ∙ one.same;
      deep = let nests = ap nest_select is in let low = one.deep in omega arith;
    }

-- dump texts
canon_name : (entry : g.Name × Oid) → Canon spell_dump_name entry_of_name flat print_dump_name (entry_of_name entry) 0
canon_name (g.free text unreserved, oid) = record { by = (g.free text unreserved, oid); spelled = λ rest. refl; same = refl; deep = omega arith }

canon_edge : (entry : Oid × g.Label × Oid) → Canon spell_dump_edge entry_of_edge flat print_dump_edge (entry_of_edge entry) 0
canon_edge (parent, label, child) =
    let one = canon_label (text_of_label label) in
    record {
      by = (parent, one.by, child);
      spelled = λ rest. ap (spell_oid parent) (one.spelled (spell_oid child rest));
      same = ap (λ text. (parent, text, child)) one.same;
      deep = omega arith;
    }

canon_dump : (text : g.DumpText) → Canon spell_dump_text tree_dump_text flat print_dump (tree_dump_text text) 0
canon_dump (g.dump_text version next nodes mode labels names objects edges) =
    let one = canon_labels (k.Word (codes "label")) labels in
    let mid = canon_each spell_dump_name entry_of_name flat print_dump_name (k.Word (codes "name")) canon_name names in
    let two = canon_each spell_dump_edge entry_of_edge flat print_dump_edge (k.Word (codes "edge")) canon_edge edges in
    record {
      by = g.dump_text version next nodes mode one.by mid.by objects two.by;
      spelled = λ rest.
          let end = k.Word (codes "end") ∷ rest in
          let behind = spell_dump_objects objects (spell_dump_edges two.by end) in
          ap (λ kinds. k.Word (codes "oem") ∷ k.Number version ∷ k.Word (codes "next") ∷ k.Number next ∷ k.Word (codes "nodes") ∷ k.Number nodes ∷ k.Word (codes "plan") ∷ spell_mode mode kinds)
          (one.spelled (spell_dump_names mid.by behind) ∙ ap (print_dump_labels (map text_of_label labels)) (mid.spelled behind
          ∙ ap (λ kinds. print_dump_names (map entry_of_name names) (spell_dump_objects objects kinds)) (two.spelled end)));
      same = cc (one.same, mid.same, two.same);
      deep = omega arith;
    }

-- statements
abbrev CanonStatement : g.Statement → Type 0
CanonStatement by = Canon spell_statement tree_statement nest_statement print_statement (tree_statement by) (nest_statement by)

canon_statement : (by : g.Statement) → CanonStatement by
canon_statement (g.load (g.free text unreserved) literal) =
    let one = canon_literal literal in
    record {
      by = g.load (g.free text unreserved) one.by;
      spelled = λ rest. ap (λ kinds. k.Word (codes "load") ∷ k.Word text ∷ k.Symbol s.Assign ∷ kinds) (one.spelled rest);
      same = ap (t.load text) one.same;
      deep = one.deep;
    }
canon_statement (g.bind (g.free text unreserved) path) =
    let one = canon_path path in
    record {
      by = g.bind (g.free text unreserved) one.by;
      spelled = λ rest. ap (λ kinds. k.Word (codes "name") ∷ k.Word text ∷ k.Symbol s.Assign ∷ kinds) (one.spelled rest);
      same = ap (t.bind text) one.same;
      deep = one.deep;
    }
canon_statement (g.unname (g.free text unreserved)) = record { by = g.unname (g.free text unreserved); spelled = λ rest. refl; same = refl; deep = omega arith }
canon_statement (g.assign target value end) =
    let one = canon_path target in
    let last = canon_tail end in
    record {
      by = g.assign one.by value last.by;
      spelled = λ rest. ap (λ kinds. k.Word (codes "update") ∷ kinds) (one.spelled (k.Symbol s.Assign ∷ spell_value value (spell_tail last.by rest))
          ∙ ap (λ kinds. print_rooted (tree_path target) (k.Symbol s.Assign ∷ spell_value value kinds)) (last.spelled rest));
      same = cc (one.same, last.same);
      deep = let x = one.deep in let y = last.deep in omega arith;
    }
canon_statement (g.add target label (g.fresh literal) end) =
    let one = canon_path target in
    let named = canon_label (text_of_label label) in
    let two = canon_literal literal in
    let last = canon_tail end in
    record {
      by = g.add one.by named.by (g.fresh two.by) last.by;
      spelled = λ rest.
          let behind = k.Symbol s.PlusAssign ∷ spell_literal two.by (spell_tail last.by rest) in
          ap (λ kinds. k.Word (codes "update") ∷ kinds) (one.spelled (k.Symbol s.Dot ∷ spell_label named.by behind)
          ∙ ap (λ kinds. print_rooted (tree_path target) (k.Symbol s.Dot ∷ kinds)) (named.spelled behind
          ∙ ap (λ kinds. print_label (text_of_label label) (k.Symbol s.PlusAssign ∷ kinds)) (two.spelled (spell_tail last.by rest)
          ∙ ap (print_literal (tree_literal literal)) (last.spelled rest))));
      same = cc (one.same, named.same, two.same, last.same);
      deep = let x = one.deep in let y = two.deep in let z = last.deep in omega arith;
    }
canon_statement (g.add target label (g.link right) end) =
    let one = canon_path target in
    let named = canon_label (text_of_label label) in
    let two = canon_path right in
    let last = canon_tail end in
    record {
      by = g.add one.by named.by (g.link two.by) last.by;
      spelled = λ rest.
          let behind = k.Symbol s.PlusAssign ∷ spell_path two.by (spell_tail last.by rest) in
          ap (λ kinds. k.Word (codes "update") ∷ kinds) (one.spelled (k.Symbol s.Dot ∷ spell_label named.by behind)
          ∙ ap (λ kinds. print_rooted (tree_path target) (k.Symbol s.Dot ∷ kinds)) (named.spelled behind
          ∙ ap (λ kinds. print_label (text_of_label label) (k.Symbol s.PlusAssign ∷ kinds)) (two.spelled (spell_tail last.by rest)
          ∙ ap (print_rooted (tree_path right)) (last.spelled rest))));
      same = cc (one.same, named.same, two.same, last.same);
      deep = let x = one.deep in let y = two.deep in let z = last.deep in omega arith;
    }
canon_statement (g.remove target label right end) =
    let one = canon_path target in
    let named = canon_label (text_of_label label) in
    let two = canon_path right in
    let last = canon_tail end in
    record {
      by = g.remove one.by named.by two.by last.by;
      spelled = λ rest.
          let behind = k.Symbol s.MinusAssign ∷ spell_path two.by (spell_tail last.by rest) in
          ap (λ kinds. k.Word (codes "update") ∷ kinds) (one.spelled (k.Symbol s.Dot ∷ spell_label named.by behind)
          ∙ ap (λ kinds. print_rooted (tree_path target) (k.Symbol s.Dot ∷ kinds)) (named.spelled behind
          ∙ ap (λ kinds. print_label (text_of_label label) (k.Symbol s.MinusAssign ∷ kinds)) (two.spelled (spell_tail last.by rest)
          ∙ ap (print_rooted (tree_path right)) (last.spelled rest))));
      same = cc (one.same, named.same, two.same, last.same);
      deep = let x = one.deep in let y = two.deep in let z = last.deep in omega arith;
    }
canon_statement (g.select asked) =
    let one = canon_select asked in
    record { by = g.select one.by; spelled = one.spelled; same = ap t.select one.same; deep = one.deep }
canon_statement (g.explain asked) =
    let one = canon_select asked in
    record { by = g.explain one.by; spelled = λ rest. ap (λ kinds. k.Word (codes "explain") ∷ kinds) (one.spelled rest); same = ap t.explain one.same; deep = one.deep }
canon_statement g.guide = record { by = g.guide; spelled = λ rest. refl; same = refl; deep = omega arith }
canon_statement (g.browse (g.walked (g.free text unreserved) steps)) =
    let one = canon_labels (k.Symbol s.Dot) steps in
    record {
      by = g.browse (g.walked (g.free text unreserved) one.by);
      spelled = λ rest. ap (λ kinds. k.Word (codes "browse") ∷ k.Word text ∷ kinds) (one.spelled rest);
      same = ap (t.browse text) one.same;
      deep = omega arith;
    }
canon_statement (g.sample (g.walked (g.free text unreserved) steps) count) =
    let one = canon_labels (k.Symbol s.Dot) steps in
    record {
      by = g.sample (g.walked (g.free text unreserved) one.by) count;
      spelled = λ rest. ap (λ kinds. k.Word (codes "sample") ∷ k.Word text ∷ kinds) (one.spelled (k.Number count ∷ rest));
      same = ap (λ texts. t.sample text texts count) one.same;
      deep = omega arith;
    }
canon_statement (g.set_nodes nodes) = record { by = g.set_nodes nodes; spelled = λ rest. refl; same = refl; deep = omega arith }
canon_statement (g.set_plan mode) = record { by = g.set_plan mode; spelled = λ rest. refl; same = refl; deep = omega arith }
canon_statement g.dump = record { by = g.dump; spelled = λ rest. refl; same = refl; deep = omega arith }
canon_statement (g.restore text) =
    let one = canon_dump text in
    record {
      by = g.restore one.by;
      spelled = λ rest. ap (λ kinds. k.Word (codes "restore") ∷ kinds) (one.spelled rest);
      same = ap t.restore one.same;
      deep = omega arith;
    }
canon_statement (g.generate seed count) = record { by = g.generate seed count; spelled = λ rest. refl; same = refl; deep = omega arith }
canon_statement (g.history on) = record { by = g.history on; spelled = λ rest. refl; same = refl; deep = omega arith }
canon_statement (g.select_at moment asked) =
    let one = canon_select asked in
    record {
      by = g.select_at moment one.by;
      spelled = λ rest. ap (λ kinds. k.Word (codes "at") ∷ k.Number moment ∷ kinds) (one.spelled rest);
      same = ap (t.select_at moment) one.same;
      deep = one.deep;
    }
canon_statement (g.changes from to) = record { by = g.changes from to; spelled = λ rest. refl; same = refl; deep = omega arith }
canon_statement g.blocks = record { by = g.blocks; spelled = λ rest. refl; same = refl; deep = omega arith }
canon_statement (g.blocks_of asked) =
    let one = canon_select asked in
    record { by = g.blocks_of one.by; spelled = λ rest. ap (λ kinds. k.Word (codes "blocks") ∷ kinds) (one.spelled rest); same = ap t.blocks_of one.same; deep = one.deep }
canon_statement (g.watch (g.free text unreserved) asked) =
    let one = canon_paths asked in
    record {
      by = g.watch (g.free text unreserved) one.by;
      spelled = λ rest. ap (λ kinds. k.Word (codes "watch") ∷ k.Word text ∷ k.Symbol s.Assign ∷ kinds) (one.spelled rest);
      same = ap (t.watch text) one.same;
      deep = one.deep;
    }
canon_statement (g.unwatch (g.free text unreserved)) = record { by = g.unwatch (g.free text unreserved); spelled = λ rest. refl; same = refl; deep = omega arith }
canon_statement (g.show (g.free text unreserved)) = record { by = g.show (g.free text unreserved); spelled = λ rest. refl; same = refl; deep = omega arith }

shallow : (by : g.Statement) → HasCanonical by
shallow by = let one = canon_statement by in record { canonical = one.by; spelled = one.spelled []; tree = one.same; nest = one.deep }

has_printed : (statement : t.StatementTree) (kinds : List Kind) → HasTokens statement kinds → HasTokens statement (print_statement statement [])
has_printed statement kinds has =
    let one = canon_statement has.by in
    let low = one.deep in
    let limit = has.deep in
    record {
      by = one.by;
      deep = omega arith;
      spelled = ap (λ tree. print_statement tree []) (sym has.tree) ∙ sym (one.spelled []);
      tree = one.same ∙ has.tree;
    }

pub prints_back : PrintsBack
prints_back = record {
  shallow = shallow;
  has = has_printed;
  sound = λ statement sound. has_printed statement sound.kinds sound.spelled;
  formed = λ statement sound. formed_all (print_statement statement []) (statement_printed statement (sound_statement statement sound));
}

-- what is sound keeps its forms, and what keeps its forms is sound where it has tokens
pub keeps_forms : KeepsForms
keeps_forms = record {
  statement = sound_statement;
  literal = sound_literal;
  dump = sound_dump;
  enough = λ statement kinds has formed.
      record { kinds = print_statement statement []; spelled = has_printed statement kinds has; formed = formed_all (print_statement statement []) (statement_printed statement formed) };
}
