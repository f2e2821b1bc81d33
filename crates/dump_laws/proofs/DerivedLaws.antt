-- A dump tree whose texts and numbers keep their forms has a derivation that spells its canonical tokens.
use Rattle.std.proofs.Common.{◌≡◌, ℕ, List, [], ◌∷◌, codes, map, All, refl, ap, ◌∙◌}
use Rattle.std.proofs.lemmas.List.Elements.{All-head, All-tail}
use Rattle.dump_laws.specs.Types.{Oid, Kind, DumpTree}
use Rattle.dump_laws.specs.Types.kinds as k
use Rattle.lorel_trees.specs.Grammar as g
use Rattle.lorel_trees.specs.Repetitions.{spell_each}
use Rattle.lorel_trees.specs.Paths.{spell_label, text_of_label}
use Rattle.lorel_trees.specs.Statements.{spell_mode, spell_oid, spell_dump_name, entry_of_name, spell_dump_edge, entry_of_edge, spell_dump_names, spell_dump_objects, spell_dump_edges, spell_dump_text, tree_dump_text}
use Rattle.lorel_trees.specs.Formed.{IsFormedName, IsFormedEdge, IsFormedDump}
use Rattle.lore_base.specs.Names.{IsLabel}
use Rattle.lorel_ast.specs.Printing.{print_label, print_dump_labels, print_dump_name, print_dump_names, print_dump_edge, print_dump}
use Rattle.grammar_laws.proofs.CanonPathLaws.{canon_label}

-- a derivation that spells the canonical tokens of this, and stands for it
pub record IsDerived {D T : Type 0} (spell : D → List Kind → List Kind) (tree : D → T) (print : T → List Kind → List Kind) (wanted : T) : Type 0 where
  pub by : D
  pub spelled : (rest : List Kind) → spell by rest ≡ print wanted rest
  pub same : tree by ≡ wanted

each_derived : {D T : Type 0} (spell : D → List Kind → List Kind) (tree : D → T) (print : T → List Kind → List Kind) (kind : Kind) (Is : T → Type 0)
    → ((one : T) → Is one → IsDerived spell tree print one) → (all : List T) → All Is all
    → IsDerived (spell_each kind spell) (map tree) (spell_each kind print) all
each_derived spell tree print kind Is derived [] are = record { by = []; spelled = λ rest. refl; same = refl }
each_derived spell tree print kind Is derived (first ∷ others) are =
    let one = derived first (All-head Is first others are) in
    let more = each_derived spell tree print kind Is derived others (All-tail Is first others are) in
    record {
      by = one.by ∷ more.by;
      spelled = λ rest. ap (λ kinds. kind ∷ kinds) (one.spelled (spell_each kind spell more.by rest) ∙ ap (print first) (more.spelled rest));
      same = cc (one.same, more.same);
    }

label_derived : (text : List ℕ) → IsLabel text → IsDerived spell_label text_of_label print_label text
label_derived text is = let one = canon_label text in record { by = one.by; spelled = one.spelled; same = one.same }

name_derived : (entry : List ℕ × Oid) → IsFormedName entry → IsDerived spell_dump_name entry_of_name print_dump_name entry
name_derived (text, oid) (named, fits) = record { by = (g.free text named.unreserved, oid); spelled = λ rest. refl; same = refl }

edge_derived : (entry : Oid × List ℕ × Oid) → IsFormedEdge entry → IsDerived spell_dump_edge entry_of_edge print_dump_edge entry
edge_derived (parent, text, child) is =
    let one = canon_label text in
    record {
      by = (parent, one.by, child);
      spelled = λ rest. ap (spell_oid parent) (one.spelled (spell_oid child rest));
      same = ap (λ text. (parent, text, child)) one.same;
    }

-- with these labels, names and edges in place of its own
abbrev with_lists : DumpTree → List (List ℕ) → List (List ℕ × Oid) → List (Oid × List ℕ × Oid) → DumpTree
with_lists text labels names edges = record {
  version = text.version;
  next = text.next;
  nodes = text.nodes;
  mode = text.mode;
  labels = labels;
  names = names;
  objects = text.objects;
  edges = edges;
}

pub dump_derived : (text : DumpTree) → IsFormedDump text → IsDerived spell_dump_text tree_dump_text print_dump text
dump_derived text is =
    let labels = each_derived spell_label text_of_label print_label (k.Word (codes "label")) IsLabel label_derived text.labels is.labels in
    let names = each_derived spell_dump_name entry_of_name print_dump_name (k.Word (codes "name")) IsFormedName name_derived text.names is.names in
    let edges = each_derived spell_dump_edge entry_of_edge print_dump_edge (k.Word (codes "edge")) IsFormedEdge edge_derived text.edges is.edges in
    record {
      by = g.dump_text text.version text.next text.nodes text.mode labels.by names.by text.objects edges.by;
      spelled = λ rest.
          let end = k.Word (codes "end") ∷ rest in
          let behind = spell_dump_objects text.objects (spell_dump_edges edges.by end) in
          ap (λ kinds. k.Word (codes "oem") ∷ k.Number text.version ∷ k.Word (codes "next") ∷ k.Number text.next ∷ k.Word (codes "nodes") ∷ k.Number text.nodes ∷ k.Word (codes "plan") ∷ spell_mode text.mode kinds)
          (labels.spelled (spell_dump_names names.by behind) ∙ ap (print_dump_labels text.labels) (names.spelled behind
          ∙ ap (λ kinds. print_dump_names text.names (spell_dump_objects text.objects kinds)) (edges.spelled end)));
      same =
          ap (λ l. with_lists text l (map entry_of_name names.by) (map entry_of_edge edges.by)) labels.same
          ∙ ap (λ l. with_lists text text.labels l (map entry_of_edge edges.by)) names.same
          ∙ ap (λ l. with_lists text text.labels text.names l) edges.same;
    }
