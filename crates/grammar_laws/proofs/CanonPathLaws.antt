-- Canonical derivations of labels, paths and literals.
use Rattle.std.proofs.Common.{◌≡◌, ℕ, ◌≤◌, Bool, true, false, List, [], ◌∷◌, map, refl, ap, ◌∙◌, arith}
use Rattle.lorel_trees.specs.Types.{Plain, Kind}
use Rattle.lore_base.specs.Names.{is_identifier}
use Rattle.lore_base.specs.Paths as p
use Rattle.lorel_tokens.specs.declared.token_types.Kind.TheVariants as k
use Rattle.lorel_tokens.specs.declared.token_types.Sign.TheVariants as s
use Rattle.lorel_trees.specs.Trees as t
use Rattle.lorel_trees.specs.Grammar as g
use Rattle.lorel_trees.specs.Repetitions.{spell_each, nest_each}
use Rattle.lorel_trees.specs.Paths.{spell_name, text_of_name, spell_label, text_of_label, spell_alt, trees_alt, nest_alt, spell_choices, trees_choices, nest_choices, spell_seq, tree_seq, nest_seq, spell_parts, trees_parts, nest_parts, spell_part, tree_part, nest_part, spell_base, tree_base, nest_base, spell_path, tree_path, nest_path}
use Rattle.lorel_trees.specs.Literals.{spell_mark, spell_literal, tree_literal, nest_literal, spell_members, trees_members, nest_members, spell_more_members, trees_more_members, nest_more_members}
use Rattle.lorel_trees.specs.Conditions.{spell_operand, tree_operand, nest_operand}
use Rattle.lorel_trees.proofs.AtomLaws.{atom_spelled}
use Rattle.lorel_ast.specs.Printing.{label_token, print_label, print_part, print_alt, print_bars, print_steps, print_rooted, print_literal, print_members, print_more_members, print_operand}

-- a derivation that spells the canonical tokens of a tree, stands for it, and nests no deeper than this
pub record Canon {D T : Type 0} (spell : D → List Kind → List Kind) (tree : D → T) (nest : D → ℕ) (print : T → List Kind → List Kind) (wanted : T) (limit : ℕ) : Type 0 where
  pub by : D
  pub spelled : (rest : List Kind) → spell by rest ≡ print wanted rest
  pub same : tree by ≡ wanted
  pub deep : nest by ≤ limit

abbrev pub flat : {D : Type 0} → D → ℕ
flat by = 0

-- labels
label_by : (is : Bool) (text : List ℕ) → (one : g.Label) × ((rest : List Kind) → spell_label one rest ≡ label_token is text ∷ rest) × (text_of_label one ≡ text)
label_by true text = (g.word text, (λ rest. refl), refl)
label_by false text = (g.quoted text, (λ rest. refl), refl)

pub canon_label : (text : List ℕ) → Canon spell_label text_of_label flat print_label text 0
canon_label text = let found = label_by (is_identifier text) text in record { by = found.0; spelled = found.1; same = found.2; deep = omega arith }

-- a list of what has canonical derivations
pub canon_each : {D T : Type 0} (spell : D → List Kind → List Kind) (tree : D → T) (nest : D → ℕ) (print : T → List Kind → List Kind) (kind : Kind)
    → ((one : D) → Canon spell tree nest print (tree one) (nest one)) → (all : List D)
    → Canon (spell_each kind spell) (map tree) (nest_each nest) (spell_each kind print) (map tree all) (nest_each nest all)
canon_each spell tree nest print kind canon [] = record { by = []; spelled = λ rest. refl; same = refl; deep = omega arith }
canon_each spell tree nest print kind canon (first ∷ others) =
    let one = canon first in
    let more = canon_each spell tree nest print kind canon others in
    record {
      by = one.by ∷ more.by;
      spelled = λ rest. ap (λ kinds. kind ∷ kinds) (one.spelled (spell_each kind spell more.by rest) ∙ ap (print (tree first)) (more.spelled rest));
      same = cc (one.same, more.same);
      deep = let low = one.deep in let also = more.deep in omega arith;
    }

pub canon_labels : (kind : Kind) (labels : List g.Label) → Canon (spell_each kind spell_label) (map text_of_label) (nest_each flat) (spell_each kind print_label) (map text_of_label labels) (nest_each flat labels)
canon_labels kind labels = canon_each spell_label text_of_label flat print_label kind (λ one. canon_label (text_of_label one)) labels

pub name_spelled : (name : g.Name) (rest : List Kind) → spell_name name rest ≡ k.Word (text_of_name name) ∷ rest
name_spelled (g.free text unreserved) rest = refl

-- paths
abbrev pub CanonParts : g.Parts → Type 0
CanonParts parts = Canon spell_parts trees_parts nest_parts print_steps (trees_parts parts) (nest_parts parts)

mutual
  pub canon_alt : (inner : g.Alt) → Canon spell_alt trees_alt nest_alt print_alt (trees_alt inner) (nest_alt inner)
  canon_alt (g.choice first others) =
      let one = canon_seq first in
      let more = canon_choices others in
      record {
        by = g.choice one.by more.by;
        spelled = λ rest. one.spelled (spell_choices more.by rest) ∙ ap (print_part (tree_seq first)) (more.spelled rest);
        same = cc (one.same, more.same);
        deep = let low = one.deep in let also = more.deep in omega arith;
      }

  pub canon_choices : (others : g.Choices) → Canon spell_choices trees_choices nest_choices print_bars (trees_choices others) (nest_choices others)
  canon_choices g.no_choices = record { by = g.no_choices; spelled = λ rest. refl; same = refl; deep = omega arith }
  canon_choices (g.bar first others) =
      let one = canon_seq first in
      let more = canon_choices others in
      record {
        by = g.bar one.by more.by;
        spelled = λ rest. ap (λ kinds. k.Symbol s.Bar ∷ kinds) (one.spelled (spell_choices more.by rest) ∙ ap (print_part (tree_seq first)) (more.spelled rest));
        same = cc (one.same, more.same);
        deep = let low = one.deep in let also = more.deep in omega arith;
      }

  pub canon_seq : (one : g.Seq) → Canon spell_seq tree_seq nest_seq print_part (tree_seq one) (nest_seq one)
  canon_seq (g.sequence first others) =
      let one = canon_part first in
      let more = canon_parts others in
      record {
        by = g.sequence one.by more.by;
        spelled = λ rest. one.spelled (spell_parts more.by rest) ∙ ap (print_part (tree_part first)) (more.spelled rest);
        same = cc (one.same, more.same);
        deep = let low = one.deep in let also = more.deep in omega arith;
      }

  pub canon_parts : (parts : g.Parts) → CanonParts parts
  canon_parts g.no_parts = record { by = g.no_parts; spelled = λ rest. refl; same = refl; deep = omega arith }
  canon_parts (g.part first others) =
      let one = canon_part first in
      let more = canon_parts others in
      record {
        by = g.part one.by more.by;
        spelled = λ rest. one.spelled (spell_parts more.by rest) ∙ ap (print_part (tree_part first)) (more.spelled rest);
        same = cc (one.same, more.same);
        deep = let low = one.deep in let also = more.deep in omega arith;
      }

  pub canon_part : (one : g.Part) → Canon spell_part tree_part nest_part print_part (tree_part one) (nest_part one)
  canon_part (g.once base) = let one = canon_base base in record { by = g.once one.by; spelled = one.spelled; same = one.same; deep = one.deep }
  canon_part (g.question base) =
      let one = canon_base base in
      record { by = g.question one.by; spelled = λ rest. one.spelled (k.Symbol s.Question ∷ rest); same = ap p.opt one.same; deep = one.deep }
  canon_part (g.star base) =
      let one = canon_base base in
      record { by = g.star one.by; spelled = λ rest. one.spelled (k.Symbol s.Star ∷ rest); same = ap p.star one.same; deep = one.deep }
  canon_part (g.plus base) =
      let one = canon_base base in
      record { by = g.plus one.by; spelled = λ rest. one.spelled (k.Symbol s.Plus ∷ rest); same = ap p.plus one.same; deep = one.deep }

  pub canon_base : (base : g.Base) → Canon spell_base tree_base nest_base print_part (tree_base base) (nest_base base)
  canon_base (g.label label) =
      let one = canon_label (text_of_label label) in
      record {
        by = g.label one.by;
        spelled = λ rest. ap (λ kinds. k.Symbol s.Dot ∷ kinds) (one.spelled rest);
        same = ap (λ text. p.step (Plain text)) one.same;
        deep = omega arith;
      }
  canon_base (g.pattern text) = record { by = g.pattern text; spelled = λ rest. refl; same = refl; deep = omega arith }
  canon_base g.hash = record { by = g.hash; spelled = λ rest. refl; same = refl; deep = omega arith }
  canon_base (g.group inner) =
      let one = canon_alt inner in
      record {
        by = g.group one.by;
        spelled = λ rest. ap (λ kinds. k.Symbol s.LeftParen ∷ kinds) (one.spelled (k.Symbol s.RightParen ∷ rest));
        same = ap p.alt one.same;
        deep = let low = one.deep in omega arith;
      }

pub canon_path : (path : g.Path) → Canon spell_path tree_path nest_path print_rooted (tree_path path) (nest_path path)
canon_path (g.rooted name parts) =
    let one = canon_parts parts in
    record {
      by = g.rooted name one.by;
      spelled = λ rest. name_spelled name (spell_parts one.by rest) ∙ ap (λ kinds. k.Word (text_of_name name) ∷ kinds) (one.spelled rest);
      same = ap (λ trees. record { start = text_of_name name; parts = trees }) one.same;
      deep = one.deep;
    }

-- literals
mutual
  pub canon_literal : (literal : g.Literal) → Canon spell_literal tree_literal nest_literal print_literal (tree_literal literal) (nest_literal literal)
  canon_literal (g.local id) = record { by = g.local id; spelled = λ rest. refl; same = refl; deep = omega arith }
  canon_literal (g.atom mark value) =
      record {
        by = g.atom mark value;
        spelled = λ rest. ap (spell_mark mark) (atom_spelled value rest);
        same = refl;
        deep = omega arith;
      }
  canon_literal (g.braces mark inner) =
      let one = canon_members inner in
      record {
        by = g.braces mark one.by;
        spelled = λ rest. ap (λ kinds. spell_mark mark (k.Symbol s.LeftBrace ∷ kinds)) (one.spelled (k.Symbol s.RightBrace ∷ rest));
        same = ap (t.node mark) one.same;
        deep = let low = one.deep in omega arith;
      }

  pub canon_members : (inner : g.Members) → Canon spell_members trees_members nest_members print_members (trees_members inner) (nest_members inner)
  canon_members g.no_members = record { by = g.no_members; spelled = λ rest. refl; same = refl; deep = omega arith }
  canon_members (g.members (g.member label literal) others) =
      let named = canon_label (text_of_label label) in
      let held = canon_literal literal in
      let more = canon_more_members others in
      record {
        by = g.members (g.member named.by held.by) more.by;
        spelled = λ rest. named.spelled (spell_literal held.by (spell_more_members more.by rest))
            ∙ ap (print_label (text_of_label label)) (held.spelled (spell_more_members more.by rest) ∙ ap (print_literal (tree_literal literal)) (more.spelled rest));
        same = cc (named.same, held.same, more.same);
        deep = let low = held.deep in let also = more.deep in omega arith;
      }

  pub canon_more_members : (others : g.MoreMembers) → Canon spell_more_members trees_more_members nest_more_members print_more_members (trees_more_members others) (nest_more_members others)
  canon_more_members g.no_more = record { by = g.no_more; spelled = λ rest. refl; same = refl; deep = omega arith }
  canon_more_members (g.comma (g.member label literal) others) =
      let named = canon_label (text_of_label label) in
      let held = canon_literal literal in
      let more = canon_more_members others in
      record {
        by = g.comma (g.member named.by held.by) more.by;
        spelled = λ rest. ap (λ kinds. k.Symbol s.Comma ∷ kinds) (named.spelled (spell_literal held.by (spell_more_members more.by rest))
            ∙ ap (print_label (text_of_label label)) (held.spelled (spell_more_members more.by rest) ∙ ap (print_literal (tree_literal literal)) (more.spelled rest)));
        same = cc (named.same, held.same, more.same);
        deep = let low = held.deep in let also = more.deep in omega arith;
      }

-- comparisons
pub canon_operand : (side : g.Operand) → Canon spell_operand tree_operand nest_operand print_operand (tree_operand side) (nest_operand side)
canon_operand (g.constant value) = record { by = g.constant value; spelled = atom_spelled value; same = refl; deep = omega arith }
canon_operand (g.reached path) = let one = canon_path path in record { by = g.reached one.by; spelled = one.spelled; same = ap t.at one.same; deep = one.deep }
