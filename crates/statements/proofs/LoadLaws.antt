-- Loads: the part that a literal brings makes the changes of its load, and what refuses it refuses the load.
use Rattle.std.proofs.Common.{◌≡◌, ℕ, List, [], ◌∷◌, ◌++◌, map, Option, refl, ap, subst, ◌∙◌}
use Rattle.lore_base.specs.Walks.{oid_of}
use Rattle.lore_base.specs.Databases.{Database, IsValid}
use Rattle.lore_base.specs.Verdicts.{IsClear, IsToldBy}
use Rattle.lorel_trees.specs.Trees as t
use Rattle.lorel_trees.specs.Trees.{LiteralTree}
use Rattle.oem_labels.specs.Labels.{first_uses}
use Rattle.oem_text.specs.Literals.{bodies, labels_of, edges_of, numbered}
use Rattle.oem_text.specs.Parts.{IsPart}
use Rattle.oem_text.specs.Parts as text
use Rattle.oem_text.specs.declared.parts.Part.{Part}
use Rattle.statements.specs.Types.{Edge, Value, Changes, Refusal}
use Rattle.statements.specs.Effects.{making, loading}
use Rattle.statements.specs.Statements.{Cause, cause_order}
use Rattle.statements.specs.inside.Listed.{ListsChanges}
use Rattle.statements.specs.inside.Stages.{loading_part, fit_order}
use Rattle.statements.proofs.CauseLaws.{load_told, load_clear}
use Rattle.statements.proofs.ExecutionLaws.{same_as}

-- objects with these values and edges between them, numbered and labelled by a number and labels that are the database's
pub part_makes : (db : Database) (name : List ℕ) (labels : List (List ℕ)) (next : ℕ) → labels ≡ db.labels → next ≡ db.graph.next
    → (values : List Value) (texts : List (List ℕ)) (edges_by : ℕ → List (List ℕ) → List Edge) (part : Part)
    → part.made ≡ numbered next values → part.added ≡ edges_by next (labels ++ part.labels) → part.labels ≡ first_uses labels texts
    → part.root ≡ oid_of next → loading_part name part ≡ making db name values texts (edges_by db.graph.next)
part_makes db name labels next table number values texts edges_by part is_made is_added is_labels is_root =
    let made : part.made ≡ numbered db.graph.next values = is_made ∙ ap (λ (n : ℕ). numbered n values) number in
    let new : part.labels ≡ first_uses db.labels texts = is_labels ∙ ap (λ (l : List (List ℕ)). first_uses l texts) table in
    let added : part.added ≡ edges_by db.graph.next (db.labels ++ first_uses db.labels texts) =
    is_added
    ∙ ap (λ (n : ℕ). edges_by n (labels ++ part.labels)) number
    ∙ ap (λ (l : List (List ℕ)). edges_by db.graph.next (l ++ part.labels)) table
    ∙ ap (λ (l : List (List ℕ)). edges_by db.graph.next (db.labels ++ l)) new in
    let root : part.root ≡ oid_of db.graph.next = is_root ∙ ap oid_of number in
    λ i. record {
      made = made i;
      values = [];
      added = added i;
      removed = [];
      named = (name, root i) ∷ [];
      unnamed = [];
      labels = new i;
    }

module _ (db : Database) (valid : IsValid db) (name : List ℕ) (literal : LiteralTree) (labels : List (List ℕ)) (next : ℕ)
    (table : labels ≡ db.labels) (number : next ≡ db.graph.next) where
  pub part_told : (told : Option Refusal) → IsToldBy (text.PartCause labels next literal) text.part_order told → IsToldBy (Cause db (t.load name literal)) cause_order told
  part_told told h =
      load_told db valid name literal told
      (subst (λ (n : ℕ). IsToldBy (text.PartCause db.labels n literal) text.part_order told) number
      (subst (λ (l : List (List ℕ)). IsToldBy (text.PartCause l next literal) text.part_order told) table h))

  part_clear : IsClear (text.PartCause labels next literal) text.part_order → IsClear (Cause db (t.load name literal)) fit_order
  part_clear h =
      load_clear db valid name literal
      (subst (λ (n : ℕ). IsClear (text.PartCause db.labels n literal) text.part_order) number
      (subst (λ (l : List (List ℕ)). IsClear (text.PartCause l next literal) text.part_order) table h))

  pub part_lists : (part : Part) → IsPart labels next literal part → IsClear (text.PartCause labels next literal) text.part_order
      → (changes : Changes) → changes ≡ loading_part name part → ListsChanges db (t.load name literal) changes
  part_lists part is clear changes made = record {
    changing = tt;
    rows = [];
    are = refl;
    same = same_as (loading db name literal) changes (made
        ∙ part_makes db name labels next table number (map (λ body. body.value) (bodies literal)) (labels_of literal)
        (λ n l. edges_of n l literal) part is.made is.added is.labels is.root);
    clear = part_clear clear;
  }
