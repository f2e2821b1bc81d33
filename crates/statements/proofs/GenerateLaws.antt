-- Generated objects as a load: what refuses them, and what they change.
use Rattle.std.proofs.Common.{◌≡◌, inl, inr, ℕ, ◌+◌, ◌<◌, ◌≤◌, List, [], ◌∷◌, ◌++◌, Option, refl, ap, subst, ◌∙◌, arith}
use Rattle.std.specs.Prelude.{ℤ, pos, codes}
use Rattle.std.proofs.lemmas.List.Elements.{All-contains}
use Rattle.lore_base.specs.Databases.{Database, IsValid}
use Rattle.lore_base.specs.ChangeCauses.{AddsToAtom, HidesChildren}
use Rattle.lore_base.specs.Verdicts.{IsClear, IsToldBy}
use Rattle.lore_base.proofs.MemberLaws.{Contains-none}
use Rattle.lore_base.proofs.VerdictLaws.{clear_both}
use Rattle.list_laws.proofs.MemberLaws.{Contains-from_map}
use Rattle.oem_text.proofs.NumberedLaws.{length-numbered}
use Rattle.lorel_trees.specs.Trees as t
use Rattle.lorel_trees.specs.Trees.{StatementTree}
use Rattle.oem_labels.specs.Labels.{first_uses}
use Rattle.oem_text.specs.Layouts.{edge_from, edges_from}
use Rattle.oem_text.specs.Generated.{generated_values, generated_arcs, generated_labels, generated_layout, IsGenerated, GeneratedCause, generated_order}
use Rattle.oem_text.specs.declared.parts.Part.{Part}
use Rattle.oem_text.proofs.GeneratedPlaces.{generated_length}
use Rattle.statements.specs.Types.{Oid, Edge, Value, Changes, Refusal, SEED, FEWEST_PERSONS, MOST_PERSONS}
use Rattle.statements.specs.Types.refusals
use Rattle.statements.specs.Forms.{AreGenerable}
use Rattle.statements.specs.Effects.{generating}
use Rattle.statements.specs.Statements.{Cause, cause_order}
use Rattle.statements.specs.inside.Listed.{ListsChanges}
use Rattle.statements.specs.inside.Stages.{loading_part, bound_order, fit_order}
use Rattle.statements.proofs.OrderLaws.{AreAlike, told_left, told_right, clear_alike, told_alike}
use Rattle.statements.proofs.CauseLaws.{sizes, late}
use Rattle.statements.proofs.RangeLaws.{generable}
use Rattle.statements.proofs.ExecutionLaws.{same_as}
use Rattle.statements.proofs.LoadLaws.{part_makes}

-- ---- in range
module _ (db : Database) (valid : IsValid db) (seed count : ℕ) (within : AreGenerable (pos seed) (pos count)) where
  abbrev tree : StatementTree
  tree = t.generate (pos seed) (pos count)

  -- objects that are made weren't there
  made_anew : AddsToAtom db.graph (generating db seed count) → ⊥
  made_anew adds =
      let table = db.labels ++ first_uses db.labels generated_labels in
      let arc = Contains-from_map (edge_from db.graph.next table) (generated_arcs count) adds.edge adds.added in
      let number : db.graph.next + arc.0.parent ≡ adds.edge.parent.0 = ap (λ (e : Edge). e.parent.0) arc.2 in
      let old = All-contains (λ (o : Oid × Value). (1 ≤ o.0.0) × (o.0.0 < db.graph.next)) db.graph.objects (adds.edge.parent, adds.value)
      valid.restorable.rooted.well_formed.ordered.objects_numbered adds.valued in
      omega (arith, number, old.1)

  no_value : HidesChildren db.graph (generating db seed count) → ⊥
  no_value hides = Contains-none (hides.oid, hides.value) hides.valued

  binds : IsClear (Cause db tree) bound_order
  binds = (λ h. h, (λ h. elim h [ inl unbound ↦ unbound | inr unknown ↦ unknown ], (λ h. h, (λ h. h, (λ h. h, tt)))))

  abbrev middle : List Refusal
  middle =
      refusals.DuplicateLocal ∷ refusals.UndefinedLocal ∷ refusals.TooManyRows ∷ refusals.NotOne ∷ refusals.AtomicParent
      ∷ refusals.HasChildren ∷ []

  between : IsClear (Cause db tree) middle
  between = (λ h. h, (λ h. h, (λ h. h, (λ h. h, (λ h. made_anew h.1.2, (λ h. no_value h.1.2, tt))))))

  alike : AreAlike (GeneratedCause db.labels db.graph.next count) (Cause db tree) generated_order
  alike =
      let made = length-numbered db.graph.next (generated_values seed count) ∙ generated_length seed count in (
        (λ h. (within, ([], refl, omega (arith, h, made))), λ h. (let over = h.1.2 in omega (arith, over, made))),
        ((λ h. (within, ([], refl, h)), λ h. h.1.2), tt),
      )

  generate_told : (told : Option Refusal) → IsToldBy (GeneratedCause db.labels db.graph.next count) generated_order told
      → IsToldBy (Cause db tree) cause_order told
  generate_told told h =
      told_left (Cause db tree) fit_order (sizes ++ late) told
      (told_right (Cause db tree) bound_order (middle ++ generated_order) told binds
      (told_right (Cause db tree) middle generated_order told between
      (told_alike (GeneratedCause db.labels db.graph.next count) (Cause db tree) generated_order told alike h)))

  generate_clear : IsClear (GeneratedCause db.labels db.graph.next count) generated_order → IsClear (Cause db tree) fit_order
  generate_clear h =
      clear_both (Cause db tree) bound_order (middle ++ generated_order) binds
      (clear_both (Cause db tree) middle generated_order between
      (clear_alike (GeneratedCause db.labels db.graph.next count) (Cause db tree) generated_order alike h))

  -- over labels and a number that are the database's
  module _ (labels : List (List ℕ)) (next : ℕ) (table : labels ≡ db.labels) (number : next ≡ db.graph.next) where
    made_told : (told : Option Refusal) → IsToldBy (GeneratedCause labels next count) generated_order told → IsToldBy (Cause db tree) cause_order told
    made_told told h =
        generate_told told
        (subst (λ (n : ℕ). IsToldBy (GeneratedCause db.labels n count) generated_order told) number
        (subst (λ (l : List (List ℕ)). IsToldBy (GeneratedCause l next count) generated_order told) table h))

    made_clear : IsClear (GeneratedCause labels next count) generated_order → IsClear (Cause db tree) fit_order
    made_clear h =
        generate_clear
        (subst (λ (n : ℕ). IsClear (GeneratedCause db.labels n count) generated_order) number
        (subst (λ (l : List (List ℕ)). IsClear (GeneratedCause l next count) generated_order) table h))

-- ---- by a seed and a number that were tested
module _ (db : Database) (valid : IsValid db) (seed count : ℤ) (own size : ℕ) (is_seed : seed ≡ pos own) (is_count : count ≡ pos size)
    (low : own ≤ SEED) (few : FEWEST_PERSONS ≤ size) (many : size ≤ MOST_PERSONS)
    (labels : List (List ℕ)) (next : ℕ) (table : labels ≡ db.labels) (number : next ≡ db.graph.next) where
  within : AreGenerable (pos own) (pos size)
  within = generable own size low few many

  pub numbers_told : (told : Option Refusal) → IsToldBy (GeneratedCause labels next size) generated_order told
      → IsToldBy (Cause db (t.generate seed count)) cause_order told
  numbers_told told h = rw (is_seed, is_count) (made_told db valid own size within labels next table number told h)

  pub numbers_list : (part : Part) → IsGenerated labels next own size part → IsClear (GeneratedCause labels next size) generated_order
      → (name : List ℕ) → name ≡ codes "People" → (changes : Changes) → changes ≡ loading_part name part
      → ListsChanges db (t.generate seed count) changes
  numbers_list part is clear name named changes made =
      let all = made ∙ ap (λ (n : List ℕ). loading_part n part) named
      ∙ part_makes db (codes "People") labels next table number (generated_values own size) generated_labels
      (λ n l. edges_from n l (generated_layout own size)) part is.made is.added is.labels is.root in
      rw (is_seed, is_count) (record {
        changing = within;
        rows = [];
        are = refl;
        same = same_as (generating db own size) changes all;
        clear = made_clear db valid own size within labels next table number clear;
      })
