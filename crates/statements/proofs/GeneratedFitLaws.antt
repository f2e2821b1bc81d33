-- What is generated fits the database: its objects are numbered from the next number on, its edges join them, and its
-- labels are formed, where numbers and labels are left for it.
use Rattle.std.proofs.Common.{ℕ, ◌+◌, ◌<◌, ◌≤◌, List, [], ◌∷◌, ◌++◌, length, refl, arith, inl, inr}
use Rattle.std.specs.Prelude.{codes}
use Rattle.std.proofs.lemmas.List.Elements.{All-nil, All-cons, All-weaker}
use Rattle.oem_text.proofs.NumberedLaws.{numbered_from}
use Rattle.oem_labels.proofs.LabelLaws.{first_uses_cover}
use Rattle.lore_base.specs.Names.{IsName}
use Rattle.lore_base.specs.Walks.{oid_of}
use Rattle.lore_base.specs.Databases.{Database, IsValid, IsLinked}
use Rattle.lore_base.specs.ChangeSets.{IsAtHand, IsComplexThen, Fits}
use Rattle.oem_labels.specs.Labels.{first_uses}
use Rattle.oem_text.specs.Literals.{numbered}
use Rattle.oem_text.specs.Layouts.{edges_from}
use Rattle.oem_text.specs.Generated.{generated_values, generated_labels, generated_layout}
use Rattle.oem_text.proofs.GeneratedSound.{generated_sound, labels_formed, numbered_linked}
use Rattle.statements.specs.Types.{Oid, Edge, LABELS, NEXT_NUMBER, FEWEST_PERSONS, MOST_PERSONS}
use Rattle.statements.specs.Effects.{generating}
use Rattle.statements.proofs.LabelFitLaws.{labels_come_new, labels_come_once, labels_come_formed}
use Rattle.statements.proofs.FitLaws.{one_name, at_most, growing_fits}

people_named : IsName (codes "People")
people_named = record { identifier = (refl, refl); unreserved = refl; sized = omega arith }

pub generated_fits : (db : Database) → IsValid db → (seed count : ℕ) → FEWEST_PERSONS ≤ count → count ≤ MOST_PERSONS
    → (NEXT_NUMBER < db.graph.next + length (numbered db.graph.next (generated_values seed count)) → ⊥)
    → (LABELS < length db.labels + length (first_uses db.labels generated_labels) → ⊥) → Fits db (generating db seed count)
generated_fits db valid seed count least most unspent few =
    let values = generated_values seed count in
    let made = numbered db.graph.next values in
    let new = first_uses db.labels generated_labels in
    let table = db.labels ++ new in
    let laid = generated_layout seed count in
    let added = edges_from db.graph.next table laid in
    let changes = generating db seed count in
    let root : List ℕ × Oid = (codes "People", oid_of db.graph.next) in
    let sound = numbered_linked db.graph.next table laid (first_uses_cover db.labels generated_labels) (generated_sound seed count least most) in
    growing_fits db valid made added (root ∷ []) new (numbered_from db.graph.next values)
    (at_most (db.graph.next + length made) NEXT_NUMBER unspent) sound.sized (one_name (codes "People") (oid_of db.graph.next))
    (All-cons (λ (entry : List ℕ × Oid). IsName entry.0 × IsAtHand db.graph changes entry.1) root [] (people_named, inr sound.root)
    (All-nil (λ (entry : List ℕ × Oid). IsName entry.0 × IsAtHand db.graph changes entry.1)))
    (All-weaker (IsLinked made) (λ (edge : Edge). IsComplexThen db.graph.objects changes edge.parent × IsAtHand db.graph changes edge.child)
    (λ edge linked. (inl linked.parent, inr linked.child)) added sound.linked)
    (labels_come_new db.labels generated_labels valid.restorable.labels_distinct) (labels_come_once db.labels generated_labels valid.restorable.labels_distinct)
    (labels_come_formed db.labels generated_labels labels_formed) (at_most (length db.labels + length new) LABELS few) sound.labelled
