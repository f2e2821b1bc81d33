-- Whether a change concerns a select, told by what the select looks at and what the change touches.
use Rattle.std.proofs.Common.{◌≡◌, ℕ, ◌⊎◌, inl, inr, ◌↔◌, Bool, IsTrue, Bor, List, ◌++◌, Some, refl, sym, ap, subst, ◌∙◌}
use Rattle.std.specs.List.{Contains, slice_get}
use Rattle.std.proofs.lemmas.List.Elements.{Contains-append_left, Contains-append_right, Contains-append_cases}
use Rattle.lore_base.specs.declared.paths.Pattern.TheVariants.{Plain, Wild}
use Rattle.lore_base.specs.ChangeSets.{IsBound}
use Rattle.lore_base.specs.Paths.{Fits}
use Rattle.lorel_trees.specs.Trees.{SelectTree}
use Rattle.lorel_ranges.specs.Views.{texts}
use Rattle.oem_labels.specs.Labels.{TextFits}
use Rattle.live_views.specs.Types.{Label, Edge, Pattern, Delta}
use Rattle.live_views.specs.Concerns.{IsTurned, Concerns}
use Rattle.live_views.specs.inside.Looks.{IsLookOf}
use Rattle.live_views.specs.inside.Touched.{TellsTouched}
use Rattle.live_views.specs.declared.steps.StepPatterns.{StepPatterns}
use Rattle.live_views.specs.declared.looks.Looks.{Looks}
use Rattle.live_views.specs.declared.touched.Touched.{Touched}

-- ---- what the program asks
-- one of the names goes or comes
abbrev pub AsksNames : List (List ℕ) → Delta → Type 0
AsksNames starts delta =
    (name : List ℕ) × Contains starts name × (IsBound delta.names_gone name ⊎ IsBound delta.names_come name)

-- a step takes each label and there is an edge, or a step takes one of the texts of labels
abbrev pub AsksEdges : StepPatterns → Bool → List (Bor (List ℕ)) → Type 0
AsksEdges steps edges labels = (IsTrue steps.any × IsTrue edges)
    ⊎ ((pattern : Pattern) × Contains steps.patterns pattern
    × ((text : List ℕ) × Contains (texts labels) text × TextFits pattern text))

abbrev pub Asks : Looks → Touched → Type 0
Asks looks touched = AsksNames looks.starts touched.delta.now
    ⊎ (AsksEdges looks.steps touched.edges touched.texts.items ⊎ (IsTrue looks.compares × IsTrue touched.values))

-- what is left of three where neither of two holds
pub last_asked : (Names Edges Values : Type 0) → Names ⊎ (Edges ⊎ Values) → (Names → ⊥) → (Edges → ⊥) → Values
last_asked Names Edges Values (inl names) none never = absurd (none names)
last_asked Names Edges Values (inr (inl edges)) none never = absurd (never edges)
last_asked Names Edges Values (inr (inr values)) none never = values

-- ---- a label fits by its text
fits_by_text : (labels : List (List ℕ)) (pattern : Pattern) (label : Label) (text : List ℕ) → slice_get labels label.0 ≡ Some text
    → TextFits pattern text → Fits labels pattern label
fits_by_text labels (Plain own) label text is same = is ∙ ap (λ (t : List ℕ). Some t) (sym same)
fits_by_text labels (Wild pattern) label text is matched = (text, is, matched)

text_of_fit : (labels : List (List ℕ)) (pattern : Pattern) (label : Label) → Fits labels pattern label
    → (text : List ℕ) × (slice_get labels label.0 ≡ Some text) × TextFits pattern text
text_of_fit labels (Plain own) label is = (own, is, refl)
text_of_fit labels (Wild pattern) label h = h

-- ---- both say the same
module _ (query : SelectTree) (labels : List (List ℕ)) (delta : Delta) (looks : Looks) (touched : Touched)
    (of : IsLookOf query looks) (by : TellsTouched labels delta touched) where
  edges_told : AsksEdges looks.steps touched.edges touched.texts.items → Concerns labels query delta
  edges_told (inl both) =
      let some = by.edges.0 both.1 in
      inr (inl (some.0, some.1, (of.steps labels some.0.label).0 (inl both.0)))
  edges_told (inr (pattern, at, (text, there, fits))) =
      let some = (by.texts text).0 there in
      inr (inl (
        some.0,
        Contains-append_cases delta.edges_gone delta.edges_come some.0 some.1,
        (of.steps labels some.0.label).0 (inr (pattern, at, fits_by_text labels pattern some.0.label text some.2 fits)),
      ))

  among_turned : (edge : Edge) → IsTurned delta edge → Contains (delta.edges_gone ++ delta.edges_come) edge
  among_turned edge (inl gone) = Contains-append_left delta.edges_gone delta.edges_come edge gone
  among_turned edge (inr come) = Contains-append_right delta.edges_gone delta.edges_come edge come

  told : Asks looks touched → Concerns labels query delta
  told (inl (name, at, turned)) =
      inl (name, (of.starts name).0 at, subst (λ (d : Delta). IsBound d.names_gone name ⊎ IsBound d.names_come name) by.is turned)
  told (inr (inl edges)) = edges_told edges
  told (inr (inr (compares, values))) = inr (inr (of.compares.0 compares, by.values.0 values))

  asked : Concerns labels query delta → Asks looks touched
  asked (inl (name, start, turned)) =
      inl (name, (of.starts name).1 start, subst (λ (d : Delta). IsBound d.names_gone name ⊎ IsBound d.names_come name) (sym by.is) turned)
  asked (inr (inl (edge, turned, stepped))) = elim ((of.steps labels edge.label).1 stepped) [
    | inl any ↦ inr (inl (inl (any, by.edges.1 (edge, turned))))
    | inr some ↦
        let text = text_of_fit labels some.0 edge.label some.2 in
        inr (inl (inr (some.0, some.1, (text.0, (by.texts text.0).1 (edge, among_turned edge turned, text.1), text.2))))
  ]
  asked (inr (inr (compares, changed))) = inr (inr (of.compares.1 compares, by.values.1 changed))

  pub asks_whether_concerned : Asks looks touched ↔ Concerns labels query delta
  asks_whether_concerned = (told, asked)
