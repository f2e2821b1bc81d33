-- What a path spells: each label fits a step of it, and another table of labels spells the same words of labels that fit
-- the same patterns there. Walks: along other edges, and between live objects.
use Rattle.std.proofs.Common.{◌≡◌, ℕ, zero, suc, ◌<◌, inl, inr, List, [], ◌∷◌, ◌++◌, length, ◌+◌, length-append, Some, All, subst, refl, sym, ap, ◌∙◌, arith}
use Rattle.std.specs.List.{Contains, slice_get}
use Rattle.std.proofs.lemmas.List.{get_or_append_left}
use Rattle.std.proofs.lemmas.Option.{slice_get-get_or}
use Rattle.std.proofs.lemmas.List.Elements.{All-nil, All-cons, All-head, All-tail, All-append, All-weaker, All-contains}
use Rattle.view_laws.specs.Types.{Oid, Label, Edge, Pattern}
use Rattle.lore_base.specs.declared.paths.Pattern.TheVariants.{Plain, Wild}
use Rattle.lore_base.specs.Walks.{Walk, edge_of}
use Rattle.lore_base.specs.Paths.{PathTree, PathTrees, step, any, seq, alt, opt, star, plus, none, more, Fits, Times, Spells, SpellInTurn, SomeSpells}
use Rattle.live_views.specs.Concerns.{HasStep, HasStepIn}
use Rattle.list_laws.proofs.MemberLaws.{All-from_members}
use Rattle.lorel_ranges.proofs.ListLaws.{All-parts}

-- ---- each label fits a step
Times-each : (P : Label → Type 0) (Passes : List Label → Type 0) → ((word : List Label) → Passes word → All P word)
    → (count : ℕ) (word : List Label) → Times Passes count word → All P word
Times-each P Passes each zero word h = subst (All P) (sym h) (All-nil P)
Times-each P Passes each (suc count) word h =
    subst (All P) (sym h.2) (All-append P h.0 h.1 (each h.0 h.3) (Times-each P Passes each count h.1 h.4))

mutual
  pub spells_stepped : (labels : List (List ℕ)) (path : PathTree) (word : List Label) → Spells labels path word → All (HasStep labels path) word
  spells_stepped labels (step pattern) word h =
      subst (All (Fits labels pattern)) (sym h.1) (All-cons (Fits labels pattern) h.0 [] h.2 (All-nil (Fits labels pattern)))
  spells_stepped labels any word h = All-from_members (HasStep labels any) word (λ label there. tt)
  spells_stepped labels (seq parts) word h = turns_stepped labels parts word h
  spells_stepped labels (alt parts) word h = some_stepped labels parts word h
  spells_stepped labels (opt part) word (inl empty) = subst (All (HasStep labels part)) (sym empty) (All-nil (HasStep labels part))
  spells_stepped labels (opt part) word (inr h) = spells_stepped labels part word h
  spells_stepped labels (star part) word h =
      Times-each (HasStep labels part) (Spells labels part) (λ w spelled. spells_stepped labels part w spelled) h.0 word h.1
  spells_stepped labels (plus part) word h =
      Times-each (HasStep labels part) (Spells labels part) (λ w spelled. spells_stepped labels part w spelled) (suc h.0) word h.1

  turns_stepped : (labels : List (List ℕ)) (parts : PathTrees) (word : List Label) → SpellInTurn labels parts word → All (HasStepIn labels parts) word
  turns_stepped labels none word h = subst (All (HasStepIn labels none)) (sym h) (All-nil (HasStepIn labels none))
  turns_stepped labels (more part parts) word h =
      subst (All (HasStepIn labels (more part parts))) (sym h.2)
      (All-append (HasStepIn labels (more part parts)) h.0 h.1
      (All-weaker (HasStep labels part) (HasStepIn labels (more part parts)) (λ label fits. inl fits) h.0 (spells_stepped labels part h.0 h.3))
      (All-weaker (HasStepIn labels parts) (HasStepIn labels (more part parts)) (λ label fits. inr fits) h.1 (turns_stepped labels parts h.1 h.4)))

  some_stepped : (labels : List (List ℕ)) (parts : PathTrees) (word : List Label) → SomeSpells labels parts word → All (HasStepIn labels parts) word
  some_stepped labels none word h = absurd h
  some_stepped labels (more part parts) word (inl h) =
      All-weaker (HasStep labels part) (HasStepIn labels (more part parts)) (λ label fits. inl fits) word (spells_stepped labels part word h)
  some_stepped labels (more part parts) word (inr h) =
      All-weaker (HasStepIn labels parts) (HasStepIn labels (more part parts)) (λ label fits. inr fits) word (some_stepped labels parts word h)

-- ---- over another table
Times-other : (P : Label → Type 0) (Passes Others : List Label → Type 0) → ((word : List Label) → All P word → Passes word → Others word)
    → (count : ℕ) (word : List Label) → All P word → Times Passes count word → Times Others count word
Times-other P Passes Others each zero word all h = h
Times-other P Passes Others each (suc count) word all h =
    let both = All-parts P h.0 h.1 (subst (All P) h.2 all) in
    (h.0, h.1, h.2, each h.0 both.0 h.3, Times-other P Passes Others each count h.1 both.1 h.4)

module _ (labels other : List (List ℕ)) where
  -- the label fits the same patterns over the other table
  abbrev pub FitsToo : Label → Type 0
  FitsToo label = (pattern : Pattern) → Fits labels pattern label → Fits other pattern label

  mutual
    pub spells_other : (path : PathTree) (word : List Label) → All FitsToo word → Spells labels path word → Spells other path word
    spells_other (step pattern) word all h =
        (h.0, h.1, All-head FitsToo h.0 [] (subst (All FitsToo) h.1 all) pattern h.2)
    spells_other any word all h = tt
    spells_other (seq parts) word all h = turns_other parts word all h
    spells_other (alt parts) word all h = some_other parts word all h
    spells_other (opt part) word all (inl empty) = inl empty
    spells_other (opt part) word all (inr h) = inr (spells_other part word all h)
    spells_other (star part) word all h =
        (h.0, Times-other FitsToo (Spells labels part) (Spells other part) (λ w every spelled. spells_other part w every spelled) h.0 word all h.1)
    spells_other (plus part) word all h =
        (h.0, Times-other FitsToo (Spells labels part) (Spells other part) (λ w every spelled. spells_other part w every spelled) (suc h.0) word all h.1)

    turns_other : (parts : PathTrees) (word : List Label) → All FitsToo word → SpellInTurn labels parts word → SpellInTurn other parts word
    turns_other none word all h = h
    turns_other (more part parts) word all h =
        let both = All-parts FitsToo h.0 h.1 (subst (All FitsToo) h.2 all) in
        (h.0, h.1, h.2, spells_other part h.0 both.0 h.3, turns_other parts h.1 both.1 h.4)

    some_other : (parts : PathTrees) (word : List Label) → All FitsToo word → SomeSpells labels parts word → SomeSpells other parts word
    some_other none word all h = h
    some_other (more part parts) word all (inl h) = inl (spells_other part word all h)
    some_other (more part parts) word all (inr h) = inr (some_other parts word all h)

-- ---- a table with further labels
slice_get_append : (xs ys : List (List ℕ)) (i : ℕ) → i < length xs → slice_get (xs ++ ys) i ≡ slice_get xs i
slice_get_append xs ys i low =
    let long : i < length (xs ++ ys) = omega (arith, length_more) in
    slice_get-get_or (xs ++ ys) i [] long ∙ ap (λ (t : List ℕ). Some t) (get_or_append_left xs ys [] i low) ∙ sym (slice_get-get_or xs i [] low)
  where
    length_more : length (xs ++ ys) ≡ length xs + length ys
    length_more = length-append xs ys

Fits-same : (labels other : List (List ℕ)) (label : Label) → slice_get labels label.0 ≡ slice_get other label.0 → FitsToo labels other label
Fits-same labels other label same (Plain text) fits = sym same ∙ fits
Fits-same labels other label same (Wild pattern) fits = (fits.0, sym same ∙ fits.1, fits.2)

-- a label of the first table fits the same in both
pub fits_more : (labels new : List (List ℕ)) (label : Label) → label.0 < length labels → FitsToo labels (labels ++ new) label
fits_more labels new label low = Fits-same labels (labels ++ new) label (sym (slice_get_append labels new label.0 low))

pub fits_fewer : (labels new : List (List ℕ)) (label : Label) → label.0 < length labels → FitsToo (labels ++ new) labels label
fits_fewer labels new label low = Fits-same (labels ++ new) labels label (slice_get_append labels new label.0 low)

-- ---- walks
-- what holds of the label of each edge holds of each label that is walked
pub walk_labels : (P : Label → Type 0) (edges : List Edge) → All (λ edge. P edge.label) edges → (x : Oid) (word : List Label) (y : Oid)
    → Walk edges x word y → All P word
walk_labels P edges all x [] y h = All-nil P
walk_labels P edges all x (label ∷ word) y h =
    All-cons P label word (All-contains (λ (edge : Edge). P edge.label) edges (edge_of x label h.0) all h.1) (walk_labels P edges all h.0 word y h.2)

-- a walk stands in other edges that have each of the first with one of its labels
pub walk_over : (edges others : List Edge) (x : Oid) (word : List Label) (y : Oid)
    → All (λ label. (edge : Edge) → edge.label ≡ label → Contains edges edge → Contains others edge) word
    → Walk edges x word y → Walk others x word y
walk_over edges others x [] y each h = h
walk_over edges others x (label ∷ word) y each h =
    let Kept = λ (l : Label). (edge : Edge) → edge.label ≡ l → Contains edges edge → Contains others edge in
    (h.0, All-head Kept label word each (edge_of x label h.0) refl h.1, walk_over edges others h.0 word y (All-tail Kept label word each) h.2)
