-- The lines that first mentions give are those of the guide.
use Rattle.std.proofs.Common.{◌≡◌, ℕ, ◌+◌, ◌-◌, ◌<◌, zero, suc, List, [], ◌∷◌, ◌++◌, length, take, get_or, Option, Some}
use Rattle.std.proofs.Common.{unwrap_or, refl, sym, ap, ◌∙◌, subst, append_assoc, arith, length-append}
use Rattle.std.specs.List.{slice_get, AllZip, flat_map}
use Rattle.std.proofs.lemmas.List.{append-nil, length-map, take_at}
use Rattle.std.proofs.lemmas.Option.{slice_get_within, slice_get-get_or}
use Rattle.dataguide.specs.Guides.{GuideGraph, sets_of}
use Rattle.dataguide.specs.inside.Trails.{start_path, longer}
use Rattle.set_steps.proofs.PlaceLaws.{AllZip-then}
use Rattle.guide_query.specs.Types.{Oid, Label, Edge, Node, GuideNode, Origin, Unmet, Named, Step}
use Rattle.guide_query.specs.GuideLines.{label_text, path_text, size_text, count_line, IsSetLine, AreGuideLines}
use Rattle.guide_query.specs.GuideLines.{IsLabelledGuide}
use Rattle.guide_query.specs.inside.Origins.{AreOrigins}
use Rattle.guide_query.specs.inside.Written.{size_at, path_in, name_text, step_text, node_line, AreWritten}
use Rattle.guide_query.proofs.FirstLaws.{IsFirst, first-is}

flat_push : {X Y : Type 0} (f : X → List Y) (xs : List X) (x : X) → flat_map f (xs ++ x ∷ []) ≡ flat_map f xs ++ f x
flat_push f [] x = append-nil (f x)
flat_push f (y ∷ xs) x = ap (λ l. f y ++ l) (flat_push f xs x) ∙ sym (append_assoc (f y) (flat_map f xs) (f x))

-- a path with one label more
path_more : (name : List ℕ) (texts : List (List ℕ)) (text : List ℕ)
    → path_text name texts ++ 46 ∷ label_text text ≡ path_text name (texts ++ text ∷ [])
path_more name texts text =
    append_assoc name (flat_map (λ label. 46 ∷ label_text label) texts) (46 ∷ label_text text)
    ∙ ap (λ (l : List ℕ). name ++ l) (sym (flat_push (λ label. 46 ∷ label_text label) texts text))

cut_end : (front end : List ℕ) → take (length (front ++ end) - length end) (front ++ end) ≡ front
cut_end front end = take_at front end (length (front ++ end) - length end) (omega (arith, length-append front end))

at_take : {X : Type 0} (k : ℕ) (xs : List X) (i : ℕ) → i < k → slice_get (take k xs) i ≡ slice_get xs i
at_take zero xs i less = absurd (omega (arith, less))
at_take (suc k) [] i less = refl
at_take (suc k) (x ∷ xs) zero less = refl
at_take (suc k) (x ∷ xs) (suc i) less = at_take k xs i (omega (arith, less))

zip_from : {X Y : Type 0} (R : X → Y → Type 0) (xs : List X) (ys : List Y) → length ys ≡ length xs
    → ((k : ℕ) (x : X) → slice_get xs k ≡ Some x → (y : Y) × (slice_get ys k ≡ Some y) × R x y) → AllZip R xs ys
zip_from R [] [] long each = tt
zip_from R [] (y ∷ ys) long each = absurd (omega (arith, long))
zip_from R (x ∷ xs) [] long each = absurd (omega (arith, long))
zip_from R (x ∷ xs) (y ∷ ys) long each = (
  (let first = each zero x refl in
      let both : Some y ≡ Some first.0 = first.1 in
      let same : first.0 ≡ y = cc in
      subst (R x) same first.2),
  zip_from R xs ys (omega (arith, long)) (λ k z at. each (suc k) z at),
)

module _ (guide : GuideGraph) (labels : List (List ℕ)) (names : List (List ℕ × Oid)) (edges : List Edge)
    (is : IsLabelledGuide guide labels names edges)
    (lines : List (List ℕ)) where
  -- the line at a place is that of the set
  record IsLineOf (k : ℕ) (set : List Oid) : Type 0 where
    pub line : List ℕ
    pub at : slice_get lines k ≡ Some line
    pub right : IsSetLine names edges labels set line

  line_by : (k : ℕ) (set : List Oid) (origin : Origin) → IsFirst guide labels names edges is k set origin
      → ((f : ℕ) (front : List Oid) → f < k → slice_get (sets_of guide.nodes) f ≡ Some front → IsLineOf f front)
      → IsSetLine names edges labels set (node_line guide labels (take k lines) origin (length set))
  line_by k set Unmet first earlier = absurd first
  line_by k set (Named place) first earlier = record {
    path = start_path first.entry.0;
    least = first.least;
    texts = [];
    labelled = tt;
    printed = ap (λ (o : Option (List ℕ × Node)). name_text o ++ size_text (length set)) first.at
        ∙ ap (λ (n : List ℕ). n ++ size_text (length set)) (sym (append-nil first.entry.0));
  }
  line_by k set (Step from label) first earlier =
      let before = earlier from.0 first.front first.before first.at in
      let seen : slice_get (take k lines) from.0 ≡ Some before.line = at_take k lines from.0 first.before ∙ before.at in
      let front : path_in (unwrap_or (slice_get (take k lines) from.0) []) (size_at guide.nodes from.0)
      ≡ path_text before.right.path.name before.right.texts =
      ap (λ (o : Option (List ℕ)). path_in (unwrap_or o []) (size_at guide.nodes from.0)) seen
      ∙ ap (λ (s : Option (List Oid)). path_in before.line (length (unwrap_or s []))) first.at
      ∙ ap (λ (l : List ℕ). path_in l (length first.front)) before.right.printed
      ∙ cut_end (path_text before.right.path.name before.right.texts) (size_text (length first.front)) in
      record {
        path = longer before.right.path label;
        least = first.least before.right.path before.right.least;
        texts = before.right.texts ++ first.text ∷ [];
        labelled =
            AllZip-then (λ (text : List ℕ) (l : Label). slice_get labels l.0 ≡ Some text) before.right.texts
            before.right.path.word first.text label
            before.right.labelled first.labelled;
        printed = ap (λ (l : List ℕ). (l ++ step_text (slice_get labels label.0)) ++ size_text (length set)) front
            ∙ ap (λ (o : Option (List ℕ)).
            (path_text before.right.path.name before.right.texts ++ step_text o) ++ size_text (length set))
            first.labelled
            ∙ ap (λ (l : List ℕ). l ++ size_text (length set))
            (path_more before.right.path.name before.right.texts first.text);
      }

  module _ (origins : List Origin)
      (are : AreOrigins guide (record { entries = length guide.entries; nodes = length guide.nodes; edges = 0 })
      origins)
      (written : AreWritten guide labels origins (length guide.nodes) lines) where
    lines_to : (n k : ℕ) (set : List Oid) → k < n → slice_get (sets_of guide.nodes) k ≡ Some set → IsLineOf k set
    lines_to zero k set less at = absurd (omega (arith, less))
    lines_to (suc n) k set less at =
        let within : k < length guide.nodes =
        omega (
          arith,
          slice_get_within (sets_of guide.nodes) k set at,
          length-map guide.nodes (λ (g : GuideNode). g.set),
        ) in
        let there : slice_get origins k ≡ Some (get_or origins k Unmet) =
        slice_get-get_or origins k Unmet (omega (arith, within, are.long)) in
        let first =
        first-is guide labels names edges is k set at (get_or origins k Unmet)
        (are.each k (get_or origins k Unmet) there) in
        record {
          line = node_line guide labels (take k lines) (get_or origins k Unmet) (length set);
          at = written.each k within
              ∙ ap (λ (o : Option Origin). Some (node_line guide labels (take k lines) (unwrap_or o Unmet)
              (size_at guide.nodes k))) there
              ∙ ap (λ (s : Option (List Oid)). Some (node_line guide labels (take k lines) (get_or origins k Unmet)
              (length (unwrap_or s [])))) at;
          right =
              line_by k set (get_or origins k Unmet) first
              (λ f front before here. lines_to n f front (omega (arith, before, less)) here);
        }

    pub lines-are : (new : List (List ℕ)) (last : List ℕ) (count : ℕ) → last ≡ count_line count
        → count ≡ length guide.nodes → new ≡ lines ++ last ∷ []
        → AreGuideLines names edges labels new
    lines-are new last count last_is counted pushed = record {
      sets = sets_of guide.nodes;
      targets = is.ordered.stands.nodes;
      order = is.ordered.order;
      set_lines = lines;
      each =
          zip_from (IsSetLine names edges labels) (sets_of guide.nodes) lines
          (written.long ∙ sym (length-map guide.nodes (λ (g : GuideNode). g.set)))
          (λ k set at. (
          let line = lines_to (k + 1) k set (omega arith) at in
          (line.line, line.at, line.right)));
      are =
          pushed ∙ ap (λ (l : List ℕ). lines ++ l ∷ [])
          (last_is ∙ ap count_line (counted ∙ sym (length-map guide.nodes (λ (g : GuideNode). g.set))));
    }
