-- Steps back along a chain of ranges, put together from the last range on.
use Rattle.std.proofs.Common.{◌≡◌, ℕ, suc, ◌+◌, ◌<◌, ◌≤◌, List, [], ◌∷◌, ◌++◌, length, map, get_or, take, sym, ap, ◌∙◌, arith, append_assoc}
use Rattle.std.proofs.lemmas.List.{take_more, length-take-le, length-map, map-append}
use Rattle.lorel_bound.specs.declared.bound.Range.{Range}
use Rattle.lorel_bound.specs.declared.plans.PlanStep.{PlanStep}
use Rattle.lorel_bound.specs.Bound.{RangeTree, range_tree}
use Rattle.lorel_bound.specs.Plans.{StepTree, step_tree, backward, back_steps}

-- the step against the last range comes first
back_last : (slot at : ℕ) (ranges : List RangeTree) (range : RangeTree) (further : List StepTree) → at ≡ slot + length ranges
    → back_steps slot (ranges ++ range ∷ []) further ≡ backward (at + 1) range.path at ∷ back_steps slot ranges further
back_last slot at [] range further is =
    let here : slot ≡ at = omega (arith, is) in
    let next : suc slot ≡ at + 1 = omega (arith, is) in
    (λ i. backward (next i) range.path (here i) ∷ further)
back_last slot at (first ∷ ranges) range further is =
    back_last (suc slot) at ranges range (backward (suc slot) first.path slot ∷ further) (omega (arith, is))

-- one step more
pub back_more : (steps : List PlanStep) (step : PlanStep) (ranges : List Range) (left place : ℕ) (range : Range) (whole further : List StepTree)
    → left ≡ place + 1 → place < length ranges → range ≡ get_or ranges place range
    → step_tree step ≡ backward (place + 1) (range_tree range).path place
    → map step_tree steps ++ back_steps 0 (map range_tree (take left ranges)) further ≡ whole
    → map step_tree (steps ++ step ∷ []) ++ back_steps 0 (map range_tree (take place ranges)) further ≡ whole
back_more steps step ranges left place range whole further one low is made held =
    let front = map range_tree (take place ranges) in
    let took : take left ranges ≡ take place ranges ++ range ∷ [] =
    ap (λ (n : ℕ). take n ranges) one ∙ take_more ranges place range low ∙ ap (λ (r : Range). take place ranges ++ r ∷ []) (sym is) in
    let trees : map range_tree (take left ranges) ≡ front ++ range_tree range ∷ [] =
    ap (map range_tree) took ∙ map-append range_tree (take place ranges) (range ∷ []) in
    let within : place ≤ length ranges = omega (arith, low) in
    let size : length front ≡ place = length-map (take place ranges) range_tree ∙ length-take-le place ranges within in
    let at : place ≡ 0 + length front = omega (arith, size) in
    let first : back_steps 0 (map range_tree (take left ranges)) further ≡ step_tree step ∷ back_steps 0 front further =
    ap (λ (rs : List RangeTree). back_steps 0 rs further) trees ∙ back_last 0 place front (range_tree range) further at
    ∙ ap (λ (s : StepTree). s ∷ back_steps 0 front further) (sym made) in
    ap (λ (ss : List StepTree). ss ++ back_steps 0 front further) (map-append step_tree steps (step ∷ []))
    ∙ append_assoc (map step_tree steps) (step_tree step ∷ []) (back_steps 0 front further)
    ∙ ap (λ (ss : List StepTree). map step_tree steps ++ ss) (sym first) ∙ held
