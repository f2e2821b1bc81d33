-- Binding a condition: by the form of the condition, and one path.
use Rattle.std.proofs.Common.{◌≡◌, ℕ, suc, ◌+◌, ◌<◌, ◌≤◌, arith, List, [], ◌∷◌, ◌++◌, length, take, drop, map, Bor, subst, sym, ap, ◌∙◌}
use Rattle.std.specs.List.{AllZip}
use Rattle.std.proofs.lemmas.List.{drop-map}
use Rattle.std.specs.List.{take-map}
use Rattle.std.proofs.Math.Seq.{drop-cons}
use Rattle.lore_base.specs.declared.paths.Path.{Path}
use Rattle.lore_base.specs.Paths.{PathTree, path_tree, seq, trees_of}
use Rattle.lorel_trees.specs.declared.rooted_paths.Rooted.{Rooted}
use Rattle.lorel_trees.specs.declared.conditions.Cond.{Cond, Exists, ForAll, Compare, Same}
use Rattle.lorel_trees.specs.declared.conditions.Cond.TheOpen as layer
use Rattle.lorel_trees.specs.declared.conditions.Cond.TheVariants.{rolls-Compare, rolls-Same}
use Rattle.lorel_trees.specs.declared.conditions.Cond.TheFolds.{fold-roll-Cond}
use Rattle.lorel_trees.specs.Trees as t
use Rattle.lorel_trees.specs.Trees.{CondTree, cond_tree, rooted_tree, operand_tree, cond_step, conds_step}
use Rattle.lorel_bind.specs.Types.{BoundStart, NESTING}
use Rattle.lorel_ranges.specs.Places as p
use Rattle.lorel_ranges.specs.Places.{Scope, place_of}
use Rattle.lorel_bound.specs.Conditions.{CondOf, exists, for_all}
use Rattle.lorel_ranges.specs.Conditions.{cond_in}
use Rattle.lorel_ranges.specs.Ranges.{PlacedRange, IsFixed, places}
use Rattle.lorel_bound.specs.Bound as b
use Rattle.lorel_bound.specs.Bound.{BoundPathTree, bound_path, bound_cond}
use Rattle.lorel_bind.specs.Bindings.{IsBoundStart, IsBoundPath, Correspond}
use Rattle.lorel_ranges.specs.Texts.{depth_of_all}
use Rattle.lorel_ranges.specs.Scopes.{enclosed, IsScope, names_of}
use Rattle.lorel_ranges.specs.Views.{root_tree, place_tree, place_trees, prefix_of, ranges_of, texts}
use Rattle.lorel_bind.specs.inside.Slots.{CanStartAny, StartsAny, CanBind}
use Rattle.lorel_bind.specs.inside.Binders.{Binds, BindsRooted, BindsCond, BindsEach}
use Rattle.lorel_bind.specs.declared.conditions.Binder.{Binder}
use Rattle.lorel_ranges.specs.declared.places.Place.{Place}
use Rattle.lorel_bound.specs.declared.conditions.BoundPath.{BoundPath}
use Rattle.lorel_bound.specs.declared.conditions.BoundCond.{BoundCond}
use Rattle.lorel_bound.specs.declared.conditions.BoundCond.TheViews as v
use Rattle.lorel_ranges.proofs.PlaceLaws.{place_from}
use Rattle.lorel_bound.proofs.BoundLaws.{exists_cond, for_all_cond}
use Rattle.lorel_ranges.proofs.TextLaws.{cond_in-body, exists_tree, for_all_tree}

-- ---- the plain data of conditions by their forms
pub compare_tree : (left op right : _) → cond_tree (Compare left op right) ≡ t.compare (operand_tree left) op (operand_tree right)
compare_tree left op right =
    ap cond_tree (sym (rolls-Compare left op right)) ∙ fold-roll-Cond CondTree (List CondTree) cond_step conds_step (layer.Compare left op right)

pub same_tree : (left right : _) → cond_tree (Same left right) ≡ t.same (rooted_tree left) (rooted_tree right)
same_tree left right =
    ap cond_tree (sym (rolls-Same left right)) ∙ fold-roll-Cond CondTree (List CondTree) cond_step conds_step (layer.Same left right)

abbrev BoundTree : Type 0
BoundTree = CondOf BoundPathTree

-- behind the condition that is read next the others nest no deeper
pub deep_read : (conds : List Cond) (around i : ℕ) (cond : Cond) → i < length conds
    → around + depth_of_all (t.conds_from (map cond_tree (drop i conds))) ≤ NESTING
    → around + depth_of_all (t.conds_from (map cond_tree (drop (i + 1) conds))) ≤ NESTING
deep_read conds around i cond low deep =
    let whole = ap (λ (cs : List Cond). depth_of_all (t.conds_from (map cond_tree cs))) (drop-cons conds i cond low) in
    let next : suc i ≡ i + 1 = omega arith in
    subst (λ (n : ℕ). around + depth_of_all (t.conds_from (map cond_tree (drop n conds))) ≤ NESTING) next
    (omega (arith, whole))

module _ (binder : Binder) (around : List (Bor (List ℕ))) where
  -- ---- quantifiers
  pub bound_exists : (inner : List (Bor (List ℕ))) (cond : Cond) (variable path body : _) (read : Cond) (bound : BoundPath) (inside : _) (made whole_made : BoundCond)
      → cond ≡ Exists variable path body → whole_made ≡ v.Exists bound inside → texts inner ≡ texts around ++ variable ∷ [] → read ≡ body.value → inside.value ≡ made
      → BindsRooted binder around (rooted_tree path) (bound_path bound) → BindsCond binder inner (cond_tree read) (bound_cond made)
      → BindsCond binder around (cond_tree cond) (bound_cond whole_made)
  bound_exists inner cond variable path body read bound inside made whole_made is is_made more whole kept first second plain scope serves =
      let within = enclosed 0 (texts around) scope in
      let text : cond_tree cond ≡ t.exists variable (rooted_tree path) (cond_tree read) =
      ap cond_tree is ∙ exists_tree variable path body ∙ ap (λ (c : Cond). t.exists variable (rooted_tree path) (cond_tree c)) (sym whole) in
      let form : bound_cond whole_made ≡ exists (bound_path bound) (bound_cond made) =
      exists_cond whole_made made bound inside is_made (sym kept) in
      subst (λ (tree : CondTree). Correspond (Binds binder plain) (cond_in within (length around) tree) (bound_cond whole_made)) (sym text)
      (subst (λ (c : BoundTree). Correspond (Binds binder plain) (cond_in within (length around) (t.exists variable (rooted_tree path) (cond_tree read))) c) (sym form) (
        first plain scope serves,
        subst (λ c. Correspond (Binds binder plain) c (bound_cond made)) (cond_in-body around inner variable scope (cond_tree read) more)
            (second plain scope serves),
      ))

  pub bound_for_all : (inner : List (Bor (List ℕ))) (cond : Cond) (variable path body : _) (read : Cond) (bound : BoundPath) (inside : _) (made whole_made : BoundCond)
      → cond ≡ ForAll variable path body → whole_made ≡ v.ForAll bound inside → texts inner ≡ texts around ++ variable ∷ [] → read ≡ body.value → inside.value ≡ made
      → BindsRooted binder around (rooted_tree path) (bound_path bound) → BindsCond binder inner (cond_tree read) (bound_cond made)
      → BindsCond binder around (cond_tree cond) (bound_cond whole_made)
  bound_for_all inner cond variable path body read bound inside made whole_made is is_made more whole kept first second plain scope serves =
      let within = enclosed 0 (texts around) scope in
      let text : cond_tree cond ≡ t.for_all variable (rooted_tree path) (cond_tree read) =
      ap cond_tree is ∙ for_all_tree variable path body ∙ ap (λ (c : Cond). t.for_all variable (rooted_tree path) (cond_tree c)) (sym whole) in
      let form : bound_cond whole_made ≡ for_all (bound_path bound) (bound_cond made) =
      for_all_cond whole_made made bound inside is_made (sym kept) in
      subst (λ (tree : CondTree). Correspond (Binds binder plain) (cond_in within (length around) tree) (bound_cond whole_made)) (sym text)
      (subst (λ (c : BoundTree). Correspond (Binds binder plain) (cond_in within (length around) (t.for_all variable (rooted_tree path) (cond_tree read))) c) (sym form) (
        first plain scope serves,
        subst (λ c. Correspond (Binds binder plain) c (bound_cond made)) (cond_in-body around inner variable scope (cond_tree read) more)
            (second plain scope serves),
      ))

  -- ---- members of an `or` or `and`
  pub bound_each : (conds : List CondTree) (bound : List BoundTree) → AllZip (BindsCond binder around) conds bound
      → BindsEach binder around (t.conds_from conds) (b.conds_from bound)
  bound_each [] [] pairs plain scope serves = tt
  bound_each [] (c ∷ bound) pairs plain scope serves = absurd pairs
  bound_each (cond ∷ conds) [] pairs plain scope serves = absurd pairs
  bound_each (cond ∷ conds) (c ∷ bound) pairs plain scope serves = (pairs.0 plain scope serves, bound_each conds bound pairs.1 plain scope serves)

  -- ---- a path
  -- what is left is bound behind the longest prefix that is a range
  pub bound_rooted : (path : Rooted) (place prefix : Place) (len : ℕ) (start : BoundStart) (rest : Path)
      → ((scope : Scope) → IsScope (names_of binder.variables.now) scope → place_tree place ≡ place_of (enclosed 0 (texts around) scope) (rooted_tree path))
      → ((ranges : List PlacedRange) → places ranges ≡ place_trees binder.plain.now
      → IsFixed ranges (place_tree place) (prefix_of len (place_tree place)) (drop len (place_tree place).parts))
      → prefix.root ≡ place.root → prefix.parts.now ≡ take len place.parts.now
      → path_tree rest ≡ seq (trees_of (map path_tree (drop len place.parts.now)))
      → StartsAny binder.slots.now.names.now (ranges_of binder.slots.now.fused.items) (place_tree prefix) start
      → BindsRooted binder around (rooted_tree path) (bound_path (record { start = start; rest = rest }))
  bound_rooted path place prefix len start rest is fixed root parts ends starts plain scope serves can =
      let names = binder.slots.now.names.now in
      let fused = ranges_of binder.slots.now.fused.items in
      let here = is scope serves.known in
      let is_fixed = fixed plain serves.places in
      let at : place_tree prefix ≡ prefix_of len (place_tree place) =
      place_from (place_tree prefix) (prefix_of len (place_tree place)) (ap root_tree root)
      (ap (map path_tree) parts ∙ sym (take-map path_tree len place.parts.now)) in
      let has = subst (CanBind names fused plain) (sym here) can (prefix_of len (place_tree place)) (drop len (place_tree place).parts) is_fixed in
      subst (λ (p : p.Place). IsBoundPath names plain fused p (bound_path (record { start = start; rest = rest }))) here (record {
        fixed = prefix_of len (place_tree place);
        rest = drop len (place_tree place).parts;
        is_fixed = is_fixed;
        begins = subst (λ (p : p.Place). IsBoundStart names fused p start) at (starts (subst (CanStartAny names fused) (sym at) has));
        goes_on = ends ∙ ap (λ (ps : List PathTree). seq (trees_of ps)) (sym (drop-map path_tree len place.parts.now));
      })
