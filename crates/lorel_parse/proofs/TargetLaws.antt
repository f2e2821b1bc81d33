-- The target of `+=` and `-=`: what is read is the target and the label that the grammar derives.
use Rattle.std.proofs.Common.{◌≡◌, ℕ, ◌≤◌, List, [], ◌∷◌, ◌++◌, Option, Some, None, refl, ap, sym, ◌∙◌, arith}
use Rattle.std.specs.Prelude.{option_map}
use Rattle.lorel_terms.specs.Types.{Plain, Wild, Kind}
use Rattle.lore_base.specs.Paths.{PathTree, step, any, seq, alt, opt, star, plus}
use Rattle.lorel_tokens.specs.declared.token_types.Kind.TheVariants as k
use Rattle.lorel_tokens.specs.declared.token_types.Sign.TheVariants as s
use Rattle.lorel_trees.specs.Grammar as g
use Rattle.lorel_trees.specs.Trees.{RootedTree}
use Rattle.lorel_trees.specs.Paths.{spell_label, text_of_label, spell_path, tree_path, nest_path}
use Rattle.lorel_trees.proofs.TargetLaws.{longer_path, is_joined, splits}
use Rattle.lorel_terms.specs.Outcomes.{Outcome}
use Rattle.lorel_terms.specs.Paths.{rooted}
use Rattle.lorel_parse.specs.inside.Targets.{plain_label, split_last, aimed}
use Rattle.lorel_terms.proofs.EndLaws.{EndsPath}
use Rattle.lorel_terms.proofs.PathCompleteLaws.{complete_path}
use Rattle.lorel_terms.proofs.PathSoundLaws.{IsPath}

-- the last part taken off

abbrev pub Split : Type 0
Split = List PathTree × List ℕ

abbrev pub with_label : List PathTree → List ℕ → Split
with_label before text = (before, text)

abbrev pushed : PathTree → Split → Split
pushed first split = (first ∷ split.0, split.1)

moved : (first : PathTree) (before : List PathTree) (label : Option (List ℕ))
    → option_map (pushed first) (option_map (with_label before) label) ≡ option_map (with_label (first ∷ before)) label
moved first before None = refl
moved first before (Some text) = refl

pub split_last-append : (before : List PathTree) (last : PathTree) → split_last (before ++ last ∷ []) ≡ option_map (with_label before) (plain_label last)
split_last-append [] last = refl
split_last-append (first ∷ []) last = moved first [] (plain_label last)
split_last-append (first ∷ second ∷ before) last =
    ap (option_map (pushed first)) (split_last-append (second ∷ before) last) ∙ moved first (second ∷ before) (plain_label last)

no_split : {A B : Type 0} {a : A} {b : B} → ◌≡◌ {A = Option (A × B)} None (Some (a, b)) → ⊥
no_split same = cc

-- what comes of an option's value
mapped : {X Y : Type 0} (f : X → Y) (one : Option X) (y : Y) → ◌≡◌ {A = Option Y} (option_map f one) (Some y) → (x : X) × (one ≡ Some x) × (f x ≡ y)
mapped f (Some x) y same = (x, refl, cc)
mapped f None y same = absurd (cc)

plain_some : (last : PathTree) (text : List ℕ) → plain_label last ≡ Some text → last ≡ step (Plain text)
plain_some (step (Plain word)) text same = let e : word ≡ text = cc in ap (λ (w : List ℕ). step (Plain w)) e
plain_some (step (Wild word)) text same = absurd (cc)
plain_some any text same = absurd (cc)
plain_some (seq parts) text same = absurd (cc)
plain_some (alt parts) text same = absurd (cc)
plain_some (opt part) text same = absurd (cc)
plain_some (star part) text same = absurd (cc)
plain_some (plus part) text same = absurd (cc)

split_some : (trees before : List PathTree) (text : List ℕ) → ◌≡◌ {A = Option Split} (split_last trees) (Some (before, text)) → trees ≡ before ++ step (Plain text) ∷ []
split_some [] before text same = absurd (no_split same)
split_some (last ∷ []) before text same =
    let pair : List ℕ → Split = λ word. ([], word) in
    let (word, is, pair_is) = mapped pair (plain_label last) (before, text) same in
    let front : [] ≡ before = ap (λ (x : Split). x.0) pair_is in
    let label : word ≡ text = ap (λ (x : Split). x.1) pair_is in
    ap (λ (x : PathTree). x ∷ []) (plain_some last word is) ∙ ap (λ (w : List ℕ). step (Plain w) ∷ []) label
    ∙ ap (λ (b : List PathTree). b ++ step (Plain text) ∷ []) front
split_some (first ∷ second ∷ others) before text same =
    let push : Split → Split = λ split. (first ∷ split.0, split.1) in
    let (split, is, pair_is) = mapped push (split_last (second ∷ others)) (before, text) same in
    let front : first ∷ split.0 ≡ before = ap (λ (x : Split). x.0) pair_is in
    let label : split.1 ≡ text = ap (λ (x : Split). x.1) pair_is in
    ap (λ (l : List PathTree). first ∷ l) (split_some (second ∷ others) split.0 split.1 is) ∙ ap (λ (w : List ℕ). first ∷ (split.0 ++ step (Plain w) ∷ [])) label
    ∙ ap (λ (b : List PathTree). b ++ step (Plain text) ∷ []) front

-- targets

-- a path whose last part is split off, with a plain label there or without
pub aimed-label : (path : RootedTree) (before : List PathTree) (last : PathTree) (text : List ℕ) → path.parts ≡ before ++ last ∷ [] → plain_label last ≡ Some text
    → ◌≡◌ {A = Option (RootedTree × List ℕ)} (aimed path) (Some (record { start = path.start; parts = before }, text))
aimed-label path before last text parts label =
    let view : Split → RootedTree × List ℕ = λ split. (record { start = path.start; parts = split.0 }, split.1) in
    ap (λ (trees : List PathTree). option_map view (split_last trees)) parts ∙ ap (option_map view) (split_last-append before last ∙ ap (option_map (with_label before)) label)

pub aimed-none : (path : RootedTree) (before : List PathTree) (last : PathTree) → path.parts ≡ before ++ last ∷ [] → plain_label last ≡ None
    → ◌≡◌ {A = Option (RootedTree × List ℕ)} (aimed path) None
aimed-none path before last parts none =
    let view : Split → RootedTree × List ℕ = λ split. (record { start = path.start; parts = split.0 }, split.1) in
    ap (λ (trees : List PathTree). option_map view (split_last trees)) parts ∙ ap (option_map view) (split_last-append before last ∙ ap (option_map (with_label before)) none)

pub aimed-joined : (path left : RootedTree) (text : List ℕ) → path.start ≡ left.start → path.parts ≡ left.parts ++ step (Plain text) ∷ []
    → ◌≡◌ {A = Option (RootedTree × List ℕ)} (aimed path) (Some (left, text))
aimed-joined path left text start parts =
    let whole : List ℕ → Option (RootedTree × List ℕ) = λ word. Some (record { start = word; parts = left.parts }, text) in
    aimed-label path left.parts (step (Plain text)) text parts refl ∙ ap whole start

-- the path that stands before `+=` or `-=` is read whole, and its last label taken off
pub complete_aimed : (depth : ℕ) (target : g.Path) (last : g.Label) (rest : List Kind) → nest_path target ≤ depth → EndsPath rest
    → (tree : RootedTree) × (◌≡◌ {A = Outcome RootedTree} (rooted depth (spell_path target (k.Symbol s.Dot ∷ spell_label last rest))) (Some (tree, rest)))
    × (◌≡◌ {A = Option (RootedTree × List ℕ)} (aimed tree) (Some (tree_path target, text_of_label last)))
complete_aimed depth target last rest deep ends =
    let joined = is_joined target last in
    let path = longer_path target last in
    let fits : nest_path path ≤ depth = let same = joined.nest in omega arith in
    (tree_path path, ap (rooted depth) (sym (joined.spelled rest)) ∙ complete_path depth path rest fits ends, aimed-joined (tree_path path) (tree_path target) (text_of_label last) joined.start joined.parts)

pub record IsAim (depth : ℕ) (kinds rest : List Kind) (left : RootedTree) (text : List ℕ) : Type 0 where
  pub target : g.Path
  pub last : g.Label
  pub deep : nest_path target ≤ depth
  pub spelled : kinds ≡ spell_path target (k.Symbol s.Dot ∷ spell_label last rest)
  pub stands : tree_path target ≡ left
  pub label : text_of_label last ≡ text

pub sound_aimed : (depth : ℕ) (kinds rest : List Kind) (tree left : RootedTree) (text : List ℕ) → IsPath depth kinds rest tree
    → ◌≡◌ {A = Option (RootedTree × List ℕ)} (aimed tree) (Some (left, text)) → IsAim depth kinds rest left text
sound_aimed depth kinds rest tree left text is same =
    let view : Split → RootedTree × List ℕ = λ split. (record { start = tree.start; parts = split.0 }, split.1) in
    let (split, split_is, pair_is) = mapped view (split_last tree.parts) (left, text) same in
    let parts = ap (λ (p : RootedTree). p.parts) is.stands ∙ split_some tree.parts split.0 split.1 split_is in
    let (target, last, joined, front, label) = splits is.by split.0 split.1 parts in
    let made : List ℕ → List PathTree → RootedTree = λ word trees. record { start = word; parts = trees } in
    record {
      target = target;
      last = last;
      deep = let a = is.deep in let b = joined.nest in omega arith;
      spelled = is.spelled ∙ joined.spelled rest;
      stands = ap (λ (word : List ℕ). made word (tree_path target).parts) (sym joined.start ∙ ap (λ (p : RootedTree). p.start) is.stands)
          ∙ ap (made tree.start) front ∙ ap (λ (x : RootedTree × List ℕ). x.0) pair_is;
      label = label ∙ ap (λ (x : RootedTree × List ℕ). x.1) pair_is;
    }
