-- A target with its label is a path, and a path that ends in a plain label is a target with its label.
use Rattle.std.proofs.Common.{◌≡◌, ℕ, List, [], ◌∷◌, ◌++◌, refl, ap, subst, arith}
use Rattle.lorel_trees.specs.Types.{Plain, Kind}
use Rattle.lore_base.specs.Paths as p
use Rattle.lorel_tokens.specs.declared.token_types.Kind.TheVariants as k
use Rattle.lorel_tokens.specs.declared.token_types.Sign.TheVariants as s
use Rattle.lorel_trees.specs.Grammar as g
use Rattle.lorel_trees.specs.Paths.{spell_name, spell_label, text_of_label, spell_parts, trees_parts, nest_parts, spell_part, tree_part, tree_path}
use Rattle.lorel_trees.specs.Targets.{IsJoined}

-- parts with a label behind them
pub longer : g.Parts → g.Label → g.Parts
longer g.no_parts last = g.part (g.once (g.label last)) g.no_parts
longer (g.part first others) last = g.part first (longer others last)

spell_parts-longer : (parts : g.Parts) (last : g.Label) (rest : List Kind) → spell_parts (longer parts last) rest ≡ spell_parts parts (k.Symbol s.Dot ∷ spell_label last rest)
unfolding longer
spell_parts-longer g.no_parts last rest = refl
spell_parts-longer (g.part first others) last rest = ap (spell_part first) (spell_parts-longer others last rest)

trees_parts-longer : (parts : g.Parts) (last : g.Label) → trees_parts (longer parts last) ≡ trees_parts parts ++ p.step (Plain (text_of_label last)) ∷ []
unfolding longer
trees_parts-longer g.no_parts last = refl
trees_parts-longer (g.part first others) last = ap (λ trees. tree_part first ∷ trees) (trees_parts-longer others last)

nest_parts-longer : (parts : g.Parts) (last : g.Label) → nest_parts (longer parts last) ≡ nest_parts parts
unfolding longer
nest_parts-longer g.no_parts last = refl
nest_parts-longer (g.part first others) last = let same = nest_parts-longer others last in omega arith

pub longer_path : g.Path → g.Label → g.Path
longer_path (g.rooted name parts) last = g.rooted name (longer parts last)

pub is_joined : (target : g.Path) (last : g.Label) → IsJoined (longer_path target last) target last
unfolding longer_path
is_joined (g.rooted name parts) last = record {
  spelled = λ rest. ap (spell_name name) (spell_parts-longer parts last rest);
  start = refl;
  parts = trees_parts-longer parts last;
  nest = nest_parts-longer parts last;
}

-- the parts that end in a plain label, without it
record IsSplit (parts : g.Parts) (before : List p.PathTree) (text : List ℕ) : Type 0 where
  pub target : g.Parts
  pub last : g.Label
  pub longer_is : longer target last ≡ parts
  pub trees : trees_parts target ≡ before
  pub label : text_of_label last ≡ text

no_last : (before : List p.PathTree) (tree : p.PathTree) → [] ≡ before ++ tree ∷ [] → ⊥
no_last [] tree same = cc
no_last (first ∷ before) tree same = cc

no_trees : (parts : g.Parts) → trees_parts parts ≡ [] → parts ≡ g.no_parts
no_trees g.no_parts none = refl
no_trees (g.part first others) none = absurd (cc)

plain_part : (first : g.Part) (text : List ℕ) → tree_part first ≡ p.step (Plain text) → (last : g.Label) × (first ≡ g.once (g.label last)) × (text_of_label last ≡ text)
plain_part (g.once (g.label last)) text same = (last, refl, cc)
plain_part (g.once (g.pattern wild)) text same = absurd (cc)
plain_part (g.once g.hash) text same = absurd (cc)
plain_part (g.once (g.group inner)) text same = absurd (cc)
plain_part (g.question base) text same = absurd (cc)
plain_part (g.star base) text same = absurd (cc)
plain_part (g.plus base) text same = absurd (cc)

split : (parts : g.Parts) (before : List p.PathTree) (text : List ℕ) → trees_parts parts ≡ before ++ p.step (Plain text) ∷ [] → IsSplit parts before text
unfolding longer
split g.no_parts before text same = absurd (no_last before (p.step (Plain text)) same)
split (g.part first others) [] text same =
    let head : tree_part first ≡ p.step (Plain text) = cc in
    let none : trees_parts others ≡ [] = cc in
    let found = plain_part first text head in
    let ended = no_trees others none in
    record { target = g.no_parts; last = found.0; longer_is = cc (found.1, ended); trees = refl; label = found.2 }
split (g.part first others) (tree ∷ before) text same =
    let head : tree_part first ≡ tree = cc in
    let behind : trees_parts others ≡ before ++ p.step (Plain text) ∷ [] = cc in
    let inner = split others before text behind in
    record { target = g.part first inner.target; last = inner.last; longer_is = ap (g.part first) inner.longer_is; trees = cc (head, inner.trees); label = inner.label }

pub splits : (path : g.Path) (before : List p.PathTree) (text : List ℕ) → (tree_path path).parts ≡ before ++ p.step (Plain text) ∷ []
    → (target : g.Path) × (last : g.Label) × IsJoined path target last × ((tree_path target).parts ≡ before) × (text_of_label last ≡ text)
unfolding longer_path
splits (g.rooted name parts) before text same =
    let inner = split parts before text same in
    let P : g.Parts → Type 0 = λ all. IsJoined (g.rooted name all) (g.rooted name inner.target) inner.last in
    (g.rooted name inner.target, inner.last, subst P inner.longer_is (is_joined (g.rooted name inner.target) inner.last), inner.trees, inner.label)
