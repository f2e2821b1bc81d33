-- Where a path begins: what changes with that which comes after it, and the parts of a list from its last one on.
use Rattle.std.proofs.Common.{◌≡◌, ◌↔◌, ℕ, zero, suc, ◌+◌, ◌-◌, ◌<◌, ◌≤◌, ◌⊎◌, inl, inr, List, [], ◌∷◌, length, map, drop, get_or, sym, ap, ◌∙◌, subst, arith}
use Rattle.std.proofs.Math.Seq.{drop-cons}
use Rattle.std.proofs.Math.ListN.{get_or-map, length-map}
use Rattle.lore_base.specs.declared.paths.Path.{Path}
use Rattle.lore_base.specs.Paths.{PathTree, PathTrees, step, any, seq, alt, opt, star, plus, none, more, trees_of, path_tree, leaves_of}
use Rattle.path_expr.specs.Types.{States}
use Rattle.path_expr.specs.Machines.{IsIn, UpToEnd}
use Rattle.path_expr.specs.inside.Compiled.{Begins, BeginsInTurn, BeginsSome, IsSet}

-- what comes after a path is of two kinds: so is where it begins, and what is of the second kind begins nothing
mutual
  split : (path : PathTree) (base : ℕ) (K J M : ℕ → Type 0) → ((s : ℕ) → K s → J s ⊎ M s)
      → (s : ℕ) → Begins path base K s → Begins path base J s ⊎ M s
  split (step pattern) base K J M either s h = inl h
  split any base K J M either s (inl same) = inl (inl same)
  split any base K J M either s (inr after) = elim (either s after) [ inl j ↦ inl (inr j) | inr m ↦ inr m ]
  split (seq parts) base K J M either s h = split_in_turn parts base K J M either s h
  split (alt parts) base K J M either s h = split_some parts base K J M either s h
  split (opt part) base K J M either s (inl h) = elim (split part base K J M either s h) [ inl j ↦ inl (inl j) | inr m ↦ inr m ]
  split (opt part) base K J M either s (inr after) = elim (either s after) [ inl j ↦ inl (inr j) | inr m ↦ inr m ]
  split (star part) base K J M either s (inl h) = elim (split part base K J M either s h) [ inl j ↦ inl (inl j) | inr m ↦ inr m ]
  split (star part) base K J M either s (inr after) = elim (either s after) [ inl j ↦ inl (inr j) | inr m ↦ inr m ]
  split (plus part) base K J M either s h = split part base K J M either s h

  split_in_turn : (parts : PathTrees) (base : ℕ) (K J M : ℕ → Type 0) → ((s : ℕ) → K s → J s ⊎ M s)
      → (s : ℕ) → BeginsInTurn parts base K s → BeginsInTurn parts base J s ⊎ M s
  split_in_turn none base K J M either s h = either s h
  split_in_turn (more part parts) base K J M either s h =
      split part (base + leaves_of parts) (BeginsInTurn parts base K) (BeginsInTurn parts base J) M (split_in_turn parts base K J M either) s h

  split_some : (parts : PathTrees) (base : ℕ) (K J M : ℕ → Type 0) → ((s : ℕ) → K s → J s ⊎ M s)
      → (s : ℕ) → BeginsSome parts base K s → BeginsSome parts base J s ⊎ M s
  split_some none base K J M either s h = absurd h
  split_some (more part parts) base K J M either s (inl h) =
      elim (split part (base + leaves_of parts) K J M either s h) [ inl j ↦ inl (inl j) | inr m ↦ inr m ]
  split_some (more part parts) base K J M either s (inr h) =
      elim (split_some parts base K J M either s h) [ inl j ↦ inl (inr j) | inr m ↦ inr m ]

-- more that comes after: more that begins
pub Begins-wider : (path : PathTree) (base : ℕ) (K J : ℕ → Type 0) → ((s : ℕ) → K s → J s)
    → (s : ℕ) → Begins path base K s → Begins path base J s
Begins-wider path base K J wider s h =
    elim (split path base K J (λ _. ⊥) (λ s k. inl (wider s k)) s h) [ inl j ↦ j | inr never ↦ absurd never ]

-- what begins a path again begins it
pub Begins-again : (part : PathTree) (base : ℕ) (K : ℕ → Type 0) (s : ℕ)
    → Begins part base (λ s. Begins part base K s ⊎ K s) s ↔ Begins part base K s
Begins-again part base K s = (
  λ h. elim (split part base (λ s. Begins part base K s ⊎ K s) K (Begins part base K)
      (λ s h. elim h [ inl again ↦ inr again | inr after ↦ inl after ]) s h) [ inl j ↦ j | inr again ↦ again ],
  λ h. Begins-wider part base K (λ s. Begins part base K s ⊎ K s) (λ s k. inr k) s h,
)

-- the set that begins a path, where another set stands for what comes after
pub set_before : (path : PathTree) (base : ℕ) (K : ℕ → Type 0) (after before : States)
    → IsSet after K → IsSet before (Begins path base (IsIn after)) → IsSet before (Begins path base K)
set_before path base K after before is begins = λ s. (
  λ h. Begins-wider path base (IsIn after) K (λ s k. (is s).0 k) s ((begins s).0 h),
  λ h. (begins s).1 (Begins-wider path base K (IsIn after) (λ s k. (is s).1 k) s h),
)

-- one part more in front of those that are read one after another
pub in_turn_more : (part : PathTree) (parts : PathTrees) (base next : ℕ) (K : ℕ → Type 0) (after before : States)
    → next ≡ base + leaves_of parts → IsSet after (BeginsInTurn parts base K) → IsSet before (Begins part next (IsIn after))
    → IsSet before (BeginsInTurn (more part parts) base K)
in_turn_more part parts base next K after before place is begins =
    set_before part (base + leaves_of parts) (BeginsInTurn parts base K) after before is
    (subst (λ (n : ℕ). IsSet before (Begins part n (IsIn after))) place begins)

-- one part more in front of those of which one is read
pub some_more : (part : PathTree) (parts : PathTrees) (base next : ℕ) (K : ℕ → Type 0) (others one all : States)
    → next ≡ base + leaves_of parts → IsSet others (BeginsSome parts base K) → IsSet one (Begins part next K)
    → ((s : ℕ) → IsIn all s ↔ (IsIn others s ⊎ IsIn one s)) → IsSet all (BeginsSome (more part parts) base K)
some_more part parts base next K others one all place is begins joined =
    let first : IsSet one (Begins part (base + leaves_of parts) K) = subst (λ (n : ℕ). IsSet one (Begins part n K)) place begins in
    λ s. (
      λ h. elim ((joined s).0 h) [ inl other ↦ inr ((is s).0 other) | inr here ↦ inl ((first s).0 here) ],
      λ h. elim h [ inl here ↦ (joined s).1 (inr ((first s).1 here)) | inr other ↦ (joined s).1 (inl ((is s).1 other)) ],
    )

-- the parts from one on are that part and those behind it
pub parts_back : (paths : List Path) (trees : List PathTree) (left : ℕ) (part : Path) → map path_tree paths ≡ trees
    → 0 < left → left ≤ length paths → part ≡ get_or paths (left - 1) part
    → trees_of (drop (left - 1) trees) ≡ more (path_tree part) (trees_of (drop left trees))
parts_back paths trees left part seen some within is =
    let long : left - 1 < length trees = omega (arith, ap length seen, length-map paths path_tree) in
    let place : suc (left - 1) ≡ left = omega arith in
    let here : get_or trees (left - 1) (path_tree part) ≡ path_tree part =
    ap (λ (ts : List PathTree). get_or ts (left - 1) (path_tree part)) (sym seen)
    ∙ get_or-map path_tree paths (left - 1) part ∙ ap path_tree (sym is) in
    ap trees_of (drop-cons trees (left - 1) (path_tree part) long)
    ∙ ap (λ (t : PathTree). more t (trees_of (drop (suc (left - 1)) trees))) here
    ∙ ap (λ (k : ℕ). more (path_tree part) (trees_of (drop k trees))) place

-- some of the parts have no more leaves than all
pub leaves_behind : (k : ℕ) (trees : List PathTree) → leaves_of (trees_of (drop k trees)) ≤ leaves_of (trees_of trees)
leaves_behind zero trees = omega arith
leaves_behind (suc k) [] = omega arith
leaves_behind (suc k) (tree ∷ trees) = omega (arith, leaves_behind k trees)

-- no state of either set is beyond the end
pub join_within : (a b both : States) → ((s : ℕ) → IsIn both s ↔ (IsIn a s ⊎ IsIn b s)) → UpToEnd a → UpToEnd b → UpToEnd both
join_within a b both joined first second = λ s h. elim ((joined s).0 h) [ inl here ↦ first s here | inr there ↦ second s there ]
