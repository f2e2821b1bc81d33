-- Leaves laid into a machine: those that lie there stay, and each form of a path lays its own.
use Rattle.std.proofs.Common.{◌≡◌, ◌↔◌, ℕ, ◌+◌, ◌⊎◌, inl, inr, length, subst, arith}
use Rattle.lore_base.specs.Paths.{PathTree, PathTrees, step, any, seq, alt, opt, star, plus, none, more, leaves_of}
use Rattle.path_expr.specs.Types.{States, Leaf, One, AnyLabel}
use Rattle.path_expr.specs.Machines.{Machine, IsIn, UpToEnd}
use Rattle.path_expr.specs.inside.Compiled.{Begins, BeginsInTurn, IsSet, IsLeaf, Compiled, CompiledInTurn, CompiledEach, Grows, LaysPath, LaysInTurn, LaysEach}
use Rattle.path_expr.proofs.BeginLaws.{Begins-wider, in_turn_more, some_more, join_within}

Grows-trans : (a b c : Machine) → Grows a b → Grows b c → Grows a c
Grows-trans a b c first second = record {
  leaves = λ place leaf is. second.leaves place leaf (first.leaves place leaf is);
  follow = λ place states is. second.follow place states (first.follow place states is);
}

IsLeaf-grown : (old new : Machine) → Grows old new → (place : ℕ) (leaf : Leaf) (K : ℕ → Type 0) → IsLeaf old place leaf K → IsLeaf new place leaf K
IsLeaf-grown old new grows place leaf K is = (is.0, grows.leaves place leaf is.1, grows.follow place is.0 is.2, is.3)

-- what lies in a machine stays there when it grows
mutual
  pub Compiled-grown : (old new : Machine) → Grows old new → (path : PathTree) (base : ℕ) (K : ℕ → Type 0)
      → Compiled old path base K → Compiled new path base K
  Compiled-grown old new grows (step pattern) base K is = IsLeaf-grown old new grows base (One pattern) K is
  Compiled-grown old new grows any base K is = IsLeaf-grown old new grows base AnyLabel (λ s. (s ≡ base) ⊎ K s) is
  Compiled-grown old new grows (seq parts) base K is = CompiledInTurn-grown old new grows parts base K is
  Compiled-grown old new grows (alt parts) base K is = CompiledEach-grown old new grows parts base K is
  Compiled-grown old new grows (opt part) base K is = Compiled-grown old new grows part base K is
  Compiled-grown old new grows (star part) base K is = Compiled-grown old new grows part base (λ s. Begins part base K s ⊎ K s) is
  Compiled-grown old new grows (plus part) base K is = Compiled-grown old new grows part base (λ s. Begins part base K s ⊎ K s) is

  CompiledInTurn-grown : (old new : Machine) → Grows old new → (parts : PathTrees) (base : ℕ) (K : ℕ → Type 0)
      → CompiledInTurn old parts base K → CompiledInTurn new parts base K
  CompiledInTurn-grown old new grows none base K is = tt
  CompiledInTurn-grown old new grows (more part parts) base K is =
      (Compiled-grown old new grows part (base + leaves_of parts) (BeginsInTurn parts base K) is.0, CompiledInTurn-grown old new grows parts base K is.1)

  CompiledEach-grown : (old new : Machine) → Grows old new → (parts : PathTrees) (base : ℕ) (K : ℕ → Type 0)
      → CompiledEach old parts base K → CompiledEach new parts base K
  CompiledEach-grown old new grows none base K is = tt
  CompiledEach-grown old new grows (more part parts) base K is =
      (Compiled-grown old new grows part (base + leaves_of parts) K is.0, CompiledEach-grown old new grows parts base K is.1)

IsLeaf-same : (machine : Machine) (place : ℕ) (leaf : Leaf) (K J : ℕ → Type 0) → ((s : ℕ) → K s ↔ J s) → IsLeaf machine place leaf K → IsLeaf machine place leaf J
IsLeaf-same machine place leaf K J same is =
    (is.0, is.1, is.2, λ s. (λ h. (same s).0 ((is.3 s).0 h), λ h. (is.3 s).1 ((same s).1 h)))

or_same : (place : ℕ) (K J : ℕ → Type 0) → ((s : ℕ) → K s ↔ J s) → (s : ℕ) → ((s ≡ place) ⊎ K s) ↔ ((s ≡ place) ⊎ J s)
or_same place K J same s = (
  λ h. elim h [ inl here ↦ inl here | inr k ↦ inr ((same s).0 k) ],
  λ h. elim h [ inl here ↦ inl here | inr j ↦ inr ((same s).1 j) ],
)

begins_same : (path : PathTree) (base : ℕ) (K J : ℕ → Type 0) → ((s : ℕ) → K s ↔ J s) → (s : ℕ) → Begins path base K s ↔ Begins path base J s
begins_same path base K J same s =
    (Begins-wider path base K J (λ s k. (same s).0 k) s, Begins-wider path base J K (λ s j. (same s).1 j) s)

again_same : (path : PathTree) (base : ℕ) (K J : ℕ → Type 0) → ((s : ℕ) → K s ↔ J s)
    → (s : ℕ) → (Begins path base K s ⊎ K s) ↔ (Begins path base J s ⊎ J s)
again_same path base K J same s = (
  λ h. elim h [ inl b ↦ inl ((begins_same path base K J same s).0 b) | inr k ↦ inr ((same s).0 k) ],
  λ h. elim h [ inl b ↦ inl ((begins_same path base K J same s).1 b) | inr j ↦ inr ((same s).1 j) ],
)

in_turn_same : (parts : PathTrees) (base : ℕ) (K J : ℕ → Type 0) → ((s : ℕ) → K s ↔ J s) → (s : ℕ) → BeginsInTurn parts base K s ↔ BeginsInTurn parts base J s
in_turn_same parts base K J same s = begins_same (seq parts) base K J same s

-- the same states after a path: the same leaves
mutual
  Compiled-same : (machine : Machine) (path : PathTree) (base : ℕ) (K J : ℕ → Type 0) → ((s : ℕ) → K s ↔ J s)
      → Compiled machine path base K → Compiled machine path base J
  Compiled-same machine (step pattern) base K J same is = IsLeaf-same machine base (One pattern) K J same is
  Compiled-same machine any base K J same is =
      IsLeaf-same machine base AnyLabel (λ s. (s ≡ base) ⊎ K s) (λ s. (s ≡ base) ⊎ J s) (or_same base K J same) is
  Compiled-same machine (seq parts) base K J same is = CompiledInTurn-same machine parts base K J same is
  Compiled-same machine (alt parts) base K J same is = CompiledEach-same machine parts base K J same is
  Compiled-same machine (opt part) base K J same is = Compiled-same machine part base K J same is
  Compiled-same machine (star part) base K J same is =
      Compiled-same machine part base (λ s. Begins part base K s ⊎ K s) (λ s. Begins part base J s ⊎ J s) (again_same part base K J same) is
  Compiled-same machine (plus part) base K J same is =
      Compiled-same machine part base (λ s. Begins part base K s ⊎ K s) (λ s. Begins part base J s ⊎ J s) (again_same part base K J same) is

  CompiledInTurn-same : (machine : Machine) (parts : PathTrees) (base : ℕ) (K J : ℕ → Type 0) → ((s : ℕ) → K s ↔ J s)
      → CompiledInTurn machine parts base K → CompiledInTurn machine parts base J
  CompiledInTurn-same machine none base K J same is = tt
  CompiledInTurn-same machine (more part parts) base K J same is = (
    Compiled-same machine part (base + leaves_of parts) (BeginsInTurn parts base K) (BeginsInTurn parts base J) (in_turn_same parts base K J same) is.0,
    CompiledInTurn-same machine parts base K J same is.1,
  )

  CompiledEach-same : (machine : Machine) (parts : PathTrees) (base : ℕ) (K J : ℕ → Type 0) → ((s : ℕ) → K s ↔ J s)
      → CompiledEach machine parts base K → CompiledEach machine parts base J
  CompiledEach-same machine none base K J same is = tt
  CompiledEach-same machine (more part parts) base K J same is =
      (Compiled-same machine part (base + leaves_of parts) K J same is.0, CompiledEach-same machine parts base K J same is.1)

-- where a part begins again, or what comes after it
again : (part : PathTree) (base : ℕ) (after first states : States) → IsSet first (Begins part base (IsIn after))
    → ((s : ℕ) → IsIn states s ↔ (IsIn first s ⊎ IsIn after s)) → (s : ℕ) → IsIn states s ↔ (Begins part base (IsIn after) s ⊎ IsIn after s)
again part base after first states begins either s = (
  λ h. elim ((either s).0 h) [ inl b ↦ inl ((begins s).0 b) | inr k ↦ inr k ],
  λ h. elim h [ inl b ↦ (either s).1 (inl ((begins s).1 b)) | inr k ↦ (either s).1 (inr k) ],
)

-- zero or more rounds
pub lays_star : (part : PathTree) (after first states inner : States) (old new : Machine)
    → IsSet first (Begins part (length old.leaves) (IsIn after)) → ((s : ℕ) → IsIn states s ↔ (IsIn first s ⊎ IsIn after s))
    → LaysPath part states inner old new → UpToEnd states → LaysPath (star part) after states old new
lays_star part after first states inner old new begins either laid end =
    let base = length old.leaves in
    let rounds = again part base after first states begins either in
    record {
      grows = laid.grows;
      counted = laid.counted;
      made = Compiled-same new part base (IsIn states) (λ s. Begins part base (IsIn after) s ⊎ IsIn after s) rounds laid.made;
      begins = rounds;
      within = end;
    }

-- one or more rounds
pub lays_plus : (part : PathTree) (after first states inner : States) (old new : Machine)
    → IsSet first (Begins part (length old.leaves) (IsIn after)) → ((s : ℕ) → IsIn states s ↔ (IsIn first s ⊎ IsIn after s))
    → LaysPath part states inner old new → UpToEnd first → LaysPath (plus part) after first old new
lays_plus part after first states inner old new begins either laid end =
    let base = length old.leaves in
    record {
      grows = laid.grows;
      counted = laid.counted;
      made = Compiled-same new part base (IsIn states) (λ s. Begins part base (IsIn after) s ⊎ IsIn after s)
          (again part base after first states begins either) laid.made;
      begins = begins;
      within = end;
    }

-- one part more in front of those that are read one after another
pub lays_turn : (part : PathTree) (parts : PathTrees) (after next states : States) (old mid new : Machine)
    → LaysInTurn parts after next old mid → LaysPath part next states mid new → LaysInTurn (more part parts) after states old new
lays_turn part parts after next states old mid new laid one =
    let base = length old.leaves in
    let made : Compiled new part (base + leaves_of parts) (IsIn next) = subst (λ (b : ℕ). Compiled new part b (IsIn next)) laid.counted one.made in
    record {
      grows = Grows-trans old mid new laid.grows one.grows;
      counted = omega (arith, laid.counted, one.counted);
      made = (
        Compiled-same new part (base + leaves_of parts) (IsIn next) (BeginsInTurn parts base (IsIn after)) laid.begins made,
        CompiledInTurn-grown mid new one.grows parts base (IsIn after) laid.made,
      );
      begins = in_turn_more part parts base (length mid.leaves) (IsIn after) next states laid.counted laid.begins one.begins;
      within = one.within;
    }

-- one part more in front of those of which one is read
pub lays_choice : (part : PathTree) (parts : PathTrees) (after others inner states : States) (old mid new : Machine)
    → LaysEach parts after others old mid → LaysPath part after inner mid new
    → ((s : ℕ) → IsIn states s ↔ (IsIn others s ⊎ IsIn inner s)) → LaysEach (more part parts) after states old new
lays_choice part parts after others inner states old mid new laid one either =
    let base = length old.leaves in
    record {
      grows = Grows-trans old mid new laid.grows one.grows;
      counted = omega (arith, laid.counted, one.counted);
      made = (
        subst (λ (b : ℕ). Compiled new part b (IsIn after)) laid.counted one.made,
        CompiledEach-grown mid new one.grows parts base (IsIn after) laid.made,
      );
      begins = some_more part parts base (length mid.leaves) (IsIn after) others inner states laid.counted laid.begins one.begins either;
      within = join_within others inner states either laid.within one.within;
    }
