-- A condition holds alike over two databases, where its paths reach the same from objects that stay, what they reach stays,
-- and objects that stay have the same values wherever it compares some.
use Rattle.std.proofs.Common.{◌≡◌, ◌⊎◌, inl, inr, ◌↔◌, ℕ, suc, List, [], ◌∷◌, ◌++◌, Option, Some, None, All, sym, subst}
use Rattle.std.specs.List.{Contains}
use Rattle.std.specs.Option.{option_map, MatchOption}
use Rattle.std.proofs.lemmas.Option.{none-some, same_Some}
use Rattle.std.proofs.lemmas.List.Elements.{All-push, Contains-append_left, Contains-append_right}
use Rattle.view_laws.specs.Types.{Oid, Value, Op}
use Rattle.lorel_bound.specs.Conditions.{OperandOf, constant, at, CondOf, or, and, not, exists, for_all, compare, same, CondsOf, no_cond, cond, operand_paths, paths_of, paths_of_all}
use Rattle.lorel_bound.specs.Holding.{Gives, Holds, SomeHolds, AllHold}
use Rattle.lore_base.proofs.MemberLaws.{Contains-head, Contains-tail}
use Rattle.lorel_trees.specs.Trees.{CondTree, CondTrees, SelectTree}
use Rattle.lorel_trees.specs.Trees as t
use Rattle.lorel_ranges.specs.Places.{quantified, Place, Scope, scope_of}
use Rattle.lorel_ranges.specs.Conditions.{cond_in, conds_in, cond_of}
use Rattle.live_views.specs.Concerns.{HasComparison, SomeHasComparison, ComparesValues}

-- ---- conditions that compare values
-- values are compared somewhere in the condition
abbrev mutual
  pub IsComparing : {Path : Type 0} → CondOf Path → Type 0
  IsComparing (or members) = SomeIsComparing members
  IsComparing (and members) = SomeIsComparing members
  IsComparing (not body) = IsComparing body
  IsComparing (exists path body) = IsComparing body
  IsComparing (for_all path body) = IsComparing body
  IsComparing (compare left op right) = Unit {0}
  IsComparing (same left right) = ⊥

  pub SomeIsComparing : {Path : Type 0} → CondsOf Path → Type 0
  SomeIsComparing no_cond = ⊥
  SomeIsComparing (cond first others) = IsComparing first ⊎ SomeIsComparing others

-- then they are in the text that it stands for
mutual
  compared_text : (scope : Scope) (depth : ℕ) (condition : CondTree) → IsComparing (cond_in scope depth condition) → HasComparison condition
  compared_text scope depth (t.or members) h = some_compared_text scope depth members h
  compared_text scope depth (t.and members) h = some_compared_text scope depth members h
  compared_text scope depth (t.not body) h = compared_text scope depth body h
  compared_text scope depth (t.exists variable path body) h = compared_text ((variable, quantified depth) ∷ scope) (suc depth) body h
  compared_text scope depth (t.for_all variable path body) h = compared_text ((variable, quantified depth) ∷ scope) (suc depth) body h
  compared_text scope depth (t.compare left op right) h = tt
  compared_text scope depth (t.same left right) h = absurd h

  some_compared_text : (scope : Scope) (depth : ℕ) (members : CondTrees) → SomeIsComparing (conds_in scope depth members) → SomeHasComparison members
  some_compared_text scope depth t.no_cond h = absurd h
  some_compared_text scope depth (t.cond first others) (inl here) = inl (compared_text scope depth first here)
  some_compared_text scope depth (t.cond first others) (inr later) = inr (some_compared_text scope depth others later)

-- and so for the condition of a select
pub compared_select : (query : SelectTree) (condition : CondOf Place) → cond_of query ≡ Some condition → IsComparing condition → ComparesValues query
compared_select query condition is h = of_text query.tail.cond is
  where
    of_text : (text : Option CondTree) → option_map (cond_in (scope_of [] query.tail.ranges) 0) text ≡ Some condition → MatchOption text ⊥ HasComparison
    of_text None none = absurd (none-some condition none)
    of_text (Some own) own_is =
        compared_text (scope_of [] query.tail.ranges) 0 own
        (subst (λ (c : CondOf Place). IsComparing c) (sym (same_Some (cond_in (scope_of [] query.tail.ranges) 0 own) condition own_is)) h)

-- ---- conditions over two databases
module _ {Path : Type 0} (Reached Meets : List Oid → Path → Oid → Type 0) (Has Holder : Oid → Value → Type 0)
    (Compare : Value → Op → Value → Type 0) (Stays : Oid → Type 0) (Known : Path → Type 0) (Compared : Type 0)
    (alike : (objects : List Oid) → All Stays objects → (path : Path) → Known path → (oid : Oid)
    → (Reached objects path oid → Meets objects path oid × Stays oid) × (Meets objects path oid → Reached objects path oid × Stays oid))
    (valued : Compared → (oid : Oid) → Stays oid → (value : Value) → Has oid value ↔ Holder oid value) where
  abbrev pub AllKnown : List Path → Type 0
  AllKnown paths = (path : Path) → Contains paths path → Known path

  gives_alike : Compared → (objects : List Oid) → All Stays objects → (operand : OperandOf Path) → AllKnown (operand_paths operand) → (value : Value)
      → Gives Reached Has Compare objects operand value ↔ Gives Meets Holder Compare objects operand value
  gives_alike compared objects stay (constant own) known value = (λ h. h, λ h. h)
  gives_alike compared objects stay (at path) known value =
      let both = alike objects stay path (known path (Contains-head path [])) in (
        λ h. (let met = (both h.0).0 h.1 in (h.0, met.0, (valued compared h.0 met.1 value).0 h.2)),
        λ h. (let met = (both h.0).1 h.1 in (h.0, met.0, (valued compared h.0 met.1 value).1 h.2)),
      )

  mutual
    pub holds_alike : (condition : CondOf Path) → AllKnown (paths_of condition) → (IsComparing condition → Compared)
        → (objects : List Oid) → All Stays objects
        → Holds Reached Has Compare objects condition ↔ Holds Meets Holder Compare objects condition
    holds_alike (or members) known compared objects stay = some_alike members known compared objects stay
    holds_alike (and members) known compared objects stay = all_alike members known compared objects stay
    holds_alike (not body) known compared objects stay =
        let both = holds_alike body known compared objects stay in
        (λ h k. h (both.1 k), λ h k. h (both.0 k))
    holds_alike (exists path body) known compared objects stay =
        let reach = alike objects stay path (known path (Contains-head path (paths_of body))) in
        let inner = λ (oid : Oid) (own : Stays oid). holds_alike body (λ p there. known p (Contains-tail path (paths_of body) p there)) compared
        (objects ++ oid ∷ []) (All-push Stays objects oid stay own) in (
          λ h. (let met = (reach h.0).0 h.1 in (h.0, met.0, (inner h.0 met.1).0 h.2)),
          λ h. (let met = (reach h.0).1 h.1 in (h.0, met.0, (inner h.0 met.1).1 h.2)),
        )
    holds_alike (for_all path body) known compared objects stay =
        let reach = alike objects stay path (known path (Contains-head path (paths_of body))) in
        let inner = λ (oid : Oid) (own : Stays oid). holds_alike body (λ p there. known p (Contains-tail path (paths_of body) p there)) compared
        (objects ++ oid ∷ []) (All-push Stays objects oid stay own) in (
          λ h oid meets. (let met = (reach oid).1 meets in (inner oid met.1).0 (h oid met.0)),
          λ h oid reached. (let met = (reach oid).0 reached in (inner oid met.1).1 (h oid met.0)),
        )
    holds_alike (compare left op right) known compared objects stay =
        let first = gives_alike (compared tt) objects stay left (λ p there. known p (Contains-append_left (operand_paths left) (operand_paths right) p there)) in
        let second = gives_alike (compared tt) objects stay right (λ p there. known p (Contains-append_right (operand_paths left) (operand_paths right) p there)) in (
          λ h. (h.0, h.1, (first h.0).0 h.2, (second h.1).0 h.3, h.4),
          λ h. (h.0, h.1, (first h.0).1 h.2, (second h.1).1 h.3, h.4),
        )
    holds_alike (same left right) known compared objects stay =
        let first = alike objects stay left (known left (Contains-head left (right ∷ []))) in
        let second = alike objects stay right (known right (Contains-tail left (right ∷ []) right (Contains-head right []))) in (
          λ h. (h.0, ((first h.0).0 h.1).0, ((second h.0).0 h.2).0),
          λ h. (h.0, ((first h.0).1 h.1).0, ((second h.0).1 h.2).0),
        )

    some_alike : (members : CondsOf Path) → AllKnown (paths_of_all members) → (SomeIsComparing members → Compared)
        → (objects : List Oid) → All Stays objects
        → SomeHolds Reached Has Compare objects members ↔ SomeHolds Meets Holder Compare objects members
    some_alike no_cond known compared objects stay = (λ h. h, λ h. h)
    some_alike (cond first others) known compared objects stay =
        let one = holds_alike first (λ p there. known p (Contains-append_left (paths_of first) (paths_of_all others) p there)) (λ c. compared (inl c)) objects stay in
        let rest = some_alike others (λ p there. known p (Contains-append_right (paths_of first) (paths_of_all others) p there)) (λ c. compared (inr c)) objects stay in (
          λ h. elim h [ inl here ↦ inl (one.0 here) | inr later ↦ inr (rest.0 later) ],
          λ h. elim h [ inl here ↦ inl (one.1 here) | inr later ↦ inr (rest.1 later) ],
        )

    all_alike : (members : CondsOf Path) → AllKnown (paths_of_all members) → (SomeIsComparing members → Compared)
        → (objects : List Oid) → All Stays objects
        → AllHold Reached Has Compare objects members ↔ AllHold Meets Holder Compare objects members
    all_alike no_cond known compared objects stay = (λ h. h, λ h. h)
    all_alike (cond first others) known compared objects stay =
        let one = holds_alike first (λ p there. known p (Contains-append_left (paths_of first) (paths_of_all others) p there)) (λ c. compared (inl c)) objects stay in
        let rest = all_alike others (λ p there. known p (Contains-append_right (paths_of first) (paths_of_all others) p there)) (λ c. compared (inr c)) objects stay in
        (λ h. (one.0 h.0, rest.0 h.1), λ h. (one.1 h.0, rest.1 h.1))
