-- Scopes as the program keeps them: what a start means, and what comes into scope.
use Rattle.std.proofs.Common.{◌≡◌, ◌⊎◌, inl, inr, ℕ, suc, ◌+◌, ◌<◌, Bool, true, false, true≢false, cond, if◌then◌else◌, List, [], ◌∷◌, ◌++◌, length, get_or, take, map, Option, None, Some, is_some, MatchOption, All, Contains, Bor, subst, refl, sym, ap, ◌∙◌, arith}
use Rattle.std.specs.Map.{lookup}
use Rattle.std.specs.Str.{bytes_eq}
use Rattle.std.specs.Option.{option_map_or}
use Rattle.std.proofs.lemmas.List.{map-append, length-map, length-take-le}
use Rattle.std.proofs.lemmas.List.Elements.{All-cons, All-head, All-tail, Contains-append_left, Contains-push, Contains-push_cases}
use Rattle.std.proofs.lemmas.Option.{none-some, same_Some}
use Rattle.std.proofs.lemmas.Slice.Eq.{bytes_eq-Decides}
use Rattle.std.proofs.lemmas.Bool.{cases_Bool}
use Rattle.lore_base.proofs.MemberLaws.{Contains-none, Contains-head, Contains-tail, Contains-cases, Contains-same}
use Rattle.list_laws.proofs.PartLaws.{map_more_read}
use Rattle.lorel_ranges.specs.Places.{named, ranged, quantified, Scope, root_of, scope_behind}
use Rattle.lorel_ranges.specs.Views.{texts}
use Rattle.lorel_ranges.specs.Scopes.{enclosed, IsScope, linked, names_of}
use Rattle.lorel_ranges.specs.inside.Scopes.{deeper, innermost, IsAdded}

-- ---- a test of two texts
same_text : (a b : List ℕ) → bytes_eq a b ≡ true → a ≡ b
same_text a b = (bytes_eq-Decides a b).0

passes_itself : (a b : List ℕ) → a ≡ b → bytes_eq a b ≡ true
passes_itself a b = (bytes_eq-Decides a b).1

-- ---- variables with their numbers
pub linked-by_reference : (entries : List (Bor (List ℕ) × ℕ)) (variable : List ℕ)
    → lookup (λ (key : Bor (List ℕ)). bytes_eq variable key.now) entries ≡ linked (map (λ (entry : Bor (List ℕ) × ℕ). (entry.0.now, entry.1)) entries) variable
linked-by_reference [] variable = refl
linked-by_reference (entry ∷ entries) variable =
    ap (λ (later : Option ℕ). cond (bytes_eq variable entry.0.now) (Some entry.1) later) (linked-by_reference entries variable)

-- a variable that has a number is there, and one that has none isn't
linked-there : (variables : List (List ℕ × ℕ)) (variable : List ℕ) → is_some (linked variables variable) ≡ true
    → Contains (names_of variables) variable
linked-there [] variable found = absurd (true≢false (sym found))
linked-there (first ∷ others) variable found = elim (cases_Bool (bytes_eq variable first.0)) [
  | inl e ↦ Contains-same (first.0 ∷ names_of others) first.0 variable (sym (same_text variable first.0 e)) (Contains-head first.0 (names_of others))
  | inr e ↦
      let later = sym (ap (λ b. is_some (cond b (Some first.1) (linked others variable))) e) ∙ found in
      Contains-tail first.0 (names_of others) variable (linked-there others variable later)
]

linked-absent : (variables : List (List ℕ × ℕ)) (variable : List ℕ) → is_some (linked variables variable) ≡ false
    → Contains (names_of variables) variable → ⊥
linked-absent [] variable none there = Contains-none variable there
linked-absent (first ∷ others) variable none there = elim (cases_Bool (bytes_eq variable first.0)) [
  | inl e ↦ true≢false (sym (ap (λ b. is_some (cond b (Some first.1) (linked others variable))) e) ∙ none)
  | inr e ↦
      let later = sym (ap (λ b. is_some (cond b (Some first.1) (linked others variable))) e) ∙ none in
      elim (Contains-cases first.0 (names_of others) variable there) [
        | inl same ↦ true≢false (sym (passes_itself variable first.0 (sym same)) ∙ e)
        | inr behind ↦ linked-absent others variable later behind
      ]
]

-- ---- variables of quantifiers
innermost-push_same : (variables : List (List ℕ)) (variable start : List ℕ) → bytes_eq variable start ≡ true
    → innermost (variables ++ variable ∷ []) start ≡ Some (length variables)
innermost-push_same [] variable start e = ap (λ b. deeper None b) e
innermost-push_same (first ∷ others) variable start e =
    ap (λ o. deeper o (bytes_eq first start)) (innermost-push_same others variable start e)

innermost-push_other : (variables : List (List ℕ)) (variable start : List ℕ) → bytes_eq variable start ≡ false
    → innermost (variables ++ variable ∷ []) start ≡ innermost variables start
innermost-push_other [] variable start e = ap (λ b. deeper None b) e
innermost-push_other (first ∷ others) variable start e =
    ap (λ o. deeper o (bytes_eq first start)) (innermost-push_other others variable start e)

-- the variable that is read next, behind those that were read
pub innermost-read_same : (variables : List (Bor (List ℕ))) (i : ℕ) (variable : Bor (List ℕ)) (start : List ℕ) → i < length variables
    → variable ≡ get_or variables i variable → bytes_eq variable.now start ≡ true → Some i ≡ innermost (texts (take (i + 1) variables)) start
innermost-read_same variables i variable start low is e =
    let more = map_more_read (λ (text : Bor (List ℕ)). text.now) variables i variable low is in
    let count : length (texts (take i variables)) ≡ i = length-map (take i variables) (λ (text : Bor (List ℕ)). text.now) ∙ length-take-le i variables (omega arith) in
    sym (ap (λ l. innermost l start) more ∙ innermost-push_same (texts (take i variables)) variable.now start e ∙ ap (λ (n : ℕ). Some n) count)

pub innermost-read_other : (variables : List (Bor (List ℕ))) (i : ℕ) (variable : Bor (List ℕ)) (start : List ℕ) → i < length variables
    → variable ≡ get_or variables i variable → bytes_eq variable.now start ≡ false
    → innermost (texts (take i variables)) start ≡ innermost (texts (take (i + 1) variables)) start
innermost-read_other variables i variable start low is e =
    let more = map_more_read (λ (text : Bor (List ℕ)). text.now) variables i variable low is in
    sym (ap (λ l. innermost l start) more ∙ innermost-push_other (texts (take i variables)) variable.now start e)

pub innermost-within : (variables : List (List ℕ)) (start : List ℕ) (depth : ℕ) → innermost variables start ≡ Some depth → depth < length variables
innermost-within [] start depth is = absurd (none-some depth is)
innermost-within (first ∷ others) start depth is = by (innermost others start) (bytes_eq first start) (λ d. innermost-within others start d) is
  where
    by : (o : Option ℕ) (b : Bool) → ((d : ℕ) → o ≡ Some d → d < length others) → deeper o b ≡ Some depth → depth < suc (length others)
    by (Some d) b within is = let same : suc d ≡ depth = same_Some (suc d) depth is in omega (arith, within d refl)
    by None true within is = let same : 0 ≡ depth = same_Some 0 depth is in omega arith
    by None false within is = absurd (none-some depth is)

-- ---- what a start means
root_of-enclosed : (depth : ℕ) (variables : List (List ℕ)) (scope : Scope) (start : List ℕ)
    → root_of (enclosed depth variables scope) start ≡ option_map_or (λ n. quantified (depth + n)) (innermost variables start) (root_of scope start)
root_of-enclosed depth [] scope start = refl
root_of-enclosed depth (first ∷ others) scope start =
    root_of-enclosed (suc depth) others ((first, quantified depth) ∷ scope) start ∙ by (innermost others start) (bytes_eq first start)
  where
    by : (o : Option ℕ) (b : Bool)
        → option_map_or (λ n. quantified (suc depth + n)) o (if b then quantified depth else root_of scope start)
        ≡ option_map_or (λ n. quantified (depth + n)) (deeper o b) (root_of scope start)
    by (Some n) b = ap quantified (omega arith)
    by None true = ap quantified (omega arith)
    by None false = refl

root_of-ranged : (scope : Scope) (start : List ℕ) → All (λ entry. entry.1 ≡ ranged entry.0) scope
    → Contains (map (λ entry. entry.0) scope) start → root_of scope start ≡ ranged start
root_of-ranged [] start each there = absurd (Contains-none start there)
root_of-ranged (first ∷ scope) start each there = elim (cases_Bool (bytes_eq first.0 start)) [
  | inl e ↦
      ap (λ b. if b then first.1 else root_of scope start) e ∙ All-head (λ entry. entry.1 ≡ ranged entry.0) first scope each
      ∙ ap ranged (same_text first.0 start e)
  | inr e ↦ elim (Contains-cases first.0 (map (λ entry. entry.0) scope) start there) [
    | inl same ↦ absurd (true≢false (sym (passes_itself first.0 start same) ∙ e))
    | inr later ↦ ap (λ b. if b then first.1 else root_of scope start) e
        ∙ root_of-ranged scope start (All-tail (λ entry. entry.1 ≡ ranged entry.0) first scope each) later
  ]
]

root_of-named : (scope : Scope) (start : List ℕ) → (Contains (map (λ entry. entry.0) scope) start → ⊥) → root_of scope start ≡ named start
root_of-named [] start absent = refl
root_of-named (first ∷ scope) start absent = elim (cases_Bool (bytes_eq first.0 start)) [
  | inl e ↦ absurd (absent (Contains-same (first.0 ∷ map (λ entry. entry.0) scope) first.0 start (same_text first.0 start e) (Contains-head first.0 (map (λ entry. entry.0) scope))))
  | inr e ↦ ap (λ b. if b then first.1 else root_of scope start) e
      ∙ root_of-named scope start (λ later. absent (Contains-tail first.0 (map (λ entry. entry.0) scope) start later))
]

-- the same by what the program finds
module _ (variables : List (List ℕ × ℕ)) (around : List (List ℕ)) (start : List ℕ) (scope : Scope) (known : IsScope (names_of variables) scope) where
  pub start_quantified : (depth : ℕ) → Some depth ≡ innermost around start → quantified depth ≡ root_of (enclosed 0 around scope) start
  start_quantified depth found =
      sym (root_of-enclosed 0 around scope start ∙ ap (λ o. option_map_or (λ n. quantified (0 + n)) o (root_of scope start)) (sym found)
      ∙ ap quantified (omega arith))

  outside : None ≡ innermost around start → root_of (enclosed 0 around scope) start ≡ root_of scope start
  outside none = root_of-enclosed 0 around scope start ∙ ap (λ o. option_map_or (λ n. quantified (0 + n)) o (root_of scope start)) (sym none)

  pub start_ranged : None ≡ innermost around start → is_some (linked variables start) ≡ true → ranged start ≡ root_of (enclosed 0 around scope) start
  start_ranged none found =
      sym (outside none ∙ root_of-ranged scope start known.each_ranged ((known.same start).0 (linked-there variables start found)))

  pub start_named : None ≡ innermost around start → is_some (linked variables start) ≡ false → named start ≡ root_of (enclosed 0 around scope) start
  start_named none absent =
      sym (outside none ∙ root_of-named scope start (λ there. linked-absent variables start absent ((known.same start).1 there)))

-- ---- what comes into scope
-- a variable that is put behind the others, or is among them
IsScope-more : (variables more : List (List ℕ)) (variable : List ℕ) (scope : Scope) → IsScope variables scope
    → ((other : List ℕ) → Contains more other → Contains variables other ⊎ (variable ≡ other))
    → ((other : List ℕ) → Contains variables other → Contains more other) → Contains more variable
    → IsScope more ((variable, ranged variable) ∷ scope)
IsScope-more variables more variable scope known from to here = record {
  same = λ other. (
    (λ there. elim (from other there) [
      | inl was ↦ Contains-tail variable (map (λ entry. entry.0) scope) other ((known.same other).0 was)
      | inr same ↦ Contains-same (variable ∷ map (λ entry. entry.0) scope) variable other same (Contains-head variable (map (λ entry. entry.0) scope))
    ]),
    (λ there. elim (Contains-cases variable (map (λ entry. entry.0) scope) other there) [
      | inl same ↦ Contains-same more variable other same here
      | inr was ↦ to other ((known.same other).1 was)
    ]),
  );
  each_ranged = All-cons (λ entry. entry.1 ≡ ranged entry.0) (variable, ranged variable) scope refl known.each_ranged;
}

pub IsScope-behind : (variable : Option (List ℕ)) (number : ℕ) (old new : List (List ℕ × ℕ)) (scope : Scope) → IsAdded variable number old new
    → IsScope (names_of old) scope → IsScope (names_of new) (scope_behind variable scope)
IsScope-behind None number old new scope added known = subst (λ l. IsScope (names_of l) scope) (sym added) known
IsScope-behind (Some variable) number old new scope added known = by (linked old variable) refl added
  where
    by : (o : Option ℕ) → linked old variable ≡ o → MatchOption o (new ≡ old ++ (variable, number) ∷ []) (λ earlier. new ≡ old)
        → IsScope (names_of new) ((variable, ranged variable) ∷ scope)
    by (Some earlier) is same = subst (λ l. IsScope (names_of l) ((variable, ranged variable) ∷ scope)) (sym same)
        (IsScope-more (names_of old) (names_of old) variable scope known (λ other there. inl there) (λ other there. there) (linked-there old variable (ap is_some is)))
    by None is pushed =
        let more : names_of new ≡ names_of old ++ variable ∷ [] = ap names_of pushed ∙ map-append (λ entry. entry.0) old ((variable, number) ∷ []) in
        subst (λ l. IsScope l ((variable, ranged variable) ∷ scope)) (sym more)
        (IsScope-more (names_of old) (names_of old ++ variable ∷ []) variable scope known (λ other. Contains-push_cases (names_of old) variable other)
        (λ other. Contains-append_left (names_of old) (variable ∷ []) other) (Contains-push (names_of old) variable))
