-- The texts that a list uses first: each once, none of those that are known, and no others than the list has.
use Rattle.std.proofs.Common.{◌≡◌, ◌≢◌, ℕ, zero, suc, append-nil, ◌≤◌, Bool, true, false, ◌||◌, if◌then◌else◌, List, [], ◌∷◌, ◌++◌, length, All, AllPairs, Contains, refl, sym, ap, subst, inl, inr, ◌∙◌, arith, append_assoc, true≢false}
use Rattle.std.specs.List.{list_any}
use Rattle.std.specs.Str.{bytes_eq}
use Rattle.std.proofs.lemmas.List.Elements.{All-nil, All-cons, All-head, All-tail, Contains-get_or, Contains-append_left, Contains-push, Contains-append_cases}
use Rattle.std.proofs.lemmas.List.Quantifiers.{all_pairs_push}
use Rattle.std.proofs.lemmas.Slice.Eq.{bytes_eq-Decides}
use Rattle.std.proofs.lemmas.Bool.{cases_Bool, or_cases}
use Rattle.oem_labels.specs.Labels.{first_uses}
use Rattle.lore_base.proofs.MemberLaws.{Contains-head, Contains-tail}

-- ---- a text among those that are known
pub known_text : (known : List (List ℕ)) (text : List ℕ) → list_any (bytes_eq text) known ≡ true → Contains known text
known_text [] text h = absurd (true≢false (sym h))
known_text (first ∷ known) text h =
    elim (or_cases (bytes_eq text first) (list_any (bytes_eq text) known) h) [
      | inl same ↦ (let is : text ≡ first = (bytes_eq-Decides text first).0 same in subst (Contains (first ∷ known)) (sym is) (Contains-head first known))
      | inr later ↦ Contains-tail first known text (known_text known text later)
    ]

pub is_known : (known : List (List ℕ)) (text : List ℕ) → Contains known text → list_any (bytes_eq text) known ≡ true
is_known [] text h = absurd (omega (arith, h.1))
is_known (first ∷ known) text h =
    elim (Contains-append_cases (first ∷ []) known text h) [
      | inl here ↦ ap (λ b. b || list_any (bytes_eq text) known) ((bytes_eq-Decides text first).1 (only first text here))
      | inr later ↦ or_right (bytes_eq text first) (list_any (bytes_eq text) known) (is_known known text later)
    ]
  where
    only : (x y : List ℕ) → Contains (x ∷ []) y → y ≡ x
    only x y (zero, _, is) = sym is
    only x y (suc k, low, _) = absurd (omega (arith, low))

    or_right : (b c : Bool) → c ≡ true → (b || c) ≡ true
    or_right true c e = refl
    or_right false c e = e

-- ---- one text more
pub first_uses-known : (known : List (List ℕ)) (text : List ℕ) (texts : List (List ℕ)) → list_any (bytes_eq text) known ≡ true
    → first_uses known (text ∷ texts) ≡ first_uses known texts
first_uses-known known text texts e = ap (λ b. if b then first_uses known texts else (text ∷ first_uses (known ++ text ∷ []) texts)) e

pub first_uses-new : (known : List (List ℕ)) (text : List ℕ) (texts : List (List ℕ)) → list_any (bytes_eq text) known ≡ false
    → first_uses known (text ∷ texts) ≡ text ∷ first_uses (known ++ text ∷ []) texts
first_uses-new known text texts e = ap (λ b. if b then first_uses known texts else (text ∷ first_uses (known ++ text ∷ []) texts)) e

-- a list that is one text longer, and then others
pub pushed : {X : Type 0} (xs : List X) (y : X) (ys : List X) → (xs ++ y ∷ []) ++ ys ≡ xs ++ y ∷ ys
pushed xs y ys = append_assoc xs (y ∷ []) ys

-- ---- all of them
pub length-first_uses : (known texts : List (List ℕ)) → length (first_uses known texts) ≤ length texts
length-first_uses known [] = omega arith
length-first_uses known (text ∷ texts) =
    elim (cases_Bool (list_any (bytes_eq text) known)) [
      | inl e ↦ (let same = ap length (first_uses-known known text texts e) in omega (arith, same, length-first_uses known texts))
      | inr e ↦ (let same = ap length (first_uses-new known text texts e) in omega (arith, same, length-first_uses (known ++ text ∷ []) texts))
    ]

pub All-first_uses : (P : List ℕ → Type 0) (known texts : List (List ℕ)) → All P texts → All P (first_uses known texts)
All-first_uses P known [] h = All-nil P
All-first_uses P known (text ∷ texts) h =
    let others = All-tail P text texts h in
    elim (cases_Bool (list_any (bytes_eq text) known)) [
      | inl e ↦ subst (All P) (sym (first_uses-known known text texts e)) (All-first_uses P known texts others)
      | inr e ↦ subst (All P) (sym (first_uses-new known text texts e))
          (All-cons P text (first_uses (known ++ text ∷ []) texts) (All-head P text texts h) (All-first_uses P (known ++ text ∷ []) texts others))
    ]

-- no text stands twice once the texts are there
pub first_uses_distinct : (known texts : List (List ℕ)) → AllPairs (λ a b. a ≢ b) known → AllPairs (λ a b. a ≢ b) (known ++ first_uses known texts)
first_uses_distinct known [] distinct = subst (AllPairs (λ a b. a ≢ b)) (sym (append-nil known)) distinct
first_uses_distinct known (text ∷ texts) distinct =
    elim (cases_Bool (list_any (bytes_eq text) known)) [
      | inl e ↦ subst (λ l. AllPairs (λ a b. a ≢ b) (known ++ l)) (sym (first_uses-known known text texts e)) (first_uses_distinct known texts distinct)
      | inr e ↦ (
          let apart = all_pairs_push (λ a b. a ≢ b) known text distinct
          (λ k d low same. true≢false (sym (is_known known text (subst (Contains known) same (Contains-get_or known k d low))) ∙ e)) in
          let rest = first_uses_distinct (known ++ text ∷ []) texts apart in
          subst (AllPairs (λ a b. a ≢ b)) (pushed known text (first_uses (known ++ text ∷ []) texts) ∙ ap (λ l. known ++ l) (sym (first_uses-new known text texts e))) rest)
    ]

-- and all of them are there
pub first_uses_cover : (known texts : List (List ℕ)) → All (Contains (known ++ first_uses known texts)) texts
first_uses_cover known [] = All-nil (Contains (known ++ first_uses known []))
first_uses_cover known (text ∷ texts) =
    elim (cases_Bool (list_any (bytes_eq text) known)) [
      | inl e ↦ (
          let rest = first_uses_cover known texts in
          subst (λ l. All (Contains (known ++ l)) (text ∷ texts)) (sym (first_uses-known known text texts e))
          (All-cons (Contains (known ++ first_uses known texts)) text texts (Contains-append_left known (first_uses known texts) text (known_text known text e)) rest))
      | inr e ↦ (
          let more = first_uses (known ++ text ∷ []) texts in
          let rest = first_uses_cover (known ++ text ∷ []) texts in
          let here = Contains-append_left (known ++ text ∷ []) more text (Contains-push known text) in
          subst (λ l. All (Contains l) (text ∷ texts)) (pushed known text more ∙ ap (λ l. known ++ l) (sym (first_uses-new known text texts e)))
          (All-cons (Contains ((known ++ text ∷ []) ++ more)) text texts here rest))
    ]

-- one list of texts after another
pub first_uses-append : (known texts others : List (List ℕ))
    → first_uses known (texts ++ others) ≡ first_uses known texts ++ first_uses (known ++ first_uses known texts) others
first_uses-append known [] others = ap (λ l. first_uses l others) (sym (append-nil known))
first_uses-append known (text ∷ texts) others =
    elim (cases_Bool (list_any (bytes_eq text) known)) [
      | inl e ↦ (
          let rest = first_uses-append known texts others in
          first_uses-known known text (texts ++ others) e ∙ rest
          ∙ ap (λ l. l ++ first_uses (known ++ l) others) (sym (first_uses-known known text texts e)))
      | inr e ↦ (
          let more = first_uses (known ++ text ∷ []) texts in
          let rest = first_uses-append (known ++ text ∷ []) texts others in
          first_uses-new known text (texts ++ others) e
          ∙ ap (λ l. text ∷ l) (rest ∙ ap (λ l. more ++ first_uses l others) (pushed known text more))
          ∙ ap (λ l. l ++ first_uses (known ++ l) others) (sym (first_uses-new known text texts e)))
    ]
