-- The order of words: one order for all of them, kept by the labels behind them.
use Rattle.std.proofs.Common.{◌≡◌, ◌≢◌, ℕ, ◌+◌, ◌<◌, ◌≤◌, false, Option, Some, None, List, [], ◌∷◌, ◌++◌, length, refl, sym, ap, ◌∙◌, arith}
use Rattle.std.specs.Cmp.{IsTotalOrder}
use Rattle.std.specs.Cmp.Lexicographic.{slice_cmp}
use Rattle.std.specs.Ordering.{nat_cmp, ordering_then, ordering_reverse, is_gt}
use Rattle.std.specs.declared.cmp.Ordering.{Ordering}
use Rattle.std.specs.declared.cmp.Ordering.TheVariants.{Less, Equal, Greater}
use Rattle.std.proofs.lemmas.Cmp.{ranked, by_ranked, upto, tied_itself, nat_cmp_total, on_total, then_total, lists_total}
use Rattle.std.proofs.lemmas.List.{length_push}
use Rattle.lore_base.specs.Types.{Label}
use Rattle.lore_base.specs.LeastWords.{label_cmp, shortlex_cmp, IsUpTo, IsLeastIfAny, IsSpelledWalk, HasOneLeastWord}

word_total : IsTotalOrder shortlex_cmp
word_total = then_total (on_total length nat_cmp_total) (lists_total (on_total (λ (l : Label). l.0) nat_cmp_total))

then_equal : (o : Ordering) → ordering_then o Equal ≡ o
then_equal Less = refl
then_equal Equal = refl
then_equal Greater = refl

then_assoc : (a b c : Ordering) → ordering_then a (ordering_then b c) ≡ ordering_then (ordering_then a b) c
then_assoc Less b c = refl
then_assoc Equal b c = refl
then_assoc Greater b c = refl

not_gt : (o : Ordering) → o ≢ Greater → is_gt o ≡ false
not_gt Less h = refl
not_gt Equal h = refl
not_gt Greater h = absurd (h refl)

gt_not : (o : Ordering) → is_gt o ≡ false → o ≢ Greater
gt_not Less h e = cc
gt_not Equal h e = cc
gt_not Greater h e = cc

-- words of one length, with a label behind each
slice_push : (a b : List Label) (l m : Label) → length a ≡ length b
    → slice_cmp label_cmp (a ++ l ∷ []) (b ++ m ∷ []) ≡ ordering_then (slice_cmp label_cmp a b) (label_cmp l m)
slice_push [] [] l m same = then_equal (label_cmp l m)
slice_push [] (y ∷ ys) l m same = absurd (omega (arith, same))
slice_push (x ∷ xs) [] l m same = absurd (omega (arith, same))
slice_push (x ∷ xs) (y ∷ ys) l m same =
    ap (ordering_then (label_cmp x y)) (slice_push xs ys l m (omega (arith, same)))
    ∙ then_assoc (label_cmp x y) (slice_cmp label_cmp xs ys) (label_cmp l m)

nat_cmp_more : (m n : ℕ) → nat_cmp (m + 1) (n + 1) ≡ nat_cmp m n
nat_cmp_more m n = grind arith

-- any words, with a label behind each
pub shortlex_cmp-push : (a b : List Label) (l m : Label) → shortlex_cmp (a ++ l ∷ []) (b ++ m ∷ []) ≡ ordering_then (shortlex_cmp a b) (label_cmp l m)
shortlex_cmp-push a b l m =
    let long : nat_cmp (length (a ++ l ∷ [])) (length (b ++ m ∷ [])) ≡ nat_cmp (length a) (length b) =
    ap (λ n. nat_cmp n (length (b ++ m ∷ []))) (length_push a l) ∙ ap (nat_cmp (length a + 1)) (length_push b m) ∙ nat_cmp_more (length a) (length b) in
    let rest = slice_cmp label_cmp (a ++ l ∷ []) (b ++ m ∷ []) in
    let front = slice_cmp label_cmp a b in
    ap (λ o. ordering_then o rest) long
    ∙ by_ranked (length a < length b) (length a ≡ length b) (length b < length a) (nat_cmp (length a) (length b)) (ranked (length a) (length b) (nat_cmp (length a) (length b)) refl)
    (λ is _. ap (λ o. ordering_then o rest) is ∙ sym (ap (λ o. ordering_then (ordering_then o front) (label_cmp l m)) is))
    (λ is same. ap (λ o. ordering_then o rest) is ∙ slice_push a b l m same ∙ sym (ap (λ o. ordering_then (ordering_then o front) (label_cmp l m)) is))
    (λ is _. ap (λ o. ordering_then o rest) is ∙ sym (ap (λ o. ordering_then (ordering_then o front) (label_cmp l m)) is))

pub IsUpTo-refl : (a : List Label) → IsUpTo a a
IsUpTo-refl a gt = (let same = tied_itself word_total a in cc)

pub IsUpTo-trans : (a b c : List Label) → IsUpTo a b → IsUpTo b c → IsUpTo a c
IsUpTo-trans a b c ab bc = gt_not (shortlex_cmp a c) (upto word_total a b c (not_gt (shortlex_cmp a b) ab) (not_gt (shortlex_cmp b c) bc))

pub before_up_to : (a b : List Label) → shortlex_cmp a b ≡ Less → IsUpTo a b
before_up_to a b less gt = cc

pub before_itself : (a : List Label) → shortlex_cmp a a ≡ Less → ⊥
before_itself a less = (let same = tied_itself word_total a in cc)

-- what is before a word is not behind it
pub before_back : (a b : List Label) → shortlex_cmp a b ≡ Less → IsUpTo b a → ⊥
before_back a b less up = up (word_total.antisymm b a ∙ ap ordering_reverse less)

-- labels of one number are one label
same_label : (l m : Label) → l.0 ≡ m.0 → l ≡ m
same_label l m is = λ i. record { 0 = is i }

label_equal : (l m : Label) → label_cmp l m ≡ Equal → l ≡ m
label_equal l m tied =
    by_ranked (l.0 < m.0) (l.0 ≡ m.0) (m.0 < l.0) (label_cmp l m) (ranked l.0 m.0 (label_cmp l m) refl)
    (λ is _. absurd (let e : ◌≡◌ {A = Ordering} Less Equal = sym is ∙ tied in cc)) (λ _ same. same_label l m same)
    (λ is _. absurd (let e : ◌≡◌ {A = Ordering} Greater Equal = sym is ∙ tied in cc))

then_both : (a b : Ordering) → ordering_then a b ≡ Equal → (a ≡ Equal) × (b ≡ Equal)
then_both Less b tied = absurd (let e : ◌≡◌ {A = Ordering} Less Equal = tied in cc)
then_both Equal b tied = (refl, tied)
then_both Greater b tied = absurd (let e : ◌≡◌ {A = Ordering} Greater Equal = tied in cc)

slice_equal : (a b : List Label) → slice_cmp label_cmp a b ≡ Equal → a ≡ b
slice_equal [] [] tied = refl
slice_equal [] (y ∷ ys) tied = absurd (let e : ◌≡◌ {A = Ordering} Less Equal = tied in cc)
slice_equal (x ∷ xs) [] tied = absurd (let e : ◌≡◌ {A = Ordering} Greater Equal = tied in cc)
slice_equal (x ∷ xs) (y ∷ ys) tied =
    let parts = then_both (label_cmp x y) (slice_cmp label_cmp xs ys) tied in
    let first = label_equal x y parts.0 in
    let later = slice_equal xs ys parts.1 in
    cc

word_equal : (a b : List Label) → shortlex_cmp a b ≡ Equal → a ≡ b
word_equal a b tied = slice_equal a b (then_both (nat_cmp (length a) (length b)) (slice_cmp label_cmp a b) tied).1

-- a word up to another one is before it or is it
pub before_or_same : (a b : List Label) → IsUpTo a b → (a ≡ b → ⊥) → shortlex_cmp a b ≡ Less
before_or_same a b up apart = by (shortlex_cmp a b) refl
  where
    by : (o : Ordering) → shortlex_cmp a b ≡ o → shortlex_cmp a b ≡ Less
    by Less is = is
    by Equal is = absurd (apart (word_equal a b is))
    by Greater is = absurd (up is)

pub IsUpTo-same : (a b : List Label) → IsUpTo a b → IsUpTo b a → a ≡ b
IsUpTo-same a b ab ba = by (shortlex_cmp a b) refl
  where
    by : (o : Ordering) → shortlex_cmp a b ≡ o → a ≡ b
    by Less is = absurd (before_back a b is ba)
    by Equal is = word_equal a b is
    by Greater is = absurd (ab is)

-- with labels behind them
pub before_push : (a b : List Label) (l m : Label) → shortlex_cmp a b ≡ Less → shortlex_cmp (a ++ l ∷ []) (b ++ m ∷ []) ≡ Less
before_push a b l m less = shortlex_cmp-push a b l m ∙ ap (λ o. ordering_then o (label_cmp l m)) less

pub IsUpTo-push : (a b : List Label) (l : Label) → IsUpTo a b → IsUpTo (a ++ l ∷ []) (b ++ l ∷ [])
IsUpTo-push a b l up gt =
    up (sym (shortlex_cmp-push a b l l ∙ ap (ordering_then (shortlex_cmp a b)) (tied_itself (on_total (λ (k : Label). k.0) nat_cmp_total) l) ∙ then_equal (shortlex_cmp a b)) ∙ gt)

pub label_up_to : (a : List Label) (l m : Label) → l.0 ≤ m.0 → IsUpTo (a ++ l ∷ []) (a ++ m ∷ [])
label_up_to a l m le gt =
    let is : label_cmp l m ≡ Greater = sym (shortlex_cmp-push a a l m ∙ ap (λ o. ordering_then o (label_cmp l m)) (tied_itself word_total a)) ∙ gt in
    by_ranked (l.0 < m.0) (l.0 ≡ m.0) (m.0 < l.0) (label_cmp l m) (ranked l.0 m.0 (label_cmp l m) refl)
    (λ less _. let e : ◌≡◌ {A = Ordering} Less Greater = sym less ∙ is in cc)
    (λ same _. let e : ◌≡◌ {A = Ordering} Equal Greater = sym same ∙ is in cc)
    (λ _ below. omega (arith, le, below))

-- there is one answer: the least word that passes, or none
one_answer : (Passes : List Label → Type 0) (word other : Option (List Label)) → IsLeastIfAny Passes word → IsLeastIfAny Passes other → word ≡ other
one_answer Passes None None none no_other = refl
one_answer Passes None (Some word) none is = absurd (none word is.passes)
one_answer Passes (Some word) None is none = absurd (none word is.passes)
one_answer Passes (Some word) (Some other) is too =
    ap (λ (w : List Label). Some w) (IsUpTo-same word other (is.least other too.passes) (too.least word is.passes))

pub one_least_word : HasOneLeastWord
one_least_word labels edges path x y = one_answer (IsSpelledWalk labels edges path x y)
