-- Lists that others give way to at their end, and what is to come of the nodes of such a list.
use Rattle.std.proofs.Common.{◌≡◌, ◌↔◌, ◌-◌, ◌<◌, inl, inr, List, [], ◌∷◌, ◌++◌, length, get_or, map, reverse, refl, sym, ap, ◌∙◌, subst, arith}
use Rattle.std.specs.List.{All, AllPairs, Contains}
use Rattle.std.proofs.lemmas.List.{length-append, length-map, length-reverse, length_push, get_or_append_left, get_or_default, get_or_push, get_or-map, get_or-reverse, reverse-append, reverse-reverse, map-append}
use Rattle.std.proofs.lemmas.List.Elements.{Contains-get_or, Contains-append_left, Contains-append_right, Contains-append_cases, Contains-push, Contains-push_cases}
use Rattle.lore_base.proofs.MemberLaws.{Contains-none, Contains-cases}
use Rattle.lore_base.proofs.ListLaws.{AllPairs-append}
use Rattle.list_laws.proofs.PairLaws.{AllPairs-front}
use Rattle.plan_ops.specs.Types.{Oid}
use Rattle.plan_ops.specs.Rows.{Gives}

pub All-front : {X : Type 0} (P : X → Type 0) (xs ys : List X) → All P (xs ++ ys) → All P xs
All-front P xs ys all k d within =
    subst P (get_or_append_left xs ys d k within) (all k d (omega (arith, within, length-append xs ys)))

-- each one before the last one
pub AllPairs-last : {X : Type 0} (R : X → X → Type 0) (xs : List X) (y : X) → AllPairs R (xs ++ y ∷ []) → (x : X) → Contains xs x → R x y
AllPairs-last {X} R xs y pairs x at =
    let first : get_or (xs ++ y ∷ []) at.0 y ≡ x = get_or_append_left xs (y ∷ []) y at.0 at.1 ∙ get_or_default xs at.0 y x at.1 ∙ at.2 in
    let second : get_or (xs ++ y ∷ []) (length xs) y ≡ y = get_or_push xs y y (length xs) refl in
    subst (λ (a : X). R a y) first
    (subst (λ (b : X). R (get_or (xs ++ y ∷ []) at.0 y) b) second (pairs at.0 (length xs) y at.1 (omega (arith, length_push xs y))))

-- a list the other way round
pub reverse-cons : {X : Type 0} (x : X) (xs : List X) → reverse (x ∷ xs) ≡ reverse xs ++ x ∷ []
reverse-cons x xs = reverse-append (x ∷ []) xs

pub map-reverse : {X Y : Type 0} (f : X → Y) (xs : List X) → map f (reverse xs) ≡ reverse (map f xs)
map-reverse f [] = refl
map-reverse f (x ∷ xs) =
    ap (map f) (reverse-cons x xs) ∙ map-append f (reverse xs) (x ∷ []) ∙ ap (λ l. l ++ f x ∷ []) (map-reverse f xs)
    ∙ sym (reverse-cons (f x) (map f xs))

pub Contains-reverse : {X : Type 0} (xs : List X) (x : X) → Contains xs x → Contains (reverse xs) x
Contains-reverse [] x at = absurd (Contains-none x at)
Contains-reverse {X} (y ∷ ys) x at =
    subst (λ (l : List X). Contains l x) (sym (reverse-cons y ys)) (elim (Contains-cases y ys x at) [
      | inl same ↦ subst (λ (z : X). Contains (reverse ys ++ y ∷ []) z) same (Contains-push (reverse ys) y)
      | inr later ↦ Contains-append_left (reverse ys) (y ∷ []) x (Contains-reverse ys x later)
    ])

pub Contains-reversed : {X : Type 0} (xs : List X) (x : X) → Contains (reverse xs) x → Contains xs x
Contains-reversed {X} xs x at = subst (λ (l : List X). Contains l x) (reverse-reverse xs) (Contains-reverse (reverse xs) x at)

-- pairs of pictures, the other way round
pub AllPairs-turned : {X Y : Type 0} (f : X → Y) (S : X → X → Type 0) (R : Y → Y → Type 0) (d : X) (xs : List X)
    → ((a b : X) → Contains xs a → Contains xs b → S a b → R (f b) (f a)) → AllPairs S xs → AllPairs R (map f (reverse xs))
AllPairs-turned {X} {Y} f S R d xs keeps pairs i j e less within =
    let long : length (map f (reverse xs)) ≡ length xs = length-map (reverse xs) f ∙ length-reverse xs in
    let all : length (reverse xs) ≡ length xs = length-reverse xs in
    let a = length xs - 1 - j in
    let b = length xs - 1 - i in
    let below : a < b = omega (arith, less, within, long) in
    let inside : b < length xs = omega (arith, less, within, long) in
    let first : get_or (map f (reverse xs)) i e ≡ f (get_or xs b d) =
    get_or-map f (reverse xs) i d e (omega (arith, less, within, long, all)) ∙ ap f (get_or-reverse xs i d (omega (arith, less, within, long))) in
    let second : get_or (map f (reverse xs)) j e ≡ f (get_or xs a d) =
    get_or-map f (reverse xs) j d e (omega (arith, within, long, all)) ∙ ap f (get_or-reverse xs j d (omega (arith, within, long))) in
    subst (λ (y : Y). R y (get_or (map f (reverse xs)) j e)) (sym first)
    (subst (λ (y : Y). R (f (get_or xs b d)) y) (sym second)
    (keeps (get_or xs a d) (get_or xs b d) (Contains-get_or xs a d (omega (arith, below, inside))) (Contains-get_or xs b d inside) (pairs a b d below inside)))

module _ {X R : Type 0} (stands : X → R → Type 0) where
  -- a row is to come: some node of the stack stands for it
  abbrev pub Comes : List X → R → Type 0
  Comes stack row = (node : X) × Contains stack node × stands node row

  -- no row is stood for by both
  abbrev pub IsApart : X → X → Type 0
  IsApart a b = (row : R) → stands a row → stands b row → ⊥

  -- the last node gives way to nodes that stand for the same rows together
  pub comes_replaced : (front more : List X) (last : X) → ((row : R) → Comes more row ↔ stands last row)
      → (row : R) → Comes (front ++ more) row ↔ Comes (front ++ last ∷ []) row
  comes_replaced front more last same row = (
    λ h. elim (Contains-append_cases front more h.0 h.1) [
      | inl early ↦ (h.0, Contains-append_left front (last ∷ []) h.0 early, h.2)
      | inr late ↦ (last, Contains-push front last, (same row).0 (h.0, late, h.2))
    ],
    λ h. elim (Contains-push_cases front last h.0 h.1) [
      | inl early ↦ (h.0, Contains-append_left front more h.0 early, h.2)
      | inr is ↦ (
          let got = (same row).1 (subst (λ (node : X). stands node row) (sym is) h.2) in
          (got.0, Contains-append_right front more got.0 got.1, got.2))
    ],
  )

  pub apart_replaced : (front more : List X) (last : X) → ((row : R) → Comes more row ↔ stands last row) → AllPairs IsApart more
      → AllPairs IsApart (front ++ last ∷ []) → AllPairs IsApart (front ++ more)
  apart_replaced front more last same within apart =
      AllPairs-append IsApart front more (AllPairs-front IsApart front (last ∷ []) apart) within (λ i j d early late row a b.
      AllPairs-last IsApart front last apart (get_or front i d) (Contains-get_or front i d early) row a
      ((same row).0 (get_or more j d, Contains-get_or more j d late, b)))

module _ {X : Type 0} (stands : X → List Oid → Type 0) where
  -- the last node stands for one row alone, and is taken away
  pub gives_last : (front : List X) (last : X) (row : List Oid) → ((other : List Oid) → stands last other ↔ (other ≡ row))
      → AllPairs (IsApart stands) (front ++ last ∷ []) → Gives (Comes stands (front ++ last ∷ [])) (Comes stands front) row
  gives_last front last row only apart = record {
    came = (last, Contains-push front last, (only row).1 refl);
    others = λ other. (
      λ h. (
        (h.0, Contains-append_left front (last ∷ []) h.0 h.1, h.2),
        λ same. AllPairs-last (IsApart stands) front last apart h.0 h.1 other h.2 ((only other).1 same),
      ),
      λ h. elim (Contains-push_cases front last h.0.0 h.0.1) [
        | inl early ↦ (h.0.0, early, h.0.2)
        | inr is ↦ absurd (h.1 ((only other).0 (subst (λ (node : X). stands node other) (sym is) h.0.2)))
      ],
    );
  }
