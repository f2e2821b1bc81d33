-- What holds of each item of a list and each later one holds in its parts.
use Rattle.std.proofs.Common.{◌≡◌, ◌+◌, ◌-◌, List, [], ◌++◌, length, refl, arith, length-append}
use Rattle.std.specs.List.{AllPairs}
use Rattle.std.proofs.lemmas.List.{get_or_append_left, get_or-append_right}

pub AllPairs-nil : {X : Type 0} (R : X → X → Type 0) → AllPairs R []
AllPairs-nil R i j d lt len = absurd (omega (arith, len))

pub AllPairs-front : {X : Type 0} (R : X → X → Type 0) (xs ys : List X) → AllPairs R (xs ++ ys) → AllPairs R xs
AllPairs-front R xs ys pairs i j d lt len =
    rw (← get_or_append_left xs ys d i (omega arith), ← get_or_append_left xs ys d j len)
    (pairs i j d lt (omega (arith, length-append xs ys)))

pub AllPairs-back : {X : Type 0} (R : X → X → Type 0) (xs ys : List X) → AllPairs R (xs ++ ys) → AllPairs R ys
AllPairs-back R xs ys pairs i j d lt len =
    let i_at = get_or-append_right xs ys (length xs) (length xs + i) d refl (omega arith) in
    let j_at = get_or-append_right xs ys (length xs) (length xs + j) d refl (omega arith) in
    let both = pairs (length xs + i) (length xs + j) d (omega arith) (omega (arith, length-append xs ys)) in
    let i_is : length xs + i - length xs ≡ i = omega arith in
    let j_is : length xs + j - length xs ≡ j = omega arith in
    rw (i_at, j_at, i_is, j_is) at both
