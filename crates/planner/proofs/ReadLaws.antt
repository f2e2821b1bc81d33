-- Lists read one by one, and answers that may be missing.
use Rattle.std.proofs.Common.{◌≡◌, ◌+◌, ◌-◌, ◌<◌, ◌≤◌, List, [], ◌∷◌, ◌++◌, length, get_or, take, drop, sym, ap, ◌∙◌, arith, take-append-drop}
use Rattle.std.specs.Prelude.{Option, Some, None, IfSome, IfNone, slice_get}
use Rattle.std.proofs.lemmas.List.{drop_all}
use Rattle.std.proofs.lemmas.Option.{get_or_from_slice_get, slice_get_within}
use Rattle.list_laws.proofs.PartLaws.{drop_more_read}

pub weaker_if_none : {X : Type 0} (o : Option X) (A B : Type 0) → (A → B) → IfNone o A → IfNone o B
weaker_if_none (Some x) A B f held = tt
weaker_if_none None A B f held = f held

pub weaker_if_some : {X : Type 0} (o : Option X) (A B : X → Type 0) → ((x : X) → A x → B x) → IfSome o A → IfSome o B
weaker_if_some (Some x) A B f held = f x held
weaker_if_some None A B f held = tt

-- the last item stands behind the others
pub last_item : {X : Type 0} (xs : List X) (x : X) → slice_get xs (length xs - 1) ≡ Some x → xs ≡ take (length xs - 1) xs ++ x ∷ []
last_item {X} xs x is =
    let within : length xs - 1 < length xs = slice_get_within xs (length xs - 1) x is in
    let here : get_or xs (length xs - 1) x ≡ x = get_or_from_slice_get xs (length xs - 1) x x is in
    let past : length xs ≤ length xs - 1 + 1 = omega arith in
    let last : drop (length xs - 1) xs ≡ x ∷ [] =
    drop_more_read xs (length xs - 1) x within (sym here) ∙ ap (λ (ys : List X). x ∷ ys) (drop_all (length xs - 1 + 1) xs past) in
    sym (take-append-drop (length xs - 1) xs) ∙ ap (λ (ys : List X). take (length xs - 1) xs ++ ys) last
