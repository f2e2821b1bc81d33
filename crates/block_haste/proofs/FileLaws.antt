-- Lists of nodes by their blocks: one list more, one node more, and one list emptied.
use Rattle.std.proofs.Common.{◌≡◌, ◌≢◌, ℕ, ◌<◌, ◌≤◌, inl, inr, List, [], ◌∷◌, ◌++◌, length, get_or, set, take, All, Contains, refl, sym, ap, ◌∙◌, subst, arith}
use Rattle.std.proofs.Common.{get_or-set_same, get_or-set_other}
use Rattle.std.specs.Prelude.{slice_index_or}
use Rattle.std.proofs.lemmas.Bool.{cases_lt}
use Rattle.std.proofs.lemmas.List.{get_or_append_left, get_or_past}
use Rattle.std.proofs.lemmas.List.Elements.{All-push, All-weaker, Contains-append_left, Contains-push}
use Rattle.lore_lists.proofs.MemberLaws.{Contains-none}
use Rattle.block_haste.specs.inside.Hastening.{KeepLists, KeepOthers, AreFiled}
use Rattle.block_rounds.proofs.MapLaws.{same_or_not}

-- where something stands in a list there is such a list
list_there : (lists : List (List ℕ)) (number node : ℕ) → Contains (slice_index_or lists number []) node → number < length lists
list_there lists number node at = elim (cases_lt number (length lists)) [
  | inl within ↦ within
  | inr past ↦ absurd (Contains-none node (subst (λ (l : List ℕ). Contains l node) (get_or_past lists number [] (omega (arith, past))) at))
]

pub KeepLists-same : (lists : List (List ℕ)) → KeepLists lists lists
KeepLists-same lists number node at = at

pub KeepLists-then : (old middle new : List (List ℕ)) → KeepLists old middle → KeepLists middle new → KeepLists old new
KeepLists-then old middle new first second number node at = second number node (first number node at)

-- one list more
pub KeepLists-push : (lists pushed : List (List ℕ)) (list : List ℕ) → pushed ≡ lists ++ list ∷ [] → KeepLists lists pushed
KeepLists-push lists pushed list pushes number node at =
    let within = list_there lists number node at in
    subst (λ (l : List (List ℕ)). Contains (get_or l number []) node) (sym pushes)
    (subst (λ (l : List ℕ). Contains l node) (sym (get_or_append_left lists (list ∷ []) [] number within)) at)

module _ (lists next : List (List ℕ)) (number node : ℕ) (within : number < length lists)
    (put : next ≡ set lists number (slice_index_or lists number [] ++ node ∷ [])) where
  put_here : get_or next number [] ≡ slice_index_or lists number [] ++ node ∷ []
  put_here =
      ap (λ (l : List (List ℕ)). get_or l number []) put
      ∙ get_or-set_same lists number (slice_index_or lists number [] ++ node ∷ []) [] within

  -- one node more
  pub KeepLists-put : KeepLists lists next
  KeepLists-put other at held = elim (same_or_not number other) [
    | inl here ↦
        let own = subst (λ (k : ℕ). Contains (slice_index_or lists k []) at) (sym here) held in
        subst (λ (k : ℕ). Contains (slice_index_or next k []) at) here
        (subst (λ (l : List ℕ). Contains l at) (sym put_here) (Contains-append_left (slice_index_or lists number []) (node ∷ []) at own))
    | inr apart ↦
        let read : get_or next other [] ≡ get_or lists other [] =
        ap (λ (l : List (List ℕ)). get_or l other []) put
        ∙ get_or-set_other lists number other (slice_index_or lists number [] ++ node ∷ []) [] (λ same. apart (sym same)) in
        subst (λ (l : List ℕ). Contains l at) (sym read) held
  ]

  pub filed_here : Contains (slice_index_or next number []) node
  filed_here = subst (λ (l : List ℕ). Contains l node) (sym put_here) (Contains-push (slice_index_or lists number []) node)

-- one move more
pub AreFiled-more : (moves : List (ℕ × ℕ)) (move : ℕ × ℕ) (old new : List (List ℕ)) → KeepLists old new
    → Contains (slice_index_or new move.1 []) move.0 → AreFiled moves old → AreFiled (moves ++ move ∷ []) new
AreFiled-more moves move old new kept here before =
    All-push (λ (m : ℕ × ℕ). Contains (slice_index_or new m.1 []) m.0) moves move
    (All-weaker (λ (m : ℕ × ℕ). Contains (slice_index_or old m.1 []) m.0) (λ (m : ℕ × ℕ). Contains (slice_index_or new m.1 []) m.0)
    (λ m at. kept m.1 m.0 at) moves before) here

-- one list emptied
pub KeepOthers-set : (lists next : List (List ℕ)) (number : ℕ) (list : List ℕ) → next ≡ set lists number list → KeepOthers number lists next
KeepOthers-set lists next number list put other node apart held =
    let read : get_or next other [] ≡ get_or lists other [] =
    ap (λ (l : List (List ℕ)). get_or l other []) put ∙ get_or-set_other lists number other list [] apart in
    subst (λ (l : List ℕ). Contains l node) (sym read) held

pub KeepOthers-same : (lists : List (List ℕ)) (number : ℕ) → KeepOthers number lists lists
KeepOthers-same lists number other node apart held = held
