-- Children that no edge enters, as they are taken out of the list one after another.
use Rattle.std.proofs.Common.{◌≡◌, ◌≢◌, ℕ, ◌+◌, ◌-◌, ◌<◌, ◌≤◌, Option, None, List, [], ◌∷◌, ◌++◌, length, get_or, set, take, drop, cond, nat_eq, Contains, refl, sym, ap, ◌∙◌, inl, inr, subst, arith, length-append}
use Rattle.std.specs.List.{remove}
use Rattle.std.proofs.lemmas.Bool.{cases_eq}
use Rattle.std.proofs.lemmas.List.{take-append-drop, take_more_set, drop_more, drop_all, append-nil, append_assoc, length-set, drop-set-lt}
use Rattle.std.proofs.lemmas.List.Edits.{remove-append_right}
use Rattle.std.proofs.lemmas.List.Quantifiers.{all_pairs_remove}
use Rattle.lore_base.proofs.ListLaws.{AllPairs-tail, AllPairs-head}
use Rattle.lore_base.proofs.MemberLaws.{Contains-head, Contains-tail}
use Rattle.link_index.specs.Types.{Oid}
use Rattle.link_index.specs.declared.heads.Head.{Head}
use Rattle.link_index.specs.inside.Records.{head_of, AreAscendingHeads}
use Rattle.link_index.specs.inside.Heads.{SameHeads}
use Rattle.link_index.proofs.HeadLaws.{head-past, head-here, same_trans}

-- the heads before the one place, and those from the other on
abbrev left : List Head → ℕ → ℕ → List Head
left heads end place = take end heads ++ drop place heads

-- so far the heads that stay moved forward: what is left of them is as it was, but for children without records
pub record AreMoved (old now : List Head) (end place : ℕ) : Type 0 where
  pub before : end ≤ place
  pub within : place ≤ length now
  pub ascend : AreAscendingHeads (left now end place)
  pub same : SameHeads old (left now end place)

pub moved_none : (heads : List Head) (first : ℕ) → first ≤ length heads → AreAscendingHeads heads → AreMoved heads heads first first
moved_none heads first within ascend = record {
  before = omega arith;
  within = within;
  ascend = subst AreAscendingHeads (sym (take-append-drop first heads)) ascend;
  same = subst (SameHeads heads) (sym (take-append-drop first heads)) (λ child. refl);
}

-- ---- one that stays
pub moved_stays : (old now new : List Head) (end place end_then : ℕ) (head : Head) → AreMoved old now end place → place < length now → head ≡ get_or now place head
    → new ≡ set now end head → end_then ≡ end + 1 → AreMoved old new end_then (place + 1)
moved_stays old now new end place end_then head moved lt at is end_is = subst (λ (l : List Head). AreMoved old l end_then (place + 1)) (sym is)
    (subst (λ (n : ℕ). AreMoved old (set now end head) n (place + 1)) (sym end_is) (record {
      before = omega (arith, moved.before);
      within = omega (arith, lt, length-set now end head);
      ascend = subst AreAscendingHeads (sym all) moved.ascend;
      same = subst (SameHeads old) (sym all) moved.same;
    }))
  where
    all : left (set now end head) (end + 1) (place + 1) ≡ left now end place
    all = ap (λ (l : List Head). l ++ drop (place + 1) (set now end head)) (take_more_set now end head (omega (arith, lt, moved.before)))
        ∙ ap (λ (l : List Head). (take end now ++ head ∷ []) ++ l) (drop-set-lt (place + 1) now end head (omega (arith, moved.before)))
        ∙ append_assoc (take end now) (head ∷ []) (drop (place + 1) now)
        ∙ ap (λ (x : Head). take end now ++ x ∷ drop (place + 1) now) at
        ∙ ap (λ (l : List Head). take end now ++ l) (sym (drop_more now place head lt))

-- ---- one that goes
-- a child at the head of the list stands nowhere behind it
none_behind : (head : Head) (heads : List Head) → AreAscendingHeads (head ∷ heads) → (child : Oid) → head.child.0 ≡ child.0 → head_of heads child ≡ None
none_behind head heads ascend child same = go heads (λ x at. AllPairs-head (λ (a b : Head). a.child.0 < b.child.0) head heads ascend x at)
  where
    go : (xs : List Head) → ((x : Head) → Contains xs x → head.child.0 < x.child.0) → head_of xs child ≡ None
    go [] above = refl
    go (x ∷ xs) above =
        let more = above x (Contains-head x xs) in
        let other : x.child.0 ≢ child.0 = omega (arith, more, same) in
        head-past x xs child other ∙ go xs (λ y at. above y (Contains-tail x xs y at))

left_out : (front : List Head) (head : Head) (back : List Head) → head.first ≡ None → AreAscendingHeads (front ++ head ∷ back) → SameHeads (front ++ head ∷ back) (front ++ back)
left_out [] head back none ascend child = elim (cases_eq head.child.0 child.0) [
  | inl same ↦ none_behind head back ascend child same ∙ sym none ∙ sym (head-here head back child same)
  | inr other ↦ sym (head-past head back child other)
]
left_out (first ∷ front) head back none ascend child =
    ap (λ (h : Option ℕ). cond (nat_eq first.child.0 child.0) first.first h)
    (left_out front head back none (AllPairs-tail (λ (a b : Head). a.child.0 < b.child.0) first (front ++ head ∷ back) ascend) child)

still_ascend : (front : List Head) (head : Head) (back : List Head) → AreAscendingHeads (front ++ head ∷ back) → AreAscendingHeads (front ++ back)
still_ascend front head back ascend =
    subst AreAscendingHeads (remove-append_right front (head ∷ back) (length front) (length front) refl (omega arith) ∙ ap (λ (k : ℕ). front ++ remove (head ∷ back) k) none_before)
    (all_pairs_remove (λ (a b : Head). a.child.0 < b.child.0) (front ++ head ∷ back) (length front) within ascend)
  where
    none_before : length front - length front ≡ 0
    none_before = omega arith

    within : length front < length (front ++ head ∷ back)
    within = omega (arith, length-append front (head ∷ back))

pub moved_goes : (old now new : List Head) (end place end_then : ℕ) (head : Head) → AreMoved old now end place → place < length now → head ≡ get_or now place head → head.first ≡ None
    → new ≡ now → end_then ≡ end → AreMoved old new end_then (place + 1)
moved_goes old now new end place end_then head moved lt at none is end_is = subst (λ (l : List Head). AreMoved old l end_then (place + 1)) (sym is)
    (subst (λ (n : ℕ). AreMoved old now n (place + 1)) (sym end_is) (record {
      before = omega (arith, moved.before);
      within = omega (arith, lt);
      ascend = still_ascend (take end now) head (drop (place + 1) now) ascend;
      same = same_trans old (take end now ++ head ∷ drop (place + 1) now) (left now end (place + 1)) (subst (SameHeads old) here moved.same)
          (left_out (take end now) head (drop (place + 1) now) none ascend);
    }))
  where
    here : left now end place ≡ take end now ++ head ∷ drop (place + 1) now
    here = ap (λ (l : List Head). take end now ++ l) (drop_more now place head lt) ∙ ap (λ (x : Head). take end now ++ x ∷ drop (place + 1) now) (sym at)

    ascend : AreAscendingHeads (take end now ++ head ∷ drop (place + 1) now)
    ascend = subst AreAscendingHeads here moved.ascend

-- ---- all
pub moved_all : (old now : List Head) (end place : ℕ) → AreMoved old now end place → length now ≤ place → AreAscendingHeads (take end now) × SameHeads old (take end now)
moved_all old now end place moved past = (subst AreAscendingHeads whole moved.ascend, subst (SameHeads old) whole moved.same)
  where
    whole : left now end place ≡ take end now
    whole = ap (λ (l : List Head). take end now ++ l) (drop_all place now past) ∙ append-nil (take end now)
