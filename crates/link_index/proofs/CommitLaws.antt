-- What is kept where links come and go.
use Rattle.std.proofs.Common.{◌≡◌, ℕ, ◌+◌, ◌<◌, Less, List, [], ◌∷◌, length, get_or, take, drop, All, Contains, refl, sym, ap, ◌∙◌, inl, inr, subst, arith}
use Rattle.std.proofs.lemmas.List.{take_more, length-take, take-append-drop, get_or_append_left, get_or_default}
use Rattle.std.proofs.lemmas.List.Elements.{All-contains}
use Rattle.near_links.proofs.SlotLaws.{ascend_listed}
use Rattle.sorted_list.specs.SortedLists.{Ascends, IsChange, IsLessWith}
use Rattle.link_index.specs.declared.link.Link.{Link}
use Rattle.link_index.specs.declared.records.LinkRecord.{LinkRecord}
use Rattle.link_index.specs.declared.heads.Head.{Head}
use Rattle.link_index.specs.inside.LinkEdges.{order}
use Rattle.link_index.specs.inside.Records.{link_in, nothing, links_of, HasLink, AreAscendingHeads, AreChained, ArePut, AreTaken}
use Rattle.link_index.proofs.LinkLaws.{tied_link}
use Rattle.link_index.proofs.RecordLaws.{link_total, link_self, less≢equal, put_more, take_more as taken_more}
use Rattle.link_index.proofs.RunLaws.{links_lie}

-- ---- one after another
pub put_none : (heads : List Head) (records : List LinkRecord) → AreAscendingHeads heads → AreChained heads records → ArePut [] records heads records
put_none heads records ascend chained = record {
  ascend = ascend;
  chained = chained;
  links = λ x. (λ has. inl has, λ either. elim either [ inl old ↦ old | inr at ↦ absurd (omega (arith, at.1)) ]);
  kept = λ k x lies. lies;
}

pub put_step : (come : List Link) (i : ℕ) (d : Link) → i < length come → (h1 h2 : List Head) (r0 r1 r2 : List LinkRecord) → ArePut (take i come) r0 h1 r1
    → ArePut (get_or come i d ∷ []) r1 h2 r2 → ArePut (take (i + 1) come) r0 h2 r2
put_step come i d lt h1 h2 r0 r1 r2 all one =
    subst (λ (xs : List Link). ArePut xs r0 h2 r2) (sym (take_more come i d lt)) (put_more (take i come) (get_or come i d) h1 h2 r0 r1 r2 all one)

pub taken_none : (heads : List Head) (records : List LinkRecord) → AreAscendingHeads heads → AreChained heads records → AreTaken [] heads records heads records
taken_none heads records ascend chained = record {
  children = refl;
  len = refl;
  ascend = ascend;
  chained = chained;
  links = λ x. (λ has. (has, λ at. absurd (omega (arith, at.1))), λ both. both.0);
  kept = λ k x lies stays. lies;
}

pub taken_step : (gone : List Link) (i : ℕ) (d : Link) → i < length gone → (h0 h1 h2 : List Head) (r0 r1 r2 : List LinkRecord) → AreTaken (take i gone) h0 r0 h1 r1
    → AreTaken (get_or gone i d ∷ []) h1 r1 h2 r2 → AreTaken (take (i + 1) gone) h0 r0 h2 r2
taken_step gone i d lt h0 h1 h2 r0 r1 r2 all one =
    subst (λ (xs : List Link). AreTaken xs h0 r0 h2 r2) (sym (take_more gone i d lt)) (taken_more (take i gone) (get_or gone i d) h0 h1 h2 r0 r1 r2 all one)

-- a link isn't among those before it
not_before : (links : List Link) → Ascends order links → (i : ℕ) (d : Link) → i < length links → Contains (take i links) (get_or links i d) → ⊥
not_before links ascends i d lt at =
    let e = get_or links i d in
    let k = at.0 in
    let lt_k : k < i = omega (arith, at.1, length-take i links) in
    let read : get_or links k e ≡ e =
    ap (λ (xs : List Link). get_or xs k e) (sym (take-append-drop i links)) ∙ get_or_append_left (take i links) (drop i links) e k at.1 ∙ at.2 in
    let here : get_or links i e ≡ e = get_or_default links i e d lt in
    less≢equal (sym (subst (λ (x : Link). order x e ≡ Less) read (subst (λ (x : Link). order (get_or links k e) x ≡ Less) here (ascends k i e lt_k lt))) ∙ link_self e)

pub fresh_at : (come : List Link) (heads : List Head) (r0 r1 : List LinkRecord) (i : ℕ) (d : Link) → ArePut (take i come) r0 heads r1 → Ascends order come
    → All (λ link. ¬ HasLink r0 link) come → i < length come → ¬ HasLink r1 (get_or come i d)
fresh_at come heads r0 r1 i d put ascends new lt has = elim ((put.links (get_or come i d)).0 has) [
  | inl old ↦ new i d lt old
  | inr at ↦ not_before come ascends i d lt at
]

pub still_has : (gone : List Link) (h0 h1 : List Head) (r0 r1 : List LinkRecord) (i : ℕ) (d : Link) → AreTaken (take i gone) h0 r0 h1 r1 → Ascends order gone
    → All (HasLink r0) gone → i < length gone → HasLink r1 (get_or gone i d)
still_has gone h0 h1 r0 r1 i d taken ascends has lt = (taken.links (get_or gone i d)).1 (has i d lt, not_before gone ascends i d lt)

-- ---- the whole change
pub new_links : (kept gone come : List Link) → IsChange kept gone come → All (λ link. ¬ Contains gone link) come → All (λ link. ¬ Contains kept link) come
new_links kept gone come change apart k d lt at = change.new_ones k d lt (at, apart k d lt)

pub all_lack : (records : List LinkRecord) (come : List Link) → All (λ link. ¬ Contains (links_of records) link) come → All (λ link. ¬ HasLink records link) come
all_lack records come lack k d lt has = lack k d lt ((links_lie records (get_or come k d)).1 has)

pub all_have : (records : List LinkRecord) (gone : List Link) → All (Contains (links_of records)) gone → All (HasLink records) gone
all_have records gone kept k d lt = (links_lie records (get_or gone k d)).0 (kept k d lt)

pub all_still : (come : List Link) (heads : List Head) (r0 r1 : List LinkRecord) → ArePut come r0 heads r1 → (gone : List Link) → All (HasLink r0) gone → All (HasLink r1) gone
all_still come heads r0 r1 put gone has k d lt = (put.links (get_or gone k d)).1 (inl (has k d lt))

pub less_with : (gone come : List Link) (h1 h2 h3 : List Head) (r0 r1 r2 : List LinkRecord) → ArePut come r0 h1 r1 → AreTaken gone h2 r1 h3 r2
    → All (HasLink r0) gone → All (λ link. ¬ HasLink r0 link) come → IsLessWith (links_of r0) gone come (links_of r2)
less_with gone come h1 h2 h3 r0 r1 r2 put taken has new link = (
  λ at.
      let both = (taken.links link).0 ((links_lie r2 link).0 at) in
      elim ((put.links link).0 both.0) [
        | inl old ↦ inr ((links_lie r0 link).1 old, both.1)
        | inr comes ↦ inl comes
      ],
  λ then. (links_lie r2 link).1 ((taken.links link).1 (elim then [
    | inl comes ↦ ((put.links link).1 (inr comes), λ goes. All-contains (λ (x : Link). ¬ HasLink r0 x) come link new comes (All-contains (HasLink r0) gone link has goes))
    | inr both ↦ ((put.links link).1 (inl ((links_lie r0 link).0 both.0)), both.1)
  ])),
)

pub links_ascend : (records : List LinkRecord) → Ascends order (links_of records)
links_ascend records = ascend_listed link_in order tied_link nothing refl link_total records
