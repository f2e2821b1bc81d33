-- Records in a slab where one link is set.
use Rattle.std.proofs.Common.{◌≡◌, ◌≢◌, ℕ, Option, Some, None, cond, is_some, get_or, refl, sym, ap, ◌∙◌, inl, inr, arith}
use Rattle.std.proofs.lemmas.Bool.{cases_eq}
use Rattle.std.proofs.lemmas.List.Sums.{sum_by-set}
use Rattle.slab.specs.Slab.{Slab, get, with_value, slab_len, Updates}
use Rattle.slab.proofs.SlabLemmas.{Updates-with_value, ContainsKey-within}
use Rattle.edge_lists.specs.Types.{Side, Out, In, Way, Before, After, EdgeRecord}
use Rattle.edge_lists.specs.Records.{link_of, with_link, link_in, edge_in, IsRelinked}

set_same : (side : Side) (way : Way) (link : Option ℕ) (r : EdgeRecord) → link_of side way (with_link side way link r) ≡ link
set_same Out Before link r = refl
set_same Out After link r = refl
set_same In Before link r = refl
set_same In After link r = refl

set_way : (side : Side) (way w : Way) (link : Option ℕ) (r : EdgeRecord) → w ≢ way → link_of side w (with_link side way link r) ≡ link_of side w r
set_way side Before Before link r other = absurd (other refl)
set_way side After After link r other = absurd (other refl)
set_way Out Before After link r other = refl
set_way Out After Before link r other = refl
set_way In Before After link r other = refl
set_way In After Before link r other = refl

set_side : (side s : Side) (way w : Way) (link : Option ℕ) (r : EdgeRecord) → s ≢ side → link_of s w (with_link side way link r) ≡ link_of s w r
set_side Out Out way w link r other = absurd (other refl)
set_side In In way w link r other = absurd (other refl)
set_side Out In Before Before link r other = refl
set_side Out In Before After link r other = refl
set_side Out In After Before link r other = refl
set_side Out In After After link r other = refl
set_side In Out Before Before link r other = refl
set_side In Out Before After link r other = refl
set_side In Out After Before link r other = refl
set_side In Out After After link r other = refl

set_edge : (side : Side) (way : Way) (link : Option ℕ) (r : EdgeRecord) → (with_link side way link r).edge ≡ r.edge
set_edge Out Before link r = refl
set_edge Out After link r = refl
set_edge In Before link r = refl
set_edge In After link r = refl

-- a value written over another leaves the count
same_count : (s : Slab EdgeRecord) (key : ℕ) (r new : EdgeRecord) → get s key ≡ Some r → slab_len (with_value s key new) ≡ slab_len s
same_count s key r new at =
    let within = ContainsKey-within s key (ap is_some at) in
    let counts = sum_by-set (λ o. cond (is_some o) 1 0) s.slots key (Some new) None within in
    let one : ◌≡◌ {A = ℕ} (cond (is_some (get_or s.slots key None)) 1 0) 1 = ap (λ (o : Option EdgeRecord). cond (is_some o) 1 0) at in
    omega (arith, counts, one)

pub relinked : (s : Slab EdgeRecord) (side : Side) (way : Way) (key : ℕ) (link : Option ℕ) (r : EdgeRecord) → get s key ≡ Some r
    → IsRelinked s side way key link (with_value s key (with_link side way link r))
relinked s side way key link r at = record {
  edges = record {
    edges = λ j. at_key (λ o. edge_in o) j (ap Some (set_edge side way link r));
    len = same_count s key r (with_link side way link r) at;
    capacity = refl;
  };
  set = ap (link_in side way) updates.changed ∙ set_same side way link r;
  others = λ j other w. ap (link_in side w) (updates.others j other);
  other_way = λ w other j. at_key (link_in side w) j (set_way side way w link r other);
  other_side = λ t other w j. at_key (link_in t w) j (set_side side t way w link r other);
}
  where
    updates : Updates s (with_value s key (with_link side way link r)) key (Some (with_link side way link r))
    updates = Updates-with_value s key (with_link side way link r) (ap is_some at)

    at_key : {T : Type 0} (f : Option EdgeRecord → T) (j : ℕ) → f (Some (with_link side way link r)) ≡ f (Some r)
        → f (get (with_value s key (with_link side way link r)) j) ≡ f (get s j)
    at_key f j same = elim (cases_eq j key) [
      | inl is ↦ ap (λ k. f (get (with_value s key (with_link side way link r)) k)) is ∙ ap f updates.changed ∙ same ∙ ap f (sym at) ∙ ap (λ k. f (get s k)) (sym is)
      | inr other ↦ ap f (updates.others j other)
    ]
