-- Signatures: made by a map and a sort; equal ones say that nodes are entered alike.
use Rattle.std.proofs.Common.{◌≡◌, ◌↔◌, ℕ, ◌<◌, ◌&&◌, Bool, true, false, nat_eq, Less, List, [], length, map, get_or, AllPairs, Contains, refl, sym, ap, ◌∙◌, subst, arith}
use Rattle.std.proofs.lemmas.Bool.{true≢false}
use Rattle.std.proofs.lemmas.Bool.Decides.{nat_tests}
use Rattle.std.proofs.lemmas.List.Elements.{AllZip-get_or}
use Rattle.std.specs.Cmp.{IsTotalOrder}
use Rattle.std.specs.Ordering.{ordering_reverse}
use Rattle.std.proofs.lemmas.Cmp.{then_total, on_total, nat_cmp_total}
use Rattle.block_rounds.specs.Partitions.{AreEnteredAlike}
use Rattle.block_rounds.specs.inside.Signatures.{IsSignature, AreSignatures, pair_cmp}
use Rattle.list_laws.proofs.MemberLaws.{Contains-map, Contains-from_map}
use Rattle.lore_lists.proofs.ListLaws.{AllPairs-unique}

pub same_number : (a b : ℕ) → nat_eq a b ≡ true → a ≡ b
same_number a b h = grind (arith, nat_tests)

pub left : (b c : Bool) → (b && c) ≡ true → b ≡ true
left true c h = refl
left false c h = h

pub right : (b c : Bool) → (b && c) ≡ true → c ≡ true
right true c h = h
right false c h = absurd (true≢false (sym h))

-- pairs that the test takes for equal are one
pub same_pair : (a b : ℕ × ℕ) → (nat_eq a.0 b.0 && nat_eq a.1 b.1) ≡ true → a ≡ b
same_pair a b same = λ i. (
  same_number a.0 b.0 (left (nat_eq a.0 b.0) (nat_eq a.1 b.1) same) i,
  same_number a.1 b.1 (right (nat_eq a.0 b.0) (nat_eq a.1 b.1) same) i,
)

pair_total : IsTotalOrder pair_cmp
pair_total = then_total (on_total (λ (p : ℕ × ℕ). p.0) nat_cmp_total) (on_total (λ (p : ℕ × ℕ). p.1) nat_cmp_total)

pair_once : (a b : ℕ × ℕ) → pair_cmp a b ≡ Less → pair_cmp b a ≡ Less → ⊥
pair_once a b first second =
    let greater : Less ≡ ordering_reverse Less = sym first ∙ pair_total.antisymm a b ∙ ap ordering_reverse second in cc

abbrev pub signed : List ℕ → ℕ × ℕ → ℕ × ℕ
signed numbers entry = (entry.0, get_or numbers entry.1 0)

-- the entries of a row with the numbers of their blocks, in order, are its signature
pub IsSignature-made : (row : List (ℕ × ℕ)) (numbers : List ℕ) (listed signature : List (ℕ × ℕ)) → listed ≡ map (signed numbers) row
    → AllPairs (λ a b. pair_cmp a b ≡ Less) signature → ((from : ℕ × ℕ) → Contains signature from ↔ Contains listed from) → IsSignature row numbers signature
IsSignature-made row numbers listed signature is ascending same = record {
  ascending = ascending;
  exact = λ from. (
    λ at.
        let source = Contains-from_map (signed numbers) row from (subst (λ (l : List (ℕ × ℕ)). Contains l from) is ((same from).0 at)) in (
          source.0.1,
          subst (λ (label : ℕ). Contains row (label, source.0.1)) (ap (λ (p : ℕ × ℕ). p.0) source.2) source.1,
          ap (λ (p : ℕ × ℕ). p.1) source.2,
        ),
    λ at.
        let image : Contains (map (signed numbers) row) (from.0, get_or numbers at.0 0) = Contains-map (signed numbers) row (from.0, at.0) at.1 in
        let named : Contains (map (signed numbers) row) from = subst (λ (number : ℕ). Contains (map (signed numbers) row) (from.0, number)) at.2 image in
        (same from).1 (subst (λ (l : List (ℕ × ℕ)). Contains l from) (sym is) named),
  );
}

-- nodes with one signature are entered alike, and the other way round
pub alike_from_signatures : (rows signatures : List (List (ℕ × ℕ))) (numbers : List ℕ) → AreSignatures rows numbers signatures
    → (x y : ℕ) → x < length rows → y < length rows → get_or signatures x [] ≡ get_or signatures y [] → AreEnteredAlike rows numbers x y
alike_from_signatures rows signatures numbers signs x y x_live y_live same from =
    let first = (AllZip-get_or (λ row signature. IsSignature row numbers signature) rows signatures x [] [] signs x_live).exact from in
    let second = (AllZip-get_or (λ row signature. IsSignature row numbers signature) rows signatures y [] [] signs y_live).exact from in (
      λ at. second.0 (subst (λ (l : List (ℕ × ℕ)). Contains l from) same (first.1 at)),
      λ at. first.0 (subst (λ (l : List (ℕ × ℕ)). Contains l from) (sym same) (second.1 at)),
    )

pub signatures_from_alike : (rows signatures : List (List (ℕ × ℕ))) (numbers : List ℕ) → AreSignatures rows numbers signatures
    → (x y : ℕ) → x < length rows → y < length rows → AreEnteredAlike rows numbers x y → get_or signatures x [] ≡ get_or signatures y []
signatures_from_alike rows signatures numbers signs x y x_live y_live alike =
    let first = AllZip-get_or (λ row signature. IsSignature row numbers signature) rows signatures x [] [] signs x_live in
    let second = AllZip-get_or (λ row signature. IsSignature row numbers signature) rows signatures y [] [] signs y_live in
    AllPairs-unique (λ (a : ℕ × ℕ) (b : ℕ × ℕ). pair_cmp a b ≡ Less) pair_once (get_or signatures x []) (get_or signatures y []) first.ascending second.ascending
    (λ from. (
      λ at. (second.exact from).1 ((alike from).0 ((first.exact from).0 at)),
      λ at. (first.exact from).1 ((alike from).1 ((second.exact from).0 at)),
    ))
