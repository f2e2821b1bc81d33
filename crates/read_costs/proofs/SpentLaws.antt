-- What is spent: nothing, more widely, on the same things twice, and within the cost of all that pass.
use Rattle.std.proofs.Common.{◌≡◌, ◌≢◌, ℕ, ◌+◌, ◌≤◌, ◌⊎◌, inl, inr, Bool, true, cond, List, [], ◌∷◌, get_or, All, AllPairs, Contains, sym, arith}
use Rattle.std.specs.List.{sum_by, filter}
use Rattle.std.proofs.lemmas.List.Elements.{All-nil, All-cons, All-weaker, All-contains, Contains-get_or}
use Rattle.std.proofs.lemmas.List.Kept.{AllPairs-cons, AllPairs-filter}
use Rattle.lore_base.proofs.MemberLaws.{Contains-head, Contains-tail, Contains-cases, Contains-same, unfiltered}
use Rattle.lore_base.proofs.ToldLaws.{IsTold, told_member}
use Rattle.list_laws.proofs.SumLaws.{sum_by-within}
use Rattle.list_laws.proofs.MemberLaws.{All-from_members}
use Rattle.list_laws.proofs.PairLaws.{AllPairs-nil}
use Rattle.read_costs.specs.Spent.{IsSpent}
use Rattle.read_costs.specs.Concerned.{IsInDoubt}
use Rattle.read_costs.specs.Laws.{SpentIsWithinAll}
use Rattle.read_costs.proofs.SumLaws.{sum_by-plus, sum_by-wider, sum_by-picked}

-- two lists as one, each thing once
record Joined {X : Type 0} (xs ys : List X) : Type 0 where
  all : List X
  apart : AllPairs (λ a b. a ≢ b) all
  among : (x : X) → Contains all x → Contains xs x ⊎ Contains ys x
  first : All (Contains all) xs
  second : All (Contains all) ys

module _ {X : Type 0} (same : (a b : X) → IsTold (a ≡ b)) where
  join : (xs ys : List X) → AllPairs (λ a b. a ≢ b) xs → Joined xs ys
  join xs [] apart = record {
    all = xs;
    apart = apart;
    among = λ x at. inl at;
    first = λ k d within. Contains-get_or xs k d within;
    second = All-nil (Contains xs);
  }
  join xs (y ∷ ys) apart =
      let rest = join xs ys apart in
      elim (told_member same rest.all y) [
        | inl there ↦ record {
          all = rest.all;
          apart = rest.apart;
          among = λ x at. elim (rest.among x at) [ inl h ↦ inl h | inr h ↦ inr (Contains-tail y ys x h) ];
          first = rest.first;
          second = All-cons (Contains rest.all) y ys there rest.second;
        }
        | inr new ↦ record {
          all = y ∷ rest.all;
          apart = AllPairs-cons (λ a b. a ≢ b) y rest.all
              (λ k d within is. new (Contains-same rest.all (get_or rest.all k d) y (sym is) (Contains-get_or rest.all k d within))) rest.apart;
          among = λ x at. elim (Contains-cases y rest.all x at) [
            | inl is ↦ inr (Contains-same (y ∷ ys) y x is (Contains-head y ys))
            | inr later ↦ elim (rest.among x later) [ inl h ↦ inl h | inr h ↦ inr (Contains-tail y ys x h) ]
          ];
          first = All-weaker (Contains rest.all) (Contains (y ∷ rest.all)) (λ x h. Contains-tail y rest.all x h) xs rest.first;
          second = All-cons (Contains (y ∷ rest.all)) y ys (Contains-head y rest.all)
              (All-weaker (Contains rest.all) (Contains (y ∷ rest.all)) (λ x h. Contains-tail y rest.all x h) ys rest.second);
        }
      ]

  -- what two calls have spent on the same things, one after the other
  pub IsSpent-both : (P : X → Type 0) (f g : X → ℕ) (old mid now : ℕ) → IsSpent P f old mid → IsSpent P g mid now
      → IsSpent P (λ x. f x + g x) old now
  IsSpent-both P f g old mid now first second =
      let union = join first.paid second.paid first.apart in
      let one : sum_by f first.paid ≤ sum_by f union.all = sum_by-within f first.paid union.all first.apart union.first in
      let two : sum_by g second.paid ≤ sum_by g union.all = sum_by-within g second.paid union.all second.apart union.second in
      record {
        paid = union.all;
        apart = union.apart;
        among = All-from_members P union.all (λ x at. elim (union.among x at) [
          | inl h ↦ All-contains P first.paid x first.among h
          | inr h ↦ All-contains P second.paid x second.among h
        ]);
        within = omega (arith, first.within, second.within, one, two, sum_by-plus f g union.all);
      }

-- nothing was spent
pub IsSpent-none : {X : Type 0} (P : X → Type 0) (cost : X → ℕ) (old : ℕ) → IsSpent P cost old old
IsSpent-none {X} P cost old = record {
  paid = [];
  apart = AllPairs-nil (λ a b. a ≢ b);
  among = All-nil P;
  within = omega arith;
}

-- more things pass, and they cost more
pub IsSpent-wider : {X : Type 0} (P Q : X → Type 0) (f g : X → ℕ) (old now : ℕ) → ((x : X) → P x → Q x) → ((x : X) → f x ≤ g x)
    → IsSpent P f old now → IsSpent Q g old now
IsSpent-wider {X} P Q f g old now passes le spent = record {
  paid = spent.paid;
  apart = spent.apart;
  among = All-weaker P Q passes spent.paid spent.among;
  within = (let wider : sum_by f spent.paid ≤ sum_by g spent.paid = sum_by-wider f g le spent.paid in omega (arith, spent.within, wider));
}

-- what is spent is within the cost of any list that holds all that passes
pub IsSpent-all : {X : Type 0} (P : X → Type 0) (cost : X → ℕ) (old now : ℕ) → IsSpent P cost old now
    → (all : List X) → ((x : X) → P x → Contains all x) → now ≤ old + sum_by cost all
IsSpent-all {X} P cost old now spent all whole =
    let among : All (Contains all) spent.paid = All-weaker P (Contains all) whole spent.paid spent.among in
    let few : sum_by cost spent.paid ≤ sum_by cost all = sum_by-within cost spent.paid all spent.apart among in
    omega (arith, spent.within, few)

pub spent_is_within_all : SpentIsWithinAll
spent_is_within_all before changes between cost old now spent all whole =
    IsSpent-all (IsInDoubt before changes between) cost old now spent all whole

-- an exact count over a list that has each thing once
pub IsSpent-exact : {X : Type 0} (P : X → Type 0) (cost : X → ℕ) (paid : List X) (old now : ℕ) → AllPairs (λ a b. a ≢ b) paid
    → All P paid → now ≡ old + sum_by cost paid → IsSpent P cost old now
IsSpent-exact {X} P cost paid old now apart among is = record {
  paid = paid;
  apart = apart;
  among = among;
  within = omega (arith, is);
}

-- what was spent on those of a list that a test picks, where the others are free
pub IsSpent-picked : {X : Type 0} (P : X → Type 0) (cost : X → ℕ) (test : X → Bool) (xs : List X) (old now : ℕ)
    → AllPairs (λ a b. a ≢ b) xs → ((x : X) → Contains xs x → test x ≡ true → P x)
    → now ≡ old + sum_by (λ x. cond (test x) (cost x) 0) xs → IsSpent P cost old now
IsSpent-picked {X} P cost test xs old now apart passes is = record {
  paid = filter test xs;
  apart = AllPairs-filter (λ (a b : X). a ≢ b) test xs apart;
  among = All-from_members P (filter test xs) (λ x at. let picked = unfiltered test xs x at in passes x picked.0 picked.1);
  within = omega (arith, is, sum_by-picked cost test xs);
}

-- a sum that was spent, counted from any number on
pub IsSpent-from : {X : Type 0} (P : X → Type 0) (cost : X → ℕ) (old now start : ℕ) (spent : IsSpent P cost old now)
    → IsSpent P cost start (start + sum_by cost spent.paid)
IsSpent-from P cost old now start spent = record {
  paid = spent.paid;
  apart = spent.apart;
  among = spent.among;
  within = omega arith;
}
