-- Whether the target sets keep the limits: a list of them all tells it.
use Rattle.std.proofs.Common.{◌≢◌, ℕ, ◌↔◌, List, length, AllPairs, Contains, arith}
use Rattle.std.proofs.lemmas.List.Elements.{All-contains}
use Rattle.list_laws.proofs.SumLaws.{distinct_no_longer, sum_by-within}
use Rattle.list_laws.proofs.MemberLaws.{All-from_members}
use Rattle.lore_base.specs.TargetSets.{IsLedTo, AreTargetSets}
use Rattle.lore_base.specs.GuideLimits.{KeepLimits, FitsGuide}
use Rattle.set_explorer.specs.Types.{Oid, Edge}

-- some of the sets of a list that keeps the limits, each once, keep them
pub fewer-keep : (limit : ℕ) (some all : List (List Oid)) → AllPairs (λ a b. a ≢ b) some
    → ((set : List Oid) → Contains some set → Contains all set) → KeepLimits limit all → KeepLimits limit some
fewer-keep limit some all apart within keep = record {
  few = omega (arith, keep.few, distinct_no_longer some all apart within);
  small = omega (arith, keep.small, sum_by-within length some all apart (All-from_members (Contains all) some within));
}

module _ (limit : ℕ) (names : List (List ℕ × Oid)) (edges : List Edge) where
  -- the database fits exactly where the list of all sets keeps the limits
  pub fit-counted : (sets : List (List Oid)) → AreTargetSets names edges sets
      → FitsGuide limit names edges ↔ KeepLimits limit sets
  fit-counted sets are = (
    λ fits. fits sets are.apart (All-from_members (IsLedTo names edges) sets (λ set at. (are.exact set).0 at)),
    λ keep. λ some apart led. fewer-keep limit some sets apart
        (λ set at. (are.exact set).1 (All-contains (IsLedTo names edges) some set led at)) keep,
  )
