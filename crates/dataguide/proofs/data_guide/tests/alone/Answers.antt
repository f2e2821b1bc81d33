use Rattle.std.proofs.Common.{◌≡◌, ◌≢◌, ℕ, List, [], ◌∷◌, ◌++◌, All, AllPairs, sym, ap, ◌∙◌, subst, arith}
use Rattle.std.proofs.lemmas.List.Elements.{All-cons, All-nil, All-get_or}
use Rattle.std.proofs.lemmas.Option.{slice_get_within, get_or_from_slice_get}
use Rattle.dataguide.specs.Types.{Oid, Node, GuideNode, DeltaNode, Kept, Fresh}
use Rattle.set_explorer.specs.Nodes.{sets_of}
use Rattle.dataguide.specs.Deltas.{PlannedGuide, IsReady}
use Rattle.set_explorer.specs.PlannedNodes.{IsOrigin, nodes_then}
use Rattle.dataguide.proofs.data_guide.tests.alone.Goals as goal

abbrev fresh : List Oid → DeltaNode
fresh set = record { origin = Fresh set; edges = [] }

-- one fresh node is ready for any guide
ready : (kept : List GuideNode) (set : List Oid) → IsReady kept (record { nodes = fresh set ∷ []; entries = [] })
ready kept set = record {
  keeps = record {
    origins = All-cons (λ (planned : DeltaNode). IsOrigin kept planned.origin) (fresh set) [] tt
        (All-nil (λ (planned : DeltaNode). IsOrigin kept planned.origin));
    once = λ i j a b node at_i at_j kept_a kept_b. (
        let P : DeltaNode → Type 0 = λ planned. planned.origin ≡ Kept node → ⊥ in
        let none = All-cons P (fresh set) [] (λ is. (let clash : Fresh set ≡ Kept node = is in cc)) (All-nil P) in
        absurd (subst P (get_or_from_slice_get (fresh set ∷ []) i a a at_i)
        (All-get_or P (fresh set ∷ []) i a (slice_get_within (fresh set ∷ []) i a at_i) none) kept_a));
  };
  apart = λ i j d less within. absurd (omega (arith, less, within));
}

pub commit-requires : goal.commit-requires
commit-requires c =
    let one : c.entry.new.self.nodes ≡ fresh c.in_ok-set.set ∷ [] = ap (λ (p : PlannedGuide). p.nodes) c.in_ok-entry.ensures.ok
    ∙ ap (λ (p : PlannedGuide). p.nodes) c.in_ok-place.ensures.ok
    ∙ ap (λ (p : PlannedGuide). p.nodes ++ fresh c.in_ok-set.set ∷ []) c.new-delta.ensures in
    let is = ready c.new-guide.result.nodes c.in_ok-set.set in
    record {
      keeps = rw one is.keeps;
      apart = rw one is.apart;
    }
