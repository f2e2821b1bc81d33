-- What enters an object where none of it is lost or fresh.
use Rattle.std.proofs.Common.{◌≡◌, Bool, true, false, cond, not, Option, Some, None, is_some, List, [], ◌∷◌, ◌++◌, map, Contains, refl, sym, ap, ◌∙◌, inl, inr, subst, arith}
use Rattle.std.specs.List.{filter}
use Rattle.std.proofs.lemmas.List.{append-nil}
use Rattle.std.proofs.lemmas.Bool.{true≢false}
use Rattle.slab.specs.Slab.{Slab}
use Rattle.lore_base.specs.Walks.{out_of}
use Rattle.edge_lists.specs.Runs.{ListsRun}
use Rattle.edge_layers.specs.Types.{Oid, Label, Edge, In, EdgeRecord}
use Rattle.edge_layers.specs.Turned.{turn, has_label, ListsLayered}
use Rattle.edge_layers.proofs.TurnLaws.{in_turned, ascend_turned, in_run}

-- what is turned round twice is as it was
turned_twice : (edges : List Edge) → edges ≡ map (turn In) (filter (has_label None) (map (turn In) edges))
turned_twice [] = refl
turned_twice (edge ∷ edges) = ap (λ l. edge ∷ l) (turned_twice edges)

-- where no edge that enters the object is lost or fresh they are its list of the records
kept_entering : (records : Slab EdgeRecord) (lost fresh : List Edge) (oid : Oid) (old new : List Edge) → ListsRun In records oid old new → out_of oid lost ≡ [] → out_of oid fresh ≡ []
    → (more : List Edge) × (new ≡ old ++ more) × ListsLayered records lost fresh oid None more
kept_entering records lost fresh oid old new lists no_lost no_fresh = (
  lists.run,
  lists.is,
  (
    map (turn In) lists.run,
    record {
      ascend = ascend_turned In lists.run lists.ascends;
      exact = λ edge. (
        λ at.
            let both = (lists.exact (turn In edge)).0 ((in_turned In lists.run edge).0 at) in
            (inl (both.0, λ loses. none lost no_lost edge loses both.1), both.1),
        λ both. elim both.0 [
          | inl stays ↦ (in_turned In lists.run edge).1 ((lists.exact (turn In edge)).1 (stays.0, both.1))
          | inr new ↦ absurd (none fresh no_fresh edge new both.1)
        ],
      );
    },
    turned_twice lists.run,
  ),
)
  where
    none : (edges : List Edge) → out_of oid edges ≡ [] → (edge : Edge) → Contains edges edge → edge.parent ≡ oid → ⊥
    none edges empty edge at own = (let there = subst (λ (l : List Edge). Contains l edge) empty ((in_run oid edges edge).1 (at, own)) in omega (arith, there.1))

-- and so it is where a test finds that no label is given
pub entering_kept : (records : Slab EdgeRecord) (lost fresh : List Edge) (oid : Oid) (given : Option Label) (test : Bool) (old new : List Edge) → is_some given ≡ not test → test ≡ true
    → ListsRun In records oid old new → out_of oid lost ≡ [] → out_of oid fresh ≡ [] → (more : List Edge) × (new ≡ old ++ more) × ListsLayered records lost fresh oid given more
entering_kept records lost fresh oid None test old new is told lists no_lost no_fresh = kept_entering records lost fresh oid old new lists no_lost no_fresh
entering_kept records lost fresh oid (Some label) test old new is told lists no_lost no_fresh = absurd (true≢false (is ∙ ap not told))

-- an edge that was turned is put behind others
pub pushed-none : (given : Option Label) (edge : Edge) (buf : List Edge) → has_label given edge ≡ false → buf ≡ buf ++ map (turn In) (filter (has_label given) (edge ∷ []))
pushed-none given edge buf test = sym (append-nil buf) ∙ ap (λ (b : Bool). buf ++ map (turn In) (cond b (edge ∷ []) [])) (sym test)

pub pushed-one : (given : Option Label) (edge : Edge) (buf : List Edge) → has_label given edge ≡ true
    → buf ++ turn In edge ∷ [] ≡ buf ++ map (turn In) (filter (has_label given) (edge ∷ []))
pushed-one given edge buf test = ap (λ (b : Bool). buf ++ map (turn In) (cond b (edge ∷ []) [])) (sym test)
