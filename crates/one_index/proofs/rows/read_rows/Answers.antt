use Rattle.std.proofs.Common.{◌≡◌, ◌+◌, ◌≤◌, ◌∷◌, ◌++◌, [], ℕ, List, get_or, take, sym, subst, arith}
use Rattle.std.specs.List.{sum_by}
use Rattle.std.proofs.lemmas.List.{take_more, take_all}
use Rattle.std.proofs.lemmas.List.Sums.{sum_by_more}
use Rattle.one_index.specs.Types.{Oid, Edge}
use Rattle.read_costs.specs.ReadCosts.{in_reads}
use Rattle.one_index.specs.inside.Rows.{IsRow, AreRows}
use Rattle.one_index.proofs.RowLaws.{AllZip-push}
use Rattle.one_index.proofs.rows.read_rows.Goals as goal

pub objects-init : goal.objects-init
objects-init g c = record {
  rows = rw c.in_ok-rows.ensures.items tt;
  steps = λ edges same. omega arith;
}

pub objects-preserved : goal.objects-preserved
objects-preserved g c =
    let links : List Edge = g.K.Links.edges c.args.links.now in
    let objects = c.args.objects.now in
    let i = c.objects.oid-index in
    let oid : Oid = get_or objects i (record { 0 = 0 }) in
    let more : take (i + 1) objects ≡ take i objects ++ oid ∷ [] = take_more objects i (record { 0 = 0 }) c.objects-test.true in
    record {
      rows = subst (λ (l : List Oid). AreRows links objects l c.push.new.self.items) (sym more)
          (subst (λ l. AreRows links objects (take i objects ++ oid ∷ []) l) (sym c.in_ok-push.ensures.items)
          (AllZip-push (IsRow links objects) (take i objects) c.objects.rows.items oid c.in_ok-read_row.field-0
          c.objects.invariant.rows c.in_ok-read_row.ensures.row));
      steps = λ edges same.
          let total : sum_by (in_reads edges) (take (i + 1) objects) ≡ sum_by (in_reads edges) (take i objects) + in_reads edges oid =
          sum_by_more (in_reads edges) objects i (record { 0 = 0 }) c.objects-test.true in
          omega (arith, total, c.in_ok-read_row.ensures.steps edges same, c.objects.invariant.steps edges same);
    }

pub returns-clause-steps : goal.returns-clause-steps
returns-clause-steps g c edges same =
    subst (λ (l : List Oid). c.objects.steps ≤ c.args.steps.now + sum_by (in_reads edges) l)
    (take_all c.objects.oid-index c.args.objects.now c.objects-test.false) (c.objects.invariant.steps edges same)
