use Rattle.std.proofs.Common.{◌≤◌, ℤ, List, length, FitsSigned, w64, ◌∙◌, sym, subst, arith, rules}
use Rattle.std.proofs.lemmas.Int.{to_z-of_z}
use Rattle.lore_base.specs.Walks.{oid_of}
use Rattle.join_tables.specs.Types.{Oid}
use Rattle.join_tables.specs.inside.Runs.{AscendByNumber, TakesRun}
use Rattle.join_tables.proofs.RunLaws.{same_oid}
use Rattle.join_tables.proofs.TableLaws.{told_none, told_more, told_all}
use Rattle.join_tables.proofs.table.JoinTable.partners.Goals as goal

pub own-init : goal.own-init
own-init g c = told_none (g.G.ValueOf.objects c.args.graph.now) c.args.self.now c.new-oids.result

pub push_run-requires : goal.push_run-requires
push_run-requires g c = subst AscendByNumber (sym c.as_slice.ensures) c.self.invariant

pub own-preserved : goal.own-preserved
own-preserved g c =
    let number = c.in-Some.number in
    let few : length c.push_run.new.oids ≤ c.args.most = omega (arith, c.len.ensures, c.if-len-most.false) in
    let fits : FitsSigned w64 number = search rules in
    let asked : TakesRun c.as_slice.result.now number c.own.oids c.push_run.new.oids =
    subst (λ (n : ℤ). TakesRun c.as_slice.result.now n c.own.oids c.push_run.new.oids) (to_z-of_z w64 number fits) (c.in_ok-push_run.ensures few) in
    let run : TakesRun c.args.self.now number c.own.oids c.push_run.new.oids =
    subst (λ (l : List (ℤ × Oid)). TakesRun l number c.own.oids c.push_run.new.oids) (c.as_slice.ensures ∙ c.self.view_is) asked in
    told_more (g.G.ValueOf.objects c.args.graph.now) c.args.self.now c.args.own.now c.own.oids c.push_run.new.oids c.own.oid-index (oid_of 0) number
    c.own-test.true fits c.in-Some.ensures run c.own.invariant

pub returns : goal.returns
returns g c =
    told_all (g.G.ValueOf.objects c.args.graph.now) c.args.self.now c.args.own.now c.own.oids c.sort_set.new.self c.own.oid-index c.own-test.false c.own.invariant
    c.sort_set.ensures.ascend (c.sort_set.ensures.members same_oid)
