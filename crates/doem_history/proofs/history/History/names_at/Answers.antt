use Rattle.std.proofs.Common.{◌≡◌, ◌∙◌, ℕ, ◌+◌, ◌<◌, ap, sym, subst, arith, List, IfOk}
use Rattle.lore_base.specs.Names.{IsNameTable}
use Rattle.doem_history.specs.Types.{Oid}
use Rattle.doem_history.specs.Facts.{name_order}
use Rattle.doem_history.specs.inside.FactLaws.{name_total}
use Rattle.doem_history.specs.Histories.{KeptHistory, facts_at, ordered}
use Rattle.doem_history.proofs.DeltaLaws.{names_table}
use Rattle.doem_history.proofs.ViewLaws.{facts_ascend, facts_told}
use Rattle.doem_history.proofs.history.History.names_at.Goals as goal

pub name_table-requires : goal.name_table-requires
name_table-requires c =
    let last = ap (λ (h : KeptHistory). h.last) c.self.view_is in
    let within : c.args.moment < c.self.inside.last + 1 = (let some = c.requires in omega arith) in
    subst IsNameTable (sym c.as_slice.ensures.value) (names_table c.sort_facts.new.facts.items
    (facts_ascend name_order name_total (c.self.inside.last + 1) c.args.moment c.self.inside.names.runs c.in_ok-facts.facts.items c.sort_facts.new.facts.items c.self.invariant.names.facts
    within c.in_ok-facts.ensures c.sort_facts.ensures.members c.sort_facts.ensures.ascend))

pub returns : goal.returns
returns c =
    let last = ap (λ (h : KeptHistory). h.last) c.self.view_is in
    let within : c.args.moment < c.self.inside.last + 1 = (let some = c.requires in omega arith) in
    let told = facts_told name_order name_total (c.self.inside.last + 1) c.args.moment c.self.inside.names.runs c.in_ok-facts.facts.items c.sort_facts.new.facts.items c.self.invariant.names.facts
    within c.in_ok-facts.ensures c.sort_facts.ensures.members c.sort_facts.ensures.ascend in
    subst (λ (l : List (List ℕ × Oid)). IfOk c.name_table.result (λ names. names ≡ l))
    (c.as_slice.ensures.value ∙ told ∙ ap (λ (h : KeptHistory). ordered name_order (facts_at c.args.moment h.names.runs)) c.self.view_is) c.name_table.ensures
