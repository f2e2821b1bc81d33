use Rattle.std.proofs.Common.{ℕ, List, Contains}
use Rattle.dump_text.specs.Types.{Oid}
use Rattle.dump_text.proofs.ListLaws.{refuted, passed}
use Rattle.dump_text.proofs.EntryLaws.{has_label, no_label, one_edge}
use Rattle.dump_text.proofs.edges.numbered_edges.Goals as goal

pub returns-in_default-clause-none : goal.returns-in_default-clause-none
returns-in_default-clause-none c =
    refuted (λ (e : Oid × List ℕ × Oid). Contains c.args.labels.now e.1) c.args.entries.now c.entries.entry-index c.entry-item.result
    c.entries-test.true c.entry-item.is (no_label c.args.labels.now c.entry-item.result.1 c.in_default.ensures.none)

pub entries-preserved : goal.entries-preserved
entries-preserved c =
    let labels = c.args.labels.now in
    let entries = c.args.entries.now in
    let i = c.entries.entry-index in
    let entry = c.entry-item.result in
    let low = c.entries-test.true in
    record {
      edges = one_edge labels c.requires entries i entry low c.entry-item.is c.entries.edges c.push.new.self c.in-Some.label
          c.in-Some.ensures.found c.entries.invariant.edges c.in_ok-push.ensures.ok;
      labelled = passed (λ (e : Oid × List ℕ × Oid). Contains labels e.1) entries i entry low c.entry-item.is
          (has_label labels c.in-Some.label entry.1 c.in-Some.ensures.found) c.entries.invariant.labelled;
    }
