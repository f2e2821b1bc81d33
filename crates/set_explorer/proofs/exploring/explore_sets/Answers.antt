use Rattle.std.proofs.Common.{◌≡◌, ℕ, ◌<◌, ◌≤◌, List, [], ◌∷◌, length, map, take, sym, ◌∙◌, subst, arith}
use Rattle.std.specs.List.{AllZip}
use Rattle.std.specs.List.Sorted.{IsStrictlySortedBy}
use Rattle.std.proofs.lemmas.List.{take_all, length-map}
use Rattle.std.proofs.lemmas.Result.{err_from_is_err_and}
use Rattle.lore_base.specs.Bytes.{bytes_cmp}
use Rattle.set_explorer.specs.Types.{Oid, Node, GuideNode, GuideFault}
use Rattle.set_explorer.specs.Nodes.{sets_of, IsEntry}
use Rattle.set_explorer.specs.GuideCauses.{GuideCause}
use Rattle.set_explorer.specs.Touched.{ReadsTouched}
use Rattle.set_explorer.specs.inside.Entering.{AreEntered}
use Rattle.set_explorer.specs.inside.Trails.{IsSearched}
use Rattle.set_explorer.specs.inside.Founds.{found_nodes, found_sets, AreStopped}
use Rattle.set_explorer.proofs.SearchedLaws.{searched-start, searched-more, expanded-sets}
use Rattle.set_explorer.proofs.DoneLaws.{are-targets, in-order, has-steps}
use Rattle.set_explorer.proofs.CountLaws.{fit-counted}
use Rattle.set_explorer.proofs.PlanLaws.{entry-keys}
use Rattle.set_explorer.proofs.RuleLaws.{names-refused, steps-refused}
use Rattle.set_explorer.proofs.ExpandLaws.{grown-passed}
use Rattle.set_explorer.proofs.PlanLaws.{reads-none, reads-more, reads-nothing, reads-halted, name-sets, name-origins}
use Rattle.set_explorer.proofs.PlanLaws.{nodes-count, keeps-once, no-sets, entries-start, entries-stay}
use Rattle.set_explorer.proofs.exploring.explore_sets.Goals as goal

pub nodes-init : goal.nodes-init
nodes-init g c =
    let kept = c.args.change.now.guide.nodes.now in
    let names = c.args.names.now in
    let edges = g.A.Adjacent.edges c.args.change.now.after.now in
    let found = c.enter_all.new.found in
    let enters = c.in_ok-row.ensures.entered in
    let entered = subst (λ (l : List (List Oid)). AreEntered l (map (λ (named : List ℕ × Oid). named.1 ∷ []) names)
    (found_sets kept found))
    (no-sets kept c.in_ok-found.found c.in_ok-found.ensures.none)
    (subst (λ (l : List (List Oid)). AreEntered (found_sets kept c.in_ok-found.found) l (found_sets kept found))
    (name-sets kept names c.in_ok-starts.starts.items c.in_ok-starts.ensures.targets) enters.entered) in
    record {
      found = enters.found;
      fit = enters.fit;
      searched = searched-start names edges (found_nodes kept found) c.in_ok-starts.ensures.table entered;
      reads = reads-none (sets_of kept) c.args.change.now.dirty.now c.args.change.now.grown.now edges
          (found_sets kept found) c.args.steps.now;
      entries = subst (λ (l : List (List ℕ × Node)). AllZip (IsEntry (found_nodes kept found)) names l)
          (sym c.into_items-entries.ensures)
          (entries-start kept (found_nodes kept found) names c.in_ok-starts.starts.items c.in_ok-row.row
          c.in_ok-starts.ensures.targets enters.placed);
      passed = omega arith;
    }

pub enter_all-requires-clause-there : goal.enter_all-requires-clause-there
enter_all-requires-clause-there g c =
    name-origins c.args.change.now.guide.nodes.now c.args.names.now c.in_ok-starts.starts.items c.in_ok-starts.ensures.targets

pub nodes-preserved : goal.nodes-preserved
nodes-preserved g c =
    let kept = c.args.change.now.guide.nodes.now in
    let names = c.args.names.now in
    let edges = g.A.Adjacent.edges c.args.change.now.after.now in
    let old = c.nodes.found in
    let new = c.expand.new.found in
    let now = c.in_ok-expand.ensures.expanded in
    let before = c.nodes.invariant in
    let within : c.nodes.next < length old.nodes.items = omega
    (arith, c.nodes-test.true, c.len.ensures, old.nodes.ok.0) in
    record {
      found = c.in_ok-expand.ensures.found;
      fit = c.in_ok-expand.ensures.fit;
      searched = searched-more names edges (found_nodes kept old) (found_nodes kept new) c.nodes.next before.searched
          now;
      reads = reads-more (sets_of kept) c.args.change.now.dirty.now c.args.change.now.grown.now edges
          (found_sets kept old) (found_sets kept new) c.nodes.next now.set
          c.args.steps.now c.nodes.steps c.expand.new.steps before.searched.is.apart
          (expanded-sets edges (found_nodes kept old) (found_nodes kept new) c.nodes.next now) now.at before.reads
          (c.in_ok-expand.ensures.reads now.set now.at);
      entries = entries-stay edges (found_nodes kept old) (found_nodes kept new) c.nodes.next now names
          c.into_items-entries.result.items before.entries;
      passed = omega (arith, grown-passed kept edges old new c.nodes.next now within);
    }

pub returns-clause-nodes : goal.returns-clause-nodes
returns-clause-nodes g c =
    let kept = c.args.change.now.guide.nodes.now in
    let names = c.args.names.now in
    let edges = g.A.Adjacent.edges c.args.change.now.after.now in
    let found = c.nodes.found in
    let done : c.nodes.next ≡ length (found_nodes kept found) =
    omega (
      arith,
      c.nodes-test.false,
      c.len.ensures,
      found.nodes.ok.0,
      c.nodes.invariant.passed,
      nodes-count kept
          found,
    ) in
    let searched = subst (IsSearched names edges (found_nodes kept found)) done c.nodes.invariant.searched in
    record {
      nodes = are-targets names edges (found_nodes kept found) searched;
      steps = has-steps names edges (found_nodes kept found) searched;
    }

pub returns-clause-entries : goal.returns-clause-entries
returns-clause-entries g c = c.nodes.invariant.entries

pub returns-clause-order : goal.returns-clause-order
returns-clause-order g c =
    let kept = c.args.change.now.guide.nodes.now in
    let names = c.args.names.now in
    let edges = g.A.Adjacent.edges c.args.change.now.after.now in
    let found = c.nodes.found in
    let done : c.nodes.next ≡ length (found_nodes kept found) =
    omega (
      arith,
      c.nodes-test.false,
      c.len.ensures,
      found.nodes.ok.0,
      c.nodes.invariant.passed,
      nodes-count kept
          found,
    ) in
    in-order names edges (found_nodes kept found) (subst (IsSearched names edges (found_nodes kept found)) done
    c.nodes.invariant.searched)

pub returns-clause-steps : goal.returns-clause-steps
returns-clause-steps g c =
    let kept = c.args.change.now.guide.nodes.now in
    let edges = g.A.Adjacent.edges c.args.change.now.after.now in
    let found = c.nodes.found in
    let few : length (found_sets kept found) ≤ c.nodes.next =
    omega (
      arith,
      c.nodes-test.false,
      c.len.ensures,
      found.nodes.ok.0,
      nodes-count kept found,
      length-map (found_nodes kept found) (λ (n : GuideNode). n.set),
    ) in
    subst (λ (l : List (List Oid)). ReadsTouched (sets_of kept) c.args.change.now.dirty.now c.args.change.now.grown.now
    edges l c.args.steps.now c.nodes.steps) (take_all c.nodes.next (found_sets kept found) few) c.nodes.invariant.reads

pub returns-in_err-row-clause-cause : goal.returns-in_err-row-clause-cause
returns-in_err-row-clause-cause g c =
    let kept = c.args.change.now.guide.nodes.now in
    let names = c.args.names.now in
    let edges = g.A.Adjacent.edges c.args.change.now.after.now in
    let p = err_from_is_err_and c.from_residual-in_err-row.result c.from_residual-in_err-row.ensures.1 in
    let stopped = subst (λ (l : List (List Oid)). AreStopped c.in_err-row.field-0.0 c.args.limit l
    (map (λ (named : List ℕ × Oid). named.1 ∷ []) names))
    (no-sets kept c.in_ok-found.found c.in_ok-found.ensures.none)
    (subst (λ (l : List (List Oid)). AreStopped c.in_err-row.field-0.0 c.args.limit
    (found_sets kept c.in_ok-found.found) l)
    (name-sets kept names c.in_ok-starts.starts.items c.in_ok-starts.ensures.targets) c.in_err-row.ensures.stopped) in
    rw p.1 (subst (λ (f : GuideFault). GuideCause c.args.limit names edges f) (sym p.2)
    (names-refused names edges c.in_ok-starts.ensures.table c.in_err-row.field-0.0 c.args.limit stopped))

pub returns-in_err-expand-clause-cause : goal.returns-in_err-expand-clause-cause
returns-in_err-expand-clause-cause g c =
    let kept = c.args.change.now.guide.nodes.now in
    let names = c.args.names.now in
    let edges = g.A.Adjacent.edges c.args.change.now.after.now in
    let p = err_from_is_err_and c.from_residual-in_err-expand.result c.from_residual-in_err-expand.ensures.1 in
    rw p.1 (subst (λ (f : GuideFault). GuideCause c.args.limit names edges f) (sym p.2)
    (steps-refused names edges c.in_ok-starts.ensures.table c.in_err-expand.field-0.0 c.args.limit
    (found_nodes kept c.nodes.found) c.nodes.next
    (sets_of kept) c.args.change.now.dirty.now c.args.change.now.grown.now c.nodes.steps c.expand.new.steps c.nodes.invariant.searched
    c.in_err-expand.ensures.halted))

pub returns-in_err-expand-clause-reads : goal.returns-in_err-expand-clause-reads
returns-in_err-expand-clause-reads g c =
    let kept = c.args.change.now.guide.nodes.now in
    let names = c.args.names.now in
    let edges = g.A.Adjacent.edges c.args.change.now.after.now in
    let p = err_from_is_err_and c.from_residual-in_err-expand.result c.from_residual-in_err-expand.ensures.1 in
    rw p.1 (λ not_memory. reads-halted c.in_err-expand.field-0.0 c.args.limit (sets_of kept) c.args.change.now.dirty.now
    c.args.change.now.grown.now names edges (found_nodes kept c.nodes.found) c.nodes.next c.args.steps.now c.nodes.steps
    c.expand.new.steps (λ is. not_memory (p.2 ∙ is)) c.nodes.invariant.searched c.nodes.invariant.fit
    c.nodes.invariant.reads c.in_err-expand.ensures.halted)

pub returns-in_err-row-clause-reads : goal.returns-in_err-row-clause-reads
returns-in_err-row-clause-reads g c =
    let p = err_from_is_err_and c.from_residual-in_err-row.result c.from_residual-in_err-row.ensures.1 in
    rw p.1 (λ not_memory. reads-nothing (sets_of c.args.change.now.guide.nodes.now) c.args.change.now.dirty.now c.args.change.now.grown.now (g.A.Adjacent.edges c.args.change.now.after.now)
    c.args.limit c.args.names.now c.args.steps.now)

pub returns-clause-fits : goal.returns-clause-fits
returns-clause-fits g c =
    let kept = c.args.change.now.guide.nodes.now in
    let names = c.args.names.now in
    let edges = g.A.Adjacent.edges c.args.change.now.after.now in
    let found = c.nodes.found in
    let done : c.nodes.next ≡ length (found_nodes kept found) =
    omega (
      arith,
      c.nodes-test.false,
      c.len.ensures,
      found.nodes.ok.0,
      c.nodes.invariant.passed,
      nodes-count kept
          found,
    ) in
    let searched = subst (IsSearched names edges (found_nodes kept found)) done c.nodes.invariant.searched in
    (fit-counted c.args.limit names edges (found_sets kept found)
    (are-targets names edges (found_nodes kept found) searched)).1 c.nodes.invariant.fit

pub returns-clause-keeps : goal.returns-clause-keeps
returns-clause-keeps g c = keeps-once c.args.change.now.guide.nodes.now c.nodes.found c.nodes.invariant.found

pub returns-clause-ascend : goal.returns-clause-ascend
returns-clause-ascend g c =
    let kept = c.args.change.now.guide.nodes.now in
    let entries = c.into_items-entries.result.items in
    let keys = entry-keys (found_nodes kept c.nodes.found) c.args.names.now entries c.nodes.invariant.entries in
    subst (λ (l : List (List ℕ)). IsStrictlySortedBy bytes_cmp l) (sym keys) c.in_ok-starts.ensures.table

pub expand-requires : goal.expand-requires
expand-requires g c = record {
  told = c.requires.told;
  hashed = c.requires.hashed;
  found = c.nodes.invariant.found;
  fit = c.nodes.invariant.fit;
  place = omega (arith, c.nodes-test.true, c.len.ensures, c.nodes.found.nodes.ok.0);
}
