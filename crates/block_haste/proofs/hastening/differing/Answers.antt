use Rattle.std.proofs.Common.{ℕ, ◌<◌, List, length, get_or, take, All, sym, subst}
use Rattle.std.proofs.lemmas.List.{take_more, take_all}
use Rattle.block_haste.proofs.HasteLaws.{AreNoted, AreNoted-none, AreNoted-more, AreChanged-noted, noted_within}
use Rattle.block_haste.proofs.hastening.differing.Goals as goal

pub nodes-preserved : goal.nodes-preserved
nodes-preserved c =
    let nodes = c.args.nodes.now in
    let tags = c.args.tags.now in
    let numbers = c.args.numbers.now in
    let i = c.nodes.node-index in
    let node = get_or nodes i 0 in
    let new = c.note_change.new.changed.items in
    record {
      noted = subst (λ (l : List ℕ). AreNoted tags numbers l new) (sym (take_more nodes i 0 c.nodes-test.true))
          (AreNoted-more tags numbers (take i nodes) node c.nodes.changed.items new c.in_ok-note_change.ensures c.nodes.invariant.noted);
      within = noted_within (length numbers) node (get_or tags node 0) (get_or numbers node 0) c.nodes.changed.items new
          (c.requires.within i 0 c.nodes-test.true) c.in_ok-note_change.ensures c.nodes.invariant.within;
    }

pub returns-clause-changes : goal.returns-clause-changes
returns-clause-changes c =
    AreChanged-noted c.args.tags.now c.args.numbers.now c.args.nodes.now c.nodes.changed.items c.requires.changes
    (subst (λ (l : List ℕ). AreNoted c.args.tags.now c.args.numbers.now l c.nodes.changed.items)
    (take_all c.nodes.node-index c.args.nodes.now c.nodes-test.false) c.nodes.invariant.noted)
