use Rattle.std.proofs.Common.{◌≡◌, ◌<◌, List, length, get_or, Some, subst, sym, refl, ◌∙◌, arith}
use Rattle.std.specs.List.{slice_get}
use Rattle.std.proofs.lemmas.Option.{slice_get_read}
use Rattle.plan_laws.proofs.DescribeLawsRows.{within_more}
use Rattle.lorel_bound.specs.declared.bound.Range.{Range}
use Rattle.lorel_bound.specs.Runnable.{IsWithin, IsCellWithin}
use Rattle.answers.specs.Types.{CellOf, RANGES}
use Rattle.answers.specs.inside.Showing.{IsMadeReady, IsReadyWithin}
use Rattle.answers.specs.declared.ready_cells.ReadyCell.TheVariants as ready
use Rattle.answers.proofs.BoundLaws.{few_ranges, slot_fits, start_fits, leaves_fit}
use Rattle.answers.proofs.ready_cells.ready_cell.Goals as goal

pub bounds-as_slice-slot : goal.bounds-as_slice-slot
bounds-as_slice-slot g c =
    let within : c.in-PathOf.slot < length c.args.bound.now.ranges = subst (IsCellWithin (length c.args.bound.now.ranges)) c.in-PathOf.is c.requires.within in
    subst (λ (ranges : List Range). c.in-PathOf.slot < length ranges) (sym c.as_slice.ensures) within

pub new-requires-clause-slot : goal.new-requires-clause-slot
new-requires-clause-slot g c =
    slot_fits c.args.bound.now c.requires.runnable c.in-PathOf.slot (subst (IsCellWithin (length c.args.bound.now.ranges)) c.in-PathOf.is c.requires.within)

pub new-requires-clause-start : goal.new-requires-clause-start
new-requires-clause-start g c =
    let range = c.index-as_slice-slot.result in
    start_fits c.args.bound.now c.requires.runnable c.in-PathOf.slot range
    (subst (IsCellWithin (length c.args.bound.now.ranges)) c.in-PathOf.is c.requires.within)
    (subst (λ (ranges : List Range). range ≡ get_or ranges c.in-PathOf.slot range) c.as_slice.ensures c.index-as_slice-slot.is)

pub new-requires-clause-leaves : goal.new-requires-clause-leaves
new-requires-clause-leaves g c =
    let range = c.index-as_slice-slot.result in
    leaves_fit c.args.bound.now c.requires.runnable c.in-PathOf.slot range
    (subst (IsCellWithin (length c.args.bound.now.ranges)) c.in-PathOf.is c.requires.within)
    (subst (λ (ranges : List Range). range ≡ get_or ranges c.in-PathOf.slot range) c.as_slice.ensures c.index-as_slice-slot.is)

pub returns-in_ok-words-in-PathOf-clause-made : goal.returns-in_ok-words-in-PathOf-clause-made
returns-in_ok-words-in-PathOf-clause-made g c =
    let range = c.index-as_slice-slot.result in
    let within : c.in-PathOf.slot < length c.args.bound.now.ranges = subst (IsCellWithin (length c.args.bound.now.ranges)) c.in-PathOf.is c.requires.within in
    let there : slice_get c.args.bound.now.ranges c.in-PathOf.slot ≡ Some range =
    slice_get_read c.args.bound.now.ranges (length c.args.bound.now.ranges) c.in-PathOf.slot range refl within
    (subst (λ (ranges : List Range). range ≡ get_or ranges c.in-PathOf.slot range) c.as_slice.ensures c.index-as_slice-slot.is) in
    subst (λ (cell : CellOf). IsMadeReady {A = g.row.A.Denot} c.args.labels.now (g.A.Adjacent.edges c.args.graph.now) c.args.bound.now.ranges cell
    (ready.Word c.in_ok-words-in-PathOf.words)) (sym c.in-PathOf.is) (range, there, c.in_ok-words-in-PathOf.ensures)

pub returns-in-Object-clause-within : goal.returns-in-Object-clause-within
returns-in-Object-clause-within g c =
    within_more (length c.args.bound.now.ranges) RANGES c.in-Object.start (few_ranges c.args.bound.now c.requires.runnable)
    (subst (IsCellWithin (length c.args.bound.now.ranges)) c.in-Object.is c.requires.within)
