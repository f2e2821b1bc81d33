use Rattle.std.proofs.Common.{◌≡◌, ◌<◌, List, Some, length, sym, ap, ◌∙◌, subst, arith}
use Rattle.std.specs.List.{Contains, slice_get}
use Rattle.std.specs.Prelude.{slice_index}
use Rattle.std.proofs.lemmas.List.{get_or_default}
use Rattle.std.proofs.lemmas.Option.{slice_get_within}
use Rattle.list_laws.proofs.PlaceLaws.{Contains-from_place}
use Rattle.one_index.specs.Types.{Oid, Block}
use Rattle.one_index.specs.Blocks.{IsMember}
use Rattle.one_index.proofs.PlaceLaws.{place_once}
use Rattle.one_index.proofs.blocks.Blocks.block_of.Goals as goal

pub returns-in-Some-clause-found : goal.returns-in-Some-clause-found
returns-in-Some-clause-found c =
    let found = subst (λ (l : List Oid). slice_get l c.in-Some.place ≡ Some c.args.oid) c.as_slice.ensures c.in-Some.ensures.found in
    let within : c.in-Some.place < length c.self.inside.numbers.items =
    omega (arith, slice_get_within c.self.inside.objects c.in-Some.place c.args.oid found, c.self.invariant.every) in
    let read : slice_index c.self.inside.numbers.items c.in-Some.place ≡ c.index.result.now =
    get_or_default c.self.inside.numbers.items c.in-Some.place 0 c.index.result.now within ∙ sym c.index.ensures in
    subst (λ (b : List Block). IsMember b c.index.result.now c.args.oid) c.self.view_is
    ((c.self.invariant.exact c.index.result.now c.args.oid).1 (c.in-Some.place, found, read))

pub returns-in-Some-clause-only : goal.returns-in-Some-clause-only
returns-in-Some-clause-only c other member =
    let found = subst (λ (l : List Oid). slice_get l c.in-Some.place ≡ Some c.args.oid) c.as_slice.ensures c.in-Some.ensures.found in
    let within : c.in-Some.place < length c.self.inside.numbers.items =
    omega (arith, slice_get_within c.self.inside.objects c.in-Some.place c.args.oid found, c.self.invariant.every) in
    let read : slice_index c.self.inside.numbers.items c.in-Some.place ≡ c.index.result.now =
    get_or_default c.self.inside.numbers.items c.in-Some.place 0 c.index.result.now within ∙ sym c.index.ensures in
    let at = (c.self.invariant.exact other c.args.oid).0 (subst (λ (b : List Block). IsMember b other c.args.oid) (sym c.self.view_is) member) in
    let here = place_once c.self.inside.objects c.self.invariant.ascend at.0 c.in-Some.place c.args.oid at.1 found in
    sym at.2 ∙ ap (slice_index c.self.inside.numbers.items) here ∙ read

pub returns-in-None-clause-none : goal.returns-in-None-clause-none
returns-in-None-clause-none c number member =
    let at = (c.self.invariant.exact number c.args.oid).0 (subst (λ (b : List Block). IsMember b number c.args.oid) (sym c.self.view_is) member) in
    c.in-None.ensures.none (subst (λ (l : List Oid). Contains l c.args.oid) (sym c.as_slice.ensures)
    (Contains-from_place c.self.inside.objects at.0 c.args.oid at.1))
