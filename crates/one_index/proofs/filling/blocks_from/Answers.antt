use Rattle.std.proofs.Common.{◌≡◌, ℕ, ◌<◌, List, [], length, sym, ◌∙◌, subst, arith}
use Rattle.std.specs.Prelude.{slice_index_or}
use Rattle.std.proofs.lemmas.List.{get_or_default}
use Rattle.one_index.specs.Types.{Oid, Label, Block}
use Rattle.one_index.specs.inside.Filled.{IsFilled, AreFilled}
use Rattle.one_index.proofs.FillLaws.{AreFilled-none, AreFilled-more}
use Rattle.one_index.proofs.filling.blocks_from.Goals as goal

pub members-init : goal.members-init
members-init c =
    subst (λ (b : List Block). AreFilled 0 c.args.members.now c.args.edges.now b) (sym c.in_ok-blocks.ensures.items)
    (AreFilled-none c.args.members.now c.args.edges.now)

pub members-preserved : goal.members-preserved
members-preserved c =
    let members = c.args.members.now in
    let edges = c.args.edges.now in
    let number = c.members.number in
    let block = c.in_ok-block.block in
    let within : number < length members = c.members-test.true in
    let inside : number < length edges = omega (arith, within, c.requires) in
    let oids : c.as_slice.result.now ≡ slice_index_or members number [] =
    c.as_slice.ensures ∙ c.index-members-number.is ∙ get_or_default members number c.index-members-number.result [] within in
    let row : c.as_slice-in-members.result.now ≡ slice_index_or edges number [] =
    c.as_slice-in-members.ensures ∙ c.index-edges-number.is ∙ get_or_default edges number c.index-edges-number.result [] inside in
    AreFilled-more members edges number c.members.blocks.items c.push.new.self.items block c.in_ok-push.ensures.items
    (subst (λ (e : List (Label × ℕ)). IsFilled (slice_index_or members number []) e block) row
    (subst (λ (o : List Oid). IsFilled o c.as_slice-in-members.result.now block) oids c.in_ok-block.ensures))
    c.members.invariant
