use Rattle.std.proofs.Common.{ℕ, ◌+◌, ◌<◌, List, map, sym, ap, ◌∙◌, subst}
use Rattle.std.specs.Option.{option_copied}
use Rattle.std.proofs.lemmas.Result.{IfOk-weaker}
use Rattle.oem_reach.specs.Types.{Oid, Edge}
use Rattle.object_search.specs.LowerParents.{IsLed}
use Rattle.oem_reach.proofs.LowerParentLaws.{first_number}
use Rattle.oem_reach.proofs.lower_parents.are_all_led.Goals as goal

pub returns : goal.returns
returns c =
    let made = c.args.changes.now.made in
    let named = map (λ (entry : List ℕ × Oid). entry.1) c.args.changes.now.named in
    let fresh = c.args.fresh.now in
    let first = c.in-Some.first.now in
    IfOk-weaker c.are_led_to.result _ _
    (λ all led yes next numbered place within.
    subst (λ (l : List Oid). IsLed l fresh (next + place)) (c.as_slice-starts.ensures ∙ c.in_ok-named.ensures)
    (subst (λ (l : List Edge). IsLed c.as_slice-starts.result.now l (next + place)) c.as_slice-edges.ensures
    (subst (λ n. IsLed c.as_slice-starts.result.now c.as_slice-edges.result.now (n + place))
    (first_number next made first (ap option_copied (sym c.in-Some.is) ∙ c.get.ensures) numbered)
    (led yes place (subst (λ n. place < n) (sym c.len.ensures) within)))))
    c.are_led_to.ensures
