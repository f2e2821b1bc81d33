use Rattle.std.proofs.Common.{◌<◌, AllPairs, refl, sym, subst}
use Rattle.std.proofs.lemmas.Bool.{OnTrue_at}
use Rattle.dump_text.specs.Types.{Oid}
use Rattle.dump_text.proofs.ReachLaws.{among_reached, led_reached}
use Rattle.dump_text.proofs.reach.are_reached.Goals as goal

pub returns-then-branch : goal.returns-then-branch
returns-then-branch c =
    let reached = led_reached c.args.names.now c.args.edges.now c.args.objects.now c.requires.linked
    (OnTrue_at c.if-branch.true c.in_ok-are_all_led.ensures) in
    (λ _. reached, λ _. refl)

pub are_among-requires : goal.are_among-requires
are_among-requires c = subst (AllPairs (λ (a b : Oid). a.0 < b.0)) (sym c.as_slice.ensures) c.in_ok-reached.ensures.ascending

pub returns : goal.returns
returns c =
    among_reached c.args.names.now c.args.edges.now c.args.objects.now c.in_ok-reached.reached c.as_slice.result.now c.are_among.result
    c.in_ok-reached.ensures c.as_slice.ensures c.are_among.ensures
