use Rattle.std.proofs.lemmas.Bool.{OnTrue_from, OnTrue_at}
use Rattle.dump_text.proofs.ReachLaws.{noted_led}
use Rattle.dump_text.proofs.reach.are_all_led.Goals as goal

pub returns : goal.returns
returns c = OnTrue_from _ _ (λ yes.
    noted_led c.args.names.now c.in_ok-starts.starts c.as_slice.result.now c.args.edges.now c.args.objects.now c.in-Some.first.0
    c.in_ok-noted.noted.items c.as_slice-2.result.now c.as_slice.ensures c.in_ok-starts.ensures c.as_slice-2.ensures.value c.in_ok-noted.ensures.led
    (OnTrue_at yes c.are_noted.ensures))
