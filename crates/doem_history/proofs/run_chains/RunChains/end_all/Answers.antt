use Rattle.std.proofs.Common.{ap, ◌∙◌, sym, length, take, List, arith, get_or}
use Rattle.std.proofs.lemmas.List.{take_more}
use Rattle.doem_history.specs.Types.{Run}
use Rattle.doem_history.specs.inside.Kept.{ended, end_at}
use Rattle.doem_history.proofs.MovedLaws.{length-ended, ended-push}
use Rattle.doem_history.proofs.run_chains.RunChains.end_all.Goals as goal

pub end-requires : goal.end-requires
end-requires g c =
    let long = length-ended c.args.moment (take c.places.place-index c.args.places.now) c.args.self.now.runs in
    let same = ap (λ (l : List (Run _)). length l) c.places.invariant.runs in
    let fits = c.requires c.places.place-index 0 (omega arith) in
    omega arith

pub places-preserved : goal.places-preserved
places-preserved g c =
    let more = take_more c.args.places.now c.places.place-index 0 (omega arith) in
    record {
      runs = c.end.ensures.runs ∙ ap (λ (l : List (Run _)). end_at c.args.moment (get_or c.args.places.now c.places.place-index 0) l) c.places.invariant.runs
          ∙ sym (ended-push c.args.moment (take c.places.place-index c.args.places.now) (get_or c.args.places.now c.places.place-index 0) c.args.self.now.runs)
          ∙ ap (λ (ps : List _). ended c.args.moment ps c.args.self.now.runs) (sym more);
      room = c.end.ensures.room ∙ c.places.invariant.room;
    }
