use Rattle.std.proofs.Common.{All, sym, subst}
use Rattle.std.proofs.lemmas.List.Elements.{All-nil}
use Rattle.lorel_bound.specs.Bound.{bound_cond}
use Rattle.member_clues.specs.Clues.{IsClueOf}
use Rattle.member_clues.proofs.MadeLaws.{follows_itself}
use Rattle.member_clues.proofs.clues.clues_of.Goals as goal

pub returns : goal.returns
returns c =
    let labels = c.args.labels.now in
    let own = bound_cond c.args.cond.now in
    c.push_clues.ensures own (follows_itself labels own) (subst (All (IsClueOf labels own)) (sym c.new-clues.ensures.items) (All-nil (IsClueOf labels own)))
