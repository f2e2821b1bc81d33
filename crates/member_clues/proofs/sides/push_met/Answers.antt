use Rattle.std.proofs.Common.{All, refl, sym, ap, subst}
use Rattle.std.specs.Option.{option_copied}
use Rattle.std.proofs.lemmas.List.Elements.{All-push}
use Rattle.lore_base.specs.Paths.{path_tree}
use Rattle.lorel_bound.specs.Bound.{bound_path}
use Rattle.member_clues.specs.Clues.{IsClueOf}
use Rattle.member_clues.proofs.MadeLaws.{clue_met}
use Rattle.member_clues.proofs.sides.push_met.Goals as goal

pub returns-in_default : goal.returns-in_default
returns-in_default c = λ labels whole follows all. all

pub returns-then-not-is_outside : goal.returns-then-not-is_outside
returns-then-not-is_outside c = λ labels whole follows all. all

pub returns : goal.returns
returns c = λ labels whole follows all.
    subst (All (IsClueOf labels whole)) (sym c.in_ok-push.ensures.items)
    (All-push (IsClueOf labels whole) c.args.clues.now.items _ all
    (clue_met labels whole (option_copied c.args.through) _ _ c.args.sought.now.start c.args.sought.now.rest (bound_path c.args.other.now) refl c.in-Some.ensures
    c.in_ok-through.ensures c.in_ok-way.ensures (ap (λ r. record { start = c.args.other.now.start; rest = path_tree r }) c.in_ok-route.ensures)
    (c.is_outside.ensures c.if-not-is_outside.false) follows))
