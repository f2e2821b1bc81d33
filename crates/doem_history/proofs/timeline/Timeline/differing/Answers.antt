use Rattle.std.proofs.Common.{subst, List, Contains}
use Rattle.lore_base.specs.Deltas.{ListsOnlyIn}
use Rattle.doem_history.specs.Histories.{facts_at}
use Rattle.doem_history.specs.inside.Marks.{IsLeaving, IsComing}
use Rattle.doem_history.proofs.StretchLaws.{only_as, gone_told, come_told}
use Rattle.doem_history.proofs.timeline.Timeline.differing.Goals as goal

pub returns-clause-gone : goal.returns-clause-gone
returns-clause-gone g c =
    let runs = c.args.self.now.runs in
    only_as (IsLeaving runs c.args.before c.args.after) (IsComing runs c.args.before c.args.after) (λ f. Contains (facts_at c.args.before runs) f) (λ f. Contains (facts_at c.args.after runs) f)
    c.in_ok-gone.gone c.in_ok-leaving.leaving.items c.in_ok-coming.coming.items
    (subst (λ (l : List _). ListsOnlyIn c.in_ok-gone.gone l c.in_ok-coming.coming.items) c.as_slice.ensures.value
    (subst (λ (l : List _). ListsOnlyIn c.in_ok-gone.gone c.as_slice.result.now l) c.as_slice-2.ensures.value c.in_ok-gone.ensures.exact))
    c.in_ok-leaving.ensures.exact c.in_ok-coming.ensures.exact (gone_told runs c.requires.facts.kept.apart c.args.before c.args.after c.requires.order)

pub returns-clause-come : goal.returns-clause-come
returns-clause-come g c =
    let runs = c.args.self.now.runs in
    only_as (IsComing runs c.args.before c.args.after) (IsLeaving runs c.args.before c.args.after) (λ f. Contains (facts_at c.args.after runs) f) (λ f. Contains (facts_at c.args.before runs) f)
    c.in_ok-come.come c.in_ok-coming.coming.items c.in_ok-leaving.leaving.items
    (subst (λ (l : List _). ListsOnlyIn c.in_ok-come.come l c.in_ok-leaving.leaving.items) c.as_slice-3.ensures.value
    (subst (λ (l : List _). ListsOnlyIn c.in_ok-come.come c.as_slice-3.result.now l) c.as_slice-4.ensures.value c.in_ok-come.ensures.exact))
    c.in_ok-coming.ensures.exact c.in_ok-leaving.ensures.exact (come_told runs c.requires.facts.kept.apart c.args.before c.args.after c.requires.order)
