use Rattle.std.proofs.Common.{◌≡◌, ◌∷◌, ◌++◌, [], List, map, Option, IfSome, refl, ap, ◌∙◌, subst}
use Rattle.lorel_bound.specs.Bound.{bound_cond}
use Rattle.lorel_eval.specs.Tests.{CondOver}
use Rattle.index_eval.specs.declared.listing.Listed.{Listed}
use Rattle.index_eval.specs.inside.Listing.{AreObjectsOf, cond_over}
use Rattle.index_eval.proofs.SplitLaws.{split_members}
use Rattle.index_eval.proofs.split.split_at_member.Goals as goal

pub returns : goal.returns
returns g c =
    let readers = c.args.readers.now in
    let edges = g.G.Adjacent.edges readers.graph.now in
    let objects = g.G.ValueOf.objects readers.graph.now in
    let over = cond_over readers.labels.now edges objects in
    let own = subst (λ (found : Option Listed). IfSome found (AreObjectsOf readers.labels.now edges objects (bound_cond c.args.own.now))) c.in-Some.is
    c.in_ok-listed.ensures in
    let first = c.in_ok-push_tests.ensures ∙ ap (λ (l : List CondOver). l ++ map over c.args.before.now) c.new-others.ensures.items in
    let tests = c.in_ok-push_tests-2.ensures ∙ ap (λ (l : List CondOver). l ++ map over c.args.behind.now) first in
    split_members readers.labels.now edges objects (c.args.before.now ++ c.args.own.now ∷ c.args.behind.now) c.args.before.now c.args.behind.now
    c.args.own.now c.in-Some.listed c.push_tests-2.new.tests.items refl own tests
