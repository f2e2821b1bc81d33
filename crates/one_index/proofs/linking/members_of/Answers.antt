use Rattle.std.proofs.Common.{◌↔◌, ℕ, List, get_or, Contains, sym, subst, arith}
use Rattle.std.proofs.lemmas.Option.{slice_get-get_or}
use Rattle.one_index.specs.Types.{Oid}
use Rattle.one_index.specs.inside.Places.{IsAtBelow}
use Rattle.one_index.proofs.LinkLaws.{members-none, members-more, at_all}
use Rattle.one_index.proofs.linking.members_of.Goals as goal

pub objects-init : goal.objects-init
objects-init c number x =
    subst (λ (l : List (ℕ × Oid)). Contains l (number, x) ↔ IsAtBelow 0 c.args.objects.now c.args.numbers.now x number)
    (sym c.in_ok-members.ensures.items) (members-none c.args.objects.now c.args.numbers.now number x)

pub objects-preserved : goal.objects-preserved
objects-preserved c =
    let objects = c.args.objects.now in
    let place = c.objects.place in
    let oid : Oid = get_or objects place (record { 0 = 0 }) in
    members-more objects c.args.numbers.now place oid c.objects.members.items c.push.new.self.items
    (slice_get-get_or objects place (record { 0 = 0 }) c.objects-test.true) c.in_ok-push.ensures.items c.objects.invariant

pub returns : goal.returns
returns c number oid =
    let told = c.objects.invariant number oid in
    let all = at_all c.args.objects.now c.args.numbers.now c.objects.place oid number (omega arith) in
    (λ at. all.0 (told.0 at), λ at. told.1 (all.1 at))
