use Rattle.std.proofs.Common.{◌↔◌, ℕ, Contains}
use Rattle.one_index.specs.Types.{Oid}
use Rattle.one_index.specs.inside.Places.{IsAtBelow}
use Rattle.one_index.proofs.linking.members_of.Given as goal

abbrev pub invariant-objects : goal.invariant-objects
invariant-objects l = (number : ℕ) (oid : Oid)
    → Contains l.members.items (number, oid) ↔ IsAtBelow l.place l.objects l.numbers oid number
