use Rattle.std.proofs.Common.{◌≡◌, ℕ, ◌-◌, ◌<◌, nat_lt, IsTrue, length, Some, sym, ap, ◌∙◌, arith}
use Rattle.std.specs.List.{slice_get}
use Rattle.std.specs.Prelude.{option_copied}
use Rattle.std.proofs.lemmas.Bool.Decides.{nat_tests}
use Rattle.std.proofs.lemmas.Option.{get_or_from_slice_get}
use Rattle.oem_set.specs.Types.{Oid}
use Rattle.oem_set.proofs.AppendLaws.{IsSet-append}
use Rattle.oem_set.proofs.oid_set.come_behind.Goals as goal

below : (a b : ℕ) → IsTrue (nat_lt a b) → a < b
below a b less = grind (arith, nat_tests)

pub returns-in-Some-first : goal.returns-in-Some-first
returns-in-Some-first c = λ less.
    let front = c.args.first.now in
    let back = c.args.second.now in
    let last = c.in-Some.last.now in
    let next = c.in-Some-first.next.now in
    let at_end : slice_get front (length front - 1) ≡ Some last = sym c.last.ensures.value ∙ ap option_copied c.in-Some.is in
    let at_start : slice_get back 0 ≡ Some next = sym c.first.ensures.value ∙ ap option_copied c.in-Some-first.is in
    let lower : last.0 < next.0 = below last.0 next.0 less in
    IsSet-append front back c.requires.first c.requires.second (λ d some other.
    omega (
      arith,
      lower,
      ap (λ (o : Oid). o.0) (get_or_from_slice_get front (length front - 1) last d at_end),
      ap (λ (o : Oid). o.0) (get_or_from_slice_get back 0 next d at_start),
    ))
