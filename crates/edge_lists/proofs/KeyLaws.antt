-- Links and the numbers that stand for them.
use Rattle.std.proofs.Common.{◌≡◌, ℕ, zero, suc, ◌+◌, ◌-◌, Option, Some, None, refl, ap, arith}
use Rattle.std.specs.Option.{IfSome}
use Rattle.slab.specs.Slab.{Slab, ContainsKey}
use Rattle.edge_lists.specs.Types.{EdgeRecord}
use Rattle.edge_lists.specs.Links.{unpacked, Fits}

pub packed-key : (key : ℕ) → unpacked (key + 1) ≡ Some key
packed-key key = let more : key + 1 ≡ suc key = omega arith in ap unpacked more

pub unpacked-key : (number : ℕ) → (number ≡ 0 → ⊥) → Some (number - 1) ≡ unpacked number
unpacked-key zero some = absurd (some refl)
unpacked-key (suc key) some = let less : suc key - 1 ≡ key = omega arith in ap (λ k. Some k) less

pub all-fit : (records : Slab EdgeRecord) → ((key : ℕ) → ContainsKey records key → Fits (Some key)) → (link : Option ℕ)
    → IfSome link (ContainsKey records) → Fits link
all-fit records fit None leads = leads
all-fit records fit (Some key) leads = fit key leads
