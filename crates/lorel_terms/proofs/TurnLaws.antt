-- A recursion on a count of turns, beside a loop that counts up, and one on a count of levels.
use Rattle.std.proofs.Common.{◌≡◌, ℕ, suc, ◌+◌, ◌-◌, ◌<◌, ap, ◌∙◌, arith}

pub one_more : {X : Type 0} {x : X} (f : ℕ → X) (turns at : ℕ) → at < turns → x ≡ f (turns - at) → x ≡ f (suc (turns - (at + 1)))
one_more f turns at below is = let turn : turns - at ≡ suc (turns - (at + 1)) = omega arith in is ∙ ap f turn

pub deeper : {X : Type 0} (f : ℕ → X) (levels : ℕ) → 0 < levels → f levels ≡ f (suc (levels - 1))
deeper f levels some = let level : levels ≡ suc (levels - 1) = omega arith in ap f level
