-- Links: keys of records, or none, each in the space of one number.
use Rattle.std.specs.Prelude.{ℕ, zero, suc, ◌+◌, ◌<◌, ◌^◌, Option, Some, None}
use Rattle.std.specs.Option.{IfSome}

-- the key that a number stands for: the one below it, and none for 0
abbrev pub unpacked : ℕ → Option ℕ
unpacked zero = None
unpacked (suc key) = Some key

-- a number stands for it
abbrev pub Fits : Option ℕ → Type 0
Fits link = IfSome link (λ key. key + 1 < 2 ^ 64)
