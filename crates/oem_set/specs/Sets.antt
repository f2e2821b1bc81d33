-- Sets of objects, as the lists of their numbers in ascending order.
use Rattle.std.specs.Prelude.{ℕ, ◌+◌, ◌*◌, ◌%◌, ◌^◌, ◌<◌, List, AllPairs, fold}
use Rattle.oem_set.specs.Types.{Oid}

-- the numbers ascend, so no object stands twice
abbrev pub IsSet : List Oid → Type 0
IsSet oids = AllPairs (λ a b. a.0 < b.0) oids

-- the hash of a list: the value at a fixed number of the polynomial whose coefficients are the objects' numbers, in
-- 64 bits
unfoldable pub hash_of : List Oid → ℕ
hash_of oids = fold (λ hash oid. (hash * 6_364_136_223_846_793_005 % 2 ^ 64 + oid.0) % 2 ^ 64) 0 oids
