-- Sources and sinks in memory: what contracts see of them.
use Rattle.std.specs.Prelude.{ℕ, ◌+◌, ◌-◌, ◌^◌, min, List}

-- a source over bytes in memory: the bytes left, the most that one read gives, the numbers of the calls that
-- fail, and how many calls were made and how many faults were counted
pub record SourceState : Type 0 where
  pub left : List ℕ
  pub piece : ℕ
  pub fails : List ℕ
  pub calls : ℕ
  pub faults : ℕ

-- a source that never fails: the bytes left, and the most that one read gives
pub record SureSourceState : Type 0 where
  pub left : List ℕ
  pub piece : ℕ

-- a sink into memory: the bytes written, for how many there is still room, and the rest as in a source
pub record SinkState : Type 0 where
  pub written : List ℕ
  pub room : ℕ
  pub piece : ℕ
  pub fails : List ℕ
  pub calls : ℕ
  pub faults : ℕ

-- one more call or fault; the count stops at 2 ^ 64 - 1
abbrev pub call_after : ℕ → ℕ
call_after calls = min (calls + 1) (2 ^ 64 - 1)
