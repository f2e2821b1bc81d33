-- How bytes go through the buffer of replies to the sink.
use Rattle.std.specs.Prelude.{ℕ, List, [], Option}
use Rattle.std.specs.Io.KnownBytes.{Appends, append_known}
use Rattle.lore_base.specs.Pieces.{OutState, PassesOn}

-- bytes that go to a sink by way of a buffer: those put are those written, where the sink tells them, and those that
-- the buffer holds behind them
abbrev pub passing : ℕ → Option (List ℕ) → List ℕ → ℕ → OutState
passing sink written held faults =
    record { bytes = append_known written held; faults = faults; place = sink; passed = written }

-- bytes that are held may go on, and none comes or goes
pub record HandsOn (before after : OutState) : Type 0 where
  pub same_bytes : Appends before.bytes after.bytes []
  pub passes : PassesOn before after
