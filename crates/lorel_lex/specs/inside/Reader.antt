-- What a reader of chunks holds, and what is always so of it.
use Rattle.std.specs.Prelude.{◌≡◌, ◌≤◌, [], length, unwrap_or, is_some, IfSome}
use Rattle.lorel_lex.specs.Types.{CHUNK_BYTES}
use Rattle.lorel_lex.specs.declared.scan.State.TheVariants.{Plain}
use Rattle.lorel_lex.specs.declared.chunk_reader.Chunks.TheInside.{Inside}
use Rattle.lorel_lex.specs.Progress.{Progress}
use Rattle.lorel_lex.specs.Scan.{scanned, IsOpen}

-- a chunk that waits stands apart, and the bytes held are then none
abbrev pub progress_of : Inside → Progress
progress_of reader = record {
  held = unwrap_or reader.ready reader.held.items;
  whole = is_some reader.ready;
  failed = reader.failed;
}

-- the state is that behind the bytes held, which no `;` ends
pub record IsReader (reader : Inside) : Type 0 where
  pub unended : IsOpen reader.held.items
  pub state : reader.state ≡ scanned Plain reader.held.items
  pub sized : length reader.held.items ≤ CHUNK_BYTES
  pub emptied : IfSome reader.ready (λ _. reader.held.items ≡ [])
