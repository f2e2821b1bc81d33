use Rattle.std.proofs.Common.{take, ◌≡◌, ◌≤◌, ◌+◌}
use Rattle.std.specs.Prelude.{vec_capacity, vec_len}
use Rattle.link_index.specs.inside.Records.{ArePut}
use Rattle.link_index.proofs.changes.put_links.Given as goal

abbrev pub invariant-come : goal.invariant-come
invariant-come l = record {
  put : ArePut (take l.link-index l.come) l.fn.records.items l.heads.items l.records.items;
  heads_len : vec_len l.heads ≤ vec_len l.fn.heads + l.link-index;
  heads_capacity : vec_capacity l.heads ≡ vec_capacity l.fn.heads;
  len : vec_len l.records ≤ vec_len l.fn.records + l.link-index;
  capacity : vec_capacity l.records ≡ vec_capacity l.fn.records;
}
