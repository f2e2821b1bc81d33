use Rattle.std.proofs.Common.{◌≡◌, ◌<◌, ◌++◌, ◌∷◌, [], ℕ, List, length, set, ap, ◌∙◌, arith}
use Rattle.std.specs.Prelude.{slice_index_or, slice_set}
use Rattle.std.proofs.lemmas.List.{get_or_default}
use Rattle.block_haste.proofs.FileLaws.{KeepLists-same, KeepLists-then, KeepLists-push, KeepLists-put, filed_here}
use Rattle.block_haste.proofs.moving.file.Goals as goal

pub lists-init : goal.lists-init
lists-init c = KeepLists-same c.args.lists.now.items

pub lists-preserved : goal.lists-preserved
lists-preserved c =
    KeepLists-then c.args.lists.now.items c.lists.lists.items c.push.new.self.items c.lists.invariant
    (KeepLists-push c.lists.lists.items c.push.new.self.items c.new.result c.in_ok-push.ensures.items)

pub returns-clause-kept : goal.returns-clause-kept
returns-clause-kept c =
    let lists = c.lists.lists.items in
    let number = c.args.number in
    let node = c.args.node in
    let within : number < length lists = omega (arith, c.lists-test.false, c.len.ensures, c.lists.lists.ok.0) in
    let own : c.index_mut.result.now ≡ slice_index_or lists number [] =
    c.index_mut.ensures.value ∙ get_or_default lists number c.index_mut.result.now [] within in
    let put : slice_set lists number c.push-2.new.self ≡ set lists number (slice_index_or lists number [] ++ node ∷ []) =
    ap (λ (l : List ℕ). set lists number l) (c.in_ok-push-2.ensures.ok ∙ ap (λ (l : List ℕ). l ++ node ∷ []) own) in
    KeepLists-then c.args.lists.now.items lists (slice_set lists number c.push-2.new.self) c.lists.invariant
    (KeepLists-put lists (slice_set lists number c.push-2.new.self) number node within put)

pub returns-clause-here : goal.returns-clause-here
returns-clause-here c =
    let lists = c.lists.lists.items in
    let number = c.args.number in
    let node = c.args.node in
    let within : number < length lists = omega (arith, c.lists-test.false, c.len.ensures, c.lists.lists.ok.0) in
    let own : c.index_mut.result.now ≡ slice_index_or lists number [] =
    c.index_mut.ensures.value ∙ get_or_default lists number c.index_mut.result.now [] within in
    let put : slice_set lists number c.push-2.new.self ≡ set lists number (slice_index_or lists number [] ++ node ∷ []) =
    ap (λ (l : List ℕ). set lists number l) (c.in_ok-push-2.ensures.ok ∙ ap (λ (l : List ℕ). l ++ node ∷ []) own) in
    filed_here lists (slice_set lists number c.push-2.new.self) number node within put
