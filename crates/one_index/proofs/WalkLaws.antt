-- Walks of objects and of blocks.
use Rattle.std.proofs.Common.{◌≡◌, ◌↔◌, ℕ, inl, inr, None, Some, List, [], ◌∷◌, Contains, refl, sym, ap, ◌∙◌, subst, arith}
use Rattle.std.specs.List.{slice_get}
use Rattle.std.specs.Prelude.{Option, IfSome, IfNone}
use Rattle.std.proofs.lemmas.Option.{none-some, same_Some}
use Rattle.lore_base.specs.Paths.{PathTree}
use Rattle.lore_base.specs.TargetSets.{ListsInOrder}
use Rattle.lore_base.proofs.MemberLaws.{Contains-none}
use Rattle.oem_set.specs.Sets.{IsSet}
use Rattle.lore_base.specs.Walks.{edge_of, Walk}
use Rattle.set_walk.specs.SetPaths.{LeadsAlong, IsReachedBySets}
use Rattle.one_index.specs.Types.{Oid, Label, Block}
use Rattle.one_index.specs.Blocks.{NamedGraph, IsSound, BelongTogether, IsMember, HasEdge, AreBlocksOf}
use Rattle.one_index.specs.BlockLaws.{BlocksTellWalks, AnswersAreUnions}
use Rattle.one_index.specs.BlockReaches.{BlocksOver, TellsReached, TellsOf}

module _ (graph : NamedGraph) where
  -- an object that belongs together with one that is entered is entered alike
  entered_together : (x y parent : Oid) (label : Label) → BelongTogether graph x y → Contains graph.edges (edge_of parent label x)
      → (other : Oid) × Contains graph.edges (edge_of other label y) × BelongTogether graph parent other
  entered_together x y parent label (inl one) edge =
      (parent, subst (λ (z : Oid). Contains graph.edges (edge_of parent label z)) one edge, inl refl)
  entered_together x y parent label (inr held) edge =
      let step = held.1.entered x y parent label held.2 edge in
      (step.0, step.1, inr (held.0, held.1, step.2))

  -- what belongs together with a named object is that object
  named_alone : (name : List ℕ) (x y : Oid) → IsSound graph → Contains graph.names (name, x) → BelongTogether graph x y → x ≡ y
  named_alone name x y sound named (inl one) = one
  named_alone name x y sound named (inr held) = sound.one name x y named ((held.1.named x y held.2 name).0 named)

module _ (graph : NamedGraph) (blocks : List Block) (sound : IsSound graph) (are : AreBlocksOf graph blocks) where
  -- a walk of objects is one of their blocks
  walked_blocks : (word : List Label) (x y : Oid) (from : ℕ) → IsMember blocks from x → Walk graph.edges x word y
      → (last : ℕ) × LeadsAlong (HasEdge blocks) from word last × IsMember blocks last y
  walked_blocks [] x y from member walk = (from, refl, subst (λ (z : Oid). IsMember blocks from z) walk member)
  walked_blocks (label ∷ word) x y from member walk =
      let live = (sound.linked (edge_of x label walk.0) walk.1).1 in
      let next = are.every walk.0 live in
      let rest = walked_blocks word walk.0 y next.0 next.1 walk.2 in
      let edge = (are.linked from label next.0).1
      (record { parent = x; child = walk.0; parent_in = member; child_in = next.1; edge = walk.1 }) in
      (rest.0, (next.0, edge, rest.1), rest.2)

  -- a walk of blocks to an object's block is one of objects, from some object of the first block
  walked_objects : (word : List Label) (from last : ℕ) (y : Oid) → LeadsAlong (HasEdge blocks) from word last → IsMember blocks last y
      → (x : Oid) × IsMember blocks from x × Walk graph.edges x word y
  walked_objects [] from last y leads member = (y, subst (λ (n : ℕ). IsMember blocks n y) (sym leads) member, refl)
  walked_objects (label ∷ word) from last y leads member =
      let rest = walked_objects word leads.0 last y leads.2 member in
      let link = (are.linked from label leads.0).0 leads.1 in
      let together = (are.exact leads.0 leads.0 link.child rest.0 link.child_in rest.1).0 refl in
      let step = entered_together graph link.child rest.0 link.parent label together link.edge in
      let live = (sound.linked (edge_of step.0 label rest.0) step.1).0 in
      let at = are.every step.0 live in
      let same = (are.exact from at.0 link.parent step.0 link.parent_in at.1).1 step.2 in
      (step.0, subst (λ (n : ℕ). IsMember blocks n step.0) (sym same) at.1, (rest.0, step.1, rest.2))

  pub told_walks : (name : List ℕ) (named : Oid) (entry : ℕ) → Contains graph.names (name, named) → IsMember blocks entry named
      → (word : List Label) (oid : Oid)
      → ((last : ℕ) × LeadsAlong (HasEdge blocks) entry word last × IsMember blocks last oid) ↔ Walk graph.edges named word oid
  told_walks name named entry is_named member word oid = (
    λ led.
        let start = walked_objects word entry led.0 oid led.1 led.2 in
        let together = (are.exact entry entry named start.0 member start.1).0 refl in
        let same = named_alone graph name named start.0 sound is_named together in
        subst (λ (x : Oid). Walk graph.edges x word oid) (sym same) start.2,
    λ walk. walked_blocks word named oid entry member walk,
  )

  -- so blocks tell what paths reach
  pub blocks_tell : (labels : List (List ℕ)) → TellsOf (record { blocks = blocks; labels = labels }) graph.names graph.edges
  blocks_tell labels name named is path oid = (
    λ told. (told.word, told.spelled, (told_walks name named told.entry is told.enters told.word oid).0 (told.last, told.leads, told.member)),
    λ reached.
        let entry = are.every named (sound.named name named is) in
        let led = (told_walks name named entry.0 is entry.1 reached.0 oid).1 reached.2 in
        record {
          entry = entry.0;
          enters = entry.1;
          word = reached.0;
          spelled = reached.1;
          last = led.0;
          leads = led.1;
          member = led.2;
        },
  )

pub tell_walks : BlocksTellWalks
tell_walks graph blocks sound are = told_walks graph blocks sound are

-- ---- the blocks as a graph of sets
module _ (blocks : List Block) (number : ℕ) where
  pub edges-shown : (block : Block) → slice_get blocks number ≡ Some block → (label : Label) (next : ℕ)
      → Contains block.edges (label, next) ↔ HasEdge blocks number label next
  edges-shown block at label next = (
    λ edge. (block, at, edge),
    λ edge.
        let same : edge.0 ≡ block = same_Some edge.0 block (sym edge.1 ∙ at) in
        subst (λ (b : Block). Contains b.edges (label, next)) same edge.2,
  )

  pub no-edges : slice_get blocks number ≡ None → (label : Label) (next : ℕ) → Contains {X = Label × ℕ} [] (label, next) ↔ HasEdge blocks number label next
  no-edges none label next = (
    λ edge. absurd (Contains-none (label, next) edge),
    λ edge. absurd (none-some edge.0 (sym none ∙ edge.1)),
  )

  pub members-shown : (block : Block) → slice_get blocks number ≡ Some block → IsSet block.members
      → ListsInOrder (IsMember blocks number) block.members
  members-shown block at ascend = record {
    ascending = ascend;
    exact = λ oid. (
      λ held. (block, at, held),
      λ member.
          let same : member.0 ≡ block = same_Some member.0 block (sym member.1 ∙ at) in
          subst (λ (b : Block). Contains b.members oid) same member.2,
    );
  }

  pub no-members : slice_get blocks number ≡ None → ListsInOrder (IsMember blocks number) []
  no-members none = record {
    ascending = λ i j d less within. absurd (omega (arith, within));
    exact = λ oid. (
      λ held. absurd (Contains-none oid held),
      λ member. absurd (none-some member.0 (sym none ∙ member.1)),
    );
  }

-- from the block of the named object, if it has one, its sets tell what the blocks tell
pub told-by-blocks : (told : BlocksOver) (path : PathTree) (named : Oid) (start : Option ℕ)
    → IfSome start (λ number. IsMember told.blocks number named)
    → IfSome start (λ number. (other : ℕ) → IsMember told.blocks other named → other ≡ number)
    → IfNone start ((number : ℕ) → IsMember told.blocks number named → ⊥) → (oid : Oid)
    → IsReachedBySets told.labels (HasEdge told.blocks) (IsMember told.blocks) path start oid ↔ TellsReached told path named oid
told-by-blocks told path named None found only none oid = (
  λ reached. absurd (none-some reached.entry reached.enters),
  λ tells. absurd (none tells.entry tells.enters),
)
told-by-blocks told path named (Some number) found only none oid = (
  λ reached. record {
    entry = reached.entry;
    enters = subst (λ (n : ℕ). IsMember told.blocks n named) (same_Some number reached.entry reached.enters) found;
    word = reached.word;
    spelled = reached.spelled;
    last = reached.last;
    leads = reached.leads;
    member = reached.member;
  },
  λ tells. record {
    entry = tells.entry;
    enters = ap (λ (n : ℕ). Some n) (sym (only tells.entry tells.enters));
    word = tells.word;
    spelled = tells.spelled;
    last = tells.last;
    leads = tells.leads;
    member = tells.member;
  },
)

-- the same of the value that blocks and label texts are seen as
pub told-as-seen : (told seen : BlocksOver) (path : PathTree) (named : Oid) (start : Option ℕ) → told ≡ seen
    → IfSome start (λ number. IsMember told.blocks number named)
    → IfSome start (λ number. (other : ℕ) → IsMember told.blocks other named → other ≡ number)
    → IfNone start ((number : ℕ) → IsMember told.blocks number named → ⊥) → (oid : Oid)
    → IsReachedBySets told.labels (HasEdge told.blocks) (IsMember told.blocks) path start oid ↔ TellsReached seen path named oid
told-as-seen told seen path named start same found only none oid =
    subst (λ (p : BlocksOver). IsReachedBySets told.labels (HasEdge told.blocks) (IsMember told.blocks) path start oid
    ↔ TellsReached p path named oid) same (told-by-blocks told path named start found only none oid)

pub answers_are_unions : AnswersAreUnions
answers_are_unions graph told are number x y x_in y_in path named reached =
    let same : number ≡ reached.last = (are.exact number reached.last x x x_in reached.member).1 (inl refl) in
    record {
      entry = reached.entry;
      enters = reached.enters;
      word = reached.word;
      spelled = reached.spelled;
      last = reached.last;
      leads = reached.leads;
      member = subst (λ (n : ℕ). IsMember told.blocks n y) same y_in;
    }
