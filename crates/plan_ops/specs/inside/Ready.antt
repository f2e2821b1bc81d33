-- Steps whose paths are made ready, as the steps of the plan that they are.
use Rattle.std.specs.Prelude.{ℕ, List}
use Rattle.lore_base.specs.Paths.{PathTree, path_tree}
use Rattle.lore_base.specs.TargetSets.{ListsInOrder}
use Rattle.word_walks.specs.WordWalks.{IsItsWord}
use Rattle.lorel_bound.specs.Plans.{StepTree, forward, from_guide, from_value, backward, check, filter}
use Rattle.plan_ops.specs.Types.{Oid}
pub use Rattle.plan_ops.specs.declared.ready_steps.ReadyStep.{ReadyStep}
use Rattle.plan_ops.specs.declared.ready_steps.ReadyStep.TheVariants as ready

abbrev pub ready_tree : ReadyStep → StepTree
ready_tree (ready.Forward start route slot) = forward start (path_tree route) slot
ready_tree (ready.AlongWord start path word slot) = forward start (path_tree path.now) slot
ready_tree (ready.FromGuide named path objects slot) = from_guide named (path_tree path.now) slot
ready_tree (ready.FromValue label op value rest slot) = from_value label op value.now (path_tree rest) slot
ready_tree (ready.Backward child way parent) = backward child (path_tree way) parent
ready_tree (ready.Check child way named) = check child (path_tree way) named
ready_tree ready.Filter = filter

-- where the guide is asked, what it tells is at hand; and where a path is a word, that word
abbrev pub HasFound : List (List ℕ) → (PathTree → Oid → Oid → Type 0) → ReadyStep → Type 0
HasFound labels reaches (ready.AlongWord start path word slot) = IsItsWord labels (path_tree path.now) word
HasFound labels reaches (ready.FromGuide named path objects slot) = ListsInOrder (reaches (path_tree path.now) named) objects
HasFound labels reaches step = Unit {0}
