-- What the lists of a layout stand for: the objects of a literal as parts of its tree, and its edges; and the labels that
-- have numbers.
use Rattle.std.specs.Prelude.{◌≢◌, ◌≤◌, ℕ, List, length, map, None, Bool, if◌then◌else◌, AllPairs}
use denote.Ref.{Bor}
use Rattle.oem_text.specs.Types.{Complex, LABELS}
use Rattle.lorel_trees.specs.Trees.{LiteralTree, local, atom, node, literal_tree}
use Rattle.lorel_trees.specs.declared.literals.Literal.{Literal}
use Rattle.oem_text.specs.Literals.{Body, Target, placed, called, Arc}
use Rattle.oem_text.specs.Layouts.{PlacedArc, LaidOut, NumberedTexts, table_of}
use Rattle.oem_text.specs.declared.flat.Link.{Link}

-- the object that begins with this part of a literal; a local begins none
abbrev pub body_of : LiteralTree → Body
body_of (local number) = record { mark = None; value = Complex }
body_of (atom mark value) = record { mark = mark; value = value }
body_of (node mark members) = record { mark = mark; value = Complex }

abbrev pub bodies_of : List (Bor Literal) → List Body
bodies_of literals = map (λ literal. body_of (literal_tree literal.now)) literals

-- what an edge leads to: a local by its number, or a place
abbrev pub target_of : Bool → ℕ → Target
target_of is_local child = if is_local then called child else placed child

abbrev pub arc_of : Link → Arc
arc_of link = record { parent = link.parent; label = link.label.now; target = target_of link.is_local link.child }

abbrev pub link_arcs : List Link → List Arc
link_arcs links = map arc_of links

-- the edge where its local is resolved
abbrev pub placed_of : Link → PlacedArc
placed_of link = record { parent = link.parent; label = link.label.now; child = link.child }

abbrev pub laid_out : List (Bor Literal) → List Link → LaidOut
laid_out literals links = record {
  values = map (λ body. body.value) (bodies_of literals);
  arcs = map placed_of links;
}

-- the texts of a table, and of those that came since
abbrev pub numbered_texts : List (List ℕ) → List (List ℕ) → NumberedTexts
numbered_texts known come = record { known = known; come = come }

-- no text stands twice, and there are no more than a table holds
pub record AreNumbered (numbers : NumberedTexts) : Type 0 where
  pub distinct : AllPairs (λ a b. a ≢ b) (table_of numbers)
  pub few : length (table_of numbers) ≤ LABELS
