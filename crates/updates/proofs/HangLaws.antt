-- Each object of a literal hangs below its first one: what holds of that one, and goes along edges that lead to what
-- stands there in the text, holds of all.
use Rattle.std.proofs.Common.{◌≡◌, ◌⊎◌, ℕ, zero, suc, ◌+◌, ◌-◌, ◌<◌, ◌≤◌, List, [], ◌∷◌, ◌++◌, length, length-append, Contains, refl, sym, subst, inl, inr, arith}
use Rattle.std.proofs.lemmas.Bool.{cases_lt}
use Rattle.std.proofs.lemmas.List.Elements.{Contains-append_left, Contains-append_right}
use Rattle.lore_base.proofs.MemberLaws.{Contains-head, Contains-tail}
use Rattle.lorel_trees.specs.Trees.{LiteralTree, local, atom, node, MemberTrees, none, more}
use Rattle.oem_text.specs.Literals.{Target, placed, called, Arc, bodies, member_bodies, target, arcs, member_arcs}

-- a literal that begins with an object has it at its place
placed_first : (place k : ℕ) (literal : LiteralTree) → k < length (bodies literal) → target place literal ≡ placed place
placed_first place k (local number) low = absurd (omega (arith, low))
placed_first place k (atom mark value) low = refl
placed_first place k (node mark members) low = refl

mutual
  pub hang : (P : ℕ → Type 0) (place : ℕ) (literal : LiteralTree)
      → ((arc : Arc) (child : ℕ) → Contains (arcs place literal) arc → arc.target ≡ placed child → P arc.parent → P child)
      → P place → (k : ℕ) → k < length (bodies literal) → P (place + k)
  hang P place (local number) steps first k low = absurd (omega (arith, low))
  hang P place (atom mark value) steps first k low =
      let same : place ≡ place + k = omega (arith, low) in subst P same first
  hang P place (node mark members) steps first zero low =
      let same : place ≡ place + 0 = omega arith in subst P same first
  hang P place (node mark members) steps first (suc k) low =
      let same : (place + 1) + k ≡ place + suc k = omega arith in
      let inner : k < length (member_bodies members) = omega (arith, low) in
      subst P same (hang_members P place (place + 1) members steps first k inner)

  hang_members : (P : ℕ → Type 0) (parent place : ℕ) (members : MemberTrees)
      → ((arc : Arc) (child : ℕ) → Contains (member_arcs parent place members) arc → arc.target ≡ placed child → P arc.parent → P child)
      → P parent → (k : ℕ) → k < length (member_bodies members) → P (place + k)
  hang_members P parent place none steps first k low = absurd (omega (arith, low))
  hang_members P parent place (more label literal others) steps first k low =
      let inner = arcs place literal in
      let outer = member_arcs parent (place + length (bodies literal)) others in
      let arc : Arc = record { parent = parent; label = label; target = target place literal } in
      let split : length (bodies literal ++ member_bodies others) ≡ length (bodies literal) + length (member_bodies others) =
      length-append (bodies literal) (member_bodies others) in
      elim (cases_lt k (length (bodies literal))) [
        | inl here ↦ hang P place literal
            (λ (other : Arc) child there is held. steps other child
            (Contains-tail arc (inner ++ outer) other (Contains-append_left inner outer other there)) is held)
            (steps arc place (Contains-head arc (inner ++ outer)) (placed_first place k literal here) first) k here
        | inr later ↦
            let left : k - length (bodies literal) < length (member_bodies others) = omega (arith, later, split, low) in
            let same : (place + length (bodies literal)) + (k - length (bodies literal)) ≡ place + k = omega (arith, later) in
            subst P same (hang_members P parent (place + length (bodies literal)) others
            (λ (other : Arc) child there is held. steps other child
            (Contains-tail arc (inner ++ outer) other (Contains-append_right inner outer other there)) is held)
            first (k - length (bodies literal)) left)
      ]
