use Rattle.std.proofs.Common.{rules, ◌≡◌, ◌≤◌, ◌<◌, ◌+◌, ◌++◌, ◌∷◌, ℕ, List, [], length, Some, slice_get, refl, sym, ap, subst, ◌∙◌, arith}
use Rattle.std.proofs.Math.Seq.{get_or-append_seam}
use Rattle.std.proofs.lemmas.List.{length_push, length-append, append_assoc, append-nil}
use Rattle.std.proofs.lemmas.Option.{slice_get-get_or}
use Rattle.lore_base.specs.Types.{Oid}
use Rattle.lore_base.proofs.name_table.Names.get.Invariants.{Passes}
use Rattle.lore_base.proofs.name_table.Names.get.Goals as goal

-- what stands behind a front is found at its length
at_seam : {X : Type 0} (front : List X) (x : X) (rest : List X) → slice_get (front ++ x ∷ rest) (length front) ≡ Some x
at_seam front x rest =
    slice_get-get_or (front ++ x ∷ rest) (length front) x (omega (arith, length-append front (x ∷ rest)))
    ∙ ap Some (get_or-append_seam front x rest x)

pub names-init : goal.names-init
names-init c = record {
  passed = [];
  whole = search rules;
  many = refl;
  early = omega arith;
}

pub returns-then-before-place-clause-some : goal.returns-then-before-place-clause-some
returns-then-before-place-clause-some c =
    let i = c.names.invariant in
    let entry : List ℕ × Oid = (c.in-Some.name.now, c.in-Some.oid.now) in
    let whole = ap (λ (l : List (List ℕ × Oid)). i.passed ++ l) (sym c.in-Some.ensures.steps) ∙ i.whole in
    ap (slice_get c.args.self.now) (sym (i.many ∙ c.if-before-place.true))
    ∙ sym (ap (λ (l : List (List ℕ × Oid)). slice_get l (length i.passed)) whole)
    ∙ at_seam i.passed entry c.next.new.self

pub overflow_add-before : goal.overflow_add-before
overflow_add-before c = omega (arith, c.names.invariant.early, c.ranges.place.fits)

pub names-preserved : goal.names-preserved
names-preserved c =
    let i = c.names.invariant in
    let entry : List ℕ × Oid = (c.in-Some.name.now, c.in-Some.oid.now) in
    record {
      passed = i.passed ++ entry ∷ [];
      whole = append_assoc i.passed (entry ∷ []) c.next.new.self
          ∙ ap (λ (l : List (List ℕ × Oid)). i.passed ++ l) (sym c.in-Some.ensures.steps) ∙ i.whole;
      many = length_push i.passed entry ∙ ap (λ (n : ℕ). n + 1) i.many;
      early = omega (arith, i.early, c.if-before-place.false);
    }

pub returns-clause-none : goal.returns-clause-none
returns-clause-none c =
    let i = c.names.invariant in
    let none = ap (λ (l : List (List ℕ × Oid)). i.passed ++ l) c.in-None.ensures.steps.0 in
    omega (arith, i.early, i.many, ap (λ (l : List (List ℕ × Oid)). length l) (sym (append-nil i.passed) ∙ sym none ∙ i.whole))
