-- Lists read at a place: grown at their end, and cut out of another list.
use Rattle.std.proofs.Common.{◌≡◌, ℕ, ◌+◌, ◌-◌, ◌<◌, ◌≤◌, List, [], length, take, drop, get_or, Some, sym, ap, ◌∙◌, arith}
use Rattle.std.specs.List.{slice_get, Contains}
use Rattle.std.proofs.lemmas.List.{append-nil, length-append, get_or-take, get_or-drop, length-take, length-drop}
use Rattle.std.proofs.lemmas.Option.{slice_get_within, slice_get-get_or, get_or_from_slice_get, same_Some}
use Rattle.lore_base.specs.Lists.{Extends}
use Rattle.list_laws.proofs.PlaceLaws.{slice_get-append_left}

module _ {X : Type 0} where
  pub one_at_place : (xs : List X) (k : ℕ) (x y : X) → slice_get xs k ≡ Some x → slice_get xs k ≡ Some y → x ≡ y
  one_at_place xs k x y first second = same_Some x y (sym first ∙ second)

  -- a list that grew at its end
  pub Extends-refl : (xs : List X) → Extends xs xs
  Extends-refl xs = ([], sym (append-nil xs))

  pub kept_at : (old new : List X) (k : ℕ) (x : X) → Extends old new → slice_get old k ≡ Some x → slice_get new k ≡ Some x
  kept_at old new k x extends at = ap (λ l. slice_get l k) extends.1 ∙ slice_get-append_left old extends.0 k x at

  pub length-extends : (old new : List X) → Extends old new → length old ≤ length new
  length-extends old new extends = omega (arith, ap length extends.1, length-append old extends.0)

  -- what stood there before it grew
  pub was_at : (old new : List X) (k : ℕ) (x : X) → Extends old new → k < length old → slice_get new k ≡ Some x → slice_get old k ≡ Some x
  was_at old new k x extends within at =
      let before = slice_get-get_or old k x within in
      before ∙ ap Some (one_at_place new k (get_or old k x) x (kept_at old new k (get_or old k x) extends before) at)

  -- a part of a list
  pub in_part : (xs : List X) (from to k : ℕ) (x : X) → from ≤ k → k < to → slice_get xs k ≡ Some x → Contains (take (to - from) (drop from xs)) x
  in_part xs from to k x low high at =
      let within = slice_get_within xs k x at in (
        k - from,
        omega (arith, low, high, within, length-take (to - from) (drop from xs), length-drop from xs),
        get_or-take (to - from) (drop from xs) (k - from) x (omega (arith, low, high))
            ∙ get_or-drop from xs (k - from) x
            ∙ ap (λ i. get_or xs i x) (omega (arith, low))
            ∙ get_or_from_slice_get xs k x x at,
      )

  pub part_at : (xs : List X) (from to : ℕ) (x : X) → Contains (take (to - from) (drop from xs)) x
      → (k : ℕ) × (from ≤ k) × (k < to) × (slice_get xs k ≡ Some x)
  part_at xs from to x among =
      let lens = length-take (to - from) (drop from xs) in
      let left = length-drop from xs in (
        from + among.0,
        omega arith,
        omega (arith, among.1, lens),
        slice_get-get_or xs (from + among.0) x (omega (arith, among.1, lens, left))
            ∙ ap Some (sym (get_or-drop from xs among.0 x) ∙ sym (get_or-take (to - from) (drop from xs) among.0 x (omega (arith, among.1, lens))) ∙ among.2),
      )
